-- What the code returns where the rules have an answer or an option: Ok or Some with what a map makes of the value, Err with the refusal.
use Rattle.std.specs.Prelude.{ℕ, ◌+◌, cond, ltb, Option, Some, None, Result, Ok, Err}
use Rattle.std.proofs.Math.Option as Rules
use Rattle.rules.specs.Refusals.{Answer, taken, refused}
use Rattle.rules.specs.declared.refusal.Refusal.{Refusal}
use Rattle.rules.specs.declared.refusal.Refusal.TheVariants.{NoRoom}
use Rattle.rules.specs.declared.refusal.Refused.{Refused}

-- a refusal with its line
abbrev pub reply : {A B : Type 0} → (A → B) → Answer A → Result B Refused
reply of (taken a) = Ok (of a)
reply of (refused r l) = Err (record { refusal = r; line = l })

-- a refusal alone, whatever its line
abbrev pub plain_reply : {A B : Type 0} → (A → B) → Answer A → Result B Refusal
plain_reply of (taken a) = Ok (of a)
plain_reply of (refused r l) = Err r

-- a value where there is one
abbrev pub option : {A B : Type 0} → (A → B) → Rules.Option A → Option B
option of Rules.none = None
option of (Rules.some a) = Some (of a)

-- whether a buffer of a length has room for so many bytes from a place on
abbrev pub room_reply : ℕ → ℕ → ℕ → Result (Unit {0}) Refusal
room_reply length place bytes = cond (ltb length (place + bytes)) (Err NoRoom) (Ok tt)
