-- What a returned option or result says of the rules' own.
use Rattle.std.proofs.Common.{◌≡◌, refl, ap, ◌∙◌, ℕ, ◌+◌, ◌≤◌, ◌<◌, Bool, true, false, cond, ltb, Some, None, Result, Ok, Err}
use Rattle.std.specs.Result.{IsErrAnd}
use Rattle.std.proofs.lemmas.Result.{err_from_is_err_and}
use borrow.Author.Tests.{ltb-true, ltb-false}
use Rattle.std.proofs.Math.Option as Rules
use Rattle.laws.proofs.Tests.{never}
use Rattle.rules.specs.Refusals.{Answer, taken, refused, answered, and_then}
use Rattle.rules.specs.Results.{reply, plain_reply, option, room_reply}
use Rattle.rules.specs.Files.{at_line}
use Rattle.rules.specs.declared.refusal.Refusal.{Refusal}
use Rattle.rules.specs.declared.refusal.Refusal.TheVariants.{NoRoom}
use Rattle.rules.specs.declared.refusal.Refused.{Refused}

module _ {A B : Type 0} (of : A → B) where
  -- a value was there
  pub option_some : (o : Rules.Option A) {b : B} → option of o ≡ Some b → (a : A) × (o ≡ Rules.some a) × (of a ≡ b)
  option_some Rules.none {b} e = never cc
  option_some (Rules.some a) {b} e = (a, refl, cc)

  -- none was there
  pub option_none : (o : Rules.Option A) → option of o ≡ None → o ≡ Rules.none
  option_none Rules.none e = refl
  option_none (Rules.some a) e = cc

  -- a value was taken
  pub reply_ok : (a : Answer A) {b : B} → reply of a ≡ Ok b → (x : A) × (a ≡ taken x) × (of x ≡ b)
  reply_ok (taken x) {b} e = (x, refl, cc)
  reply_ok (refused r l) {b} e = never cc

  -- a refusal, with its line
  pub reply_err : (a : Answer A) {e : Refused} → reply of a ≡ Err e → a ≡ refused e.refusal e.line
  reply_err (taken x) {e} h = cc
  reply_err (refused r l) {e} h =
      let same : record { refusal = r; line = l } ≡ e = cc in
      rw (← same)

  -- the same where the line is left out
  pub plain_err : (a : Answer A) {r : Refusal} → plain_reply of a ≡ Err r → (l : ℕ) × (a ≡ refused r l)
  plain_err (taken x) {r} h = never cc
  plain_err (refused q l) {r} h = (l, cc)

  -- a refusal ends what would go on
  pub reply_stops : {C D : Type 0} (f : C → D) (g : C → Answer A) (a : Answer C) {e : Refused} → reply f a ≡ Err e → Err e ≡ reply of (and_then a g)
  reply_stops f g (taken x) {e} h = never cc
  reply_stops f g (refused r l) {e} h =
      let same : record { refusal = r; line = l } ≡ e = cc in
      rw (← same)

  -- no test was failed
  pub answered_ok : (o : Rules.Option Refusal) (a : A) {b : B} → reply of (answered o a) ≡ Ok b → (o ≡ Rules.none) × (of a ≡ b)
  answered_ok Rules.none a {b} e = (refl, cc)
  answered_ok (Rules.some r) a {b} e = never cc

  -- one was, at no line
  pub answered_err : (o : Rules.Option Refusal) (a : A) {e : Refused} → reply of (answered o a) ≡ Err e → (o ≡ Rules.some e.refusal) × (e.line ≡ 0)
  answered_err Rules.none a {e} h = never cc
  answered_err (Rules.some r) a {e} h =
      let same : record { refusal = r; line = 0 } ≡ e = cc in
      rw (← same) (refl, refl)

  -- a refusal is one whatever was asked for
  pub reply_refuses : {C D : Type 0} (f : C → D) (o : Rules.Option Refusal) (c : C) (a : A) {e : Refused} → reply f (answered o c) ≡ Err e → Err e ≡ reply of (answered o a)
  reply_refuses f Rules.none c a {e} h = never cc
  reply_refuses f (Rules.some r) c a {e} h =
      let same : record { refusal = r; line = 0 } ≡ e = cc in
      rw (← same)

  -- the line of a refusal does not matter for what is taken
  pub reply_at_line : {C : Type 0} (g : C → A) (l : ℕ) (o : Rules.Option Refusal) (c : C) → reply (λ c. of (g c)) (at_line l o c) ≡ reply of (at_line l o (g c))
  reply_at_line g l Rules.none c = refl
  reply_at_line g l (Rules.some r) c = refl

-- what a `?` returns where it ends a function: the refusal, as it came
pub passed_on : {A E : Type 0} {e : E} (r : Result A E) → IsErrAnd r (λ y. y ≡ e) → r ≡ Err e
passed_on r h =
    let w = err_from_is_err_and r h in
    w.1 ∙ ap Err w.2

-- a value that stands as it is
pub option_there : {A : Type 0} (o : Rules.Option A) {a : A} → option (λ v. v) o ≡ Some a → o ≡ Rules.some a
option_there Rules.none {a} e = cc
option_there (Rules.some v) {a} e = cc

pub option_missing : {A : Type 0} (o : Rules.Option A) → option (λ v. v) o ≡ None → o ≡ Rules.none
option_missing o e = option_none (λ v. v) o e

-- ---- room

module _ (length place bytes : ℕ) where
  -- there is none
  pub room_short : {r : Refusal} → room_reply length place bytes ≡ Err r → (length < place + bytes) × (r ≡ NoRoom)
  room_short {r} e = by_cases (ltb length (place + bytes)) refl e
    where
      by_cases : (b : Bool) → ltb length (place + bytes) ≡ b → cond b (Err NoRoom) (Ok (tt {0})) ≡ Err r → (length < place + bytes) × (r ≡ NoRoom)
      by_cases true p q = (ltb-true length (place + bytes) p, cc)
      by_cases false p q = never cc

  -- there is
  pub room_there : {u : Unit {0}} → room_reply length place bytes ≡ Ok u → place + bytes ≤ length
  room_there {u} e = by_cases (ltb length (place + bytes)) refl e
    where
      by_cases : (b : Bool) → ltb length (place + bytes) ≡ b → ◌≡◌ {A = Result (Unit {0}) Refusal} (cond b (Err NoRoom) (Ok (tt {0}))) (Ok u) → place + bytes ≤ length
      by_cases true p q = never cc
      by_cases false p q = ltb-false length (place + bytes) p
