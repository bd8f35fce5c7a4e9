-- A call returns 0 exactly where its answer is taken, and a text is laid into a buffer exactly where there is room.
use Prim.Native.Nat.{ℕ, ◌+◌, ◌≤◌}
use mathlib.Core.Path.{◌≡◌, refl, sym, ap, subst, ◌∙◌}
use mathlib.Core.Bool.{not}
use mathlib.Core.List.{List, [], ◌∷◌}
use native.Mathlib.Omega.{arith}
use borrow.Author.Tests.{le-ltb}
use lib.Dec.{T, ltb, nltb→le}
use lib.ListN.{length}
use Rattle.laws.proofs.Tests.{never, and_left}
use Rattle.rules.specs.Refusals.{number_of, Answer, taken, refused, settle, and_then}
use Rattle.rules.specs.States.{State}
use Rattle.rules.specs.Forms.{well_formed}
use Rattle.rules.specs.Runs.{totals_line}
use Rattle.rules.specs.Answers.{lay, room_test, write_totals}
use Rattle.rules.specs.declared.refusal.Refusal.{Refusal}
use Rattle.rules.specs.declared.refusal.Refusal.TheVariants.{BadLine, BadCores, BadTasks, BadRow, BadRepeat, Trailing, NoRoom, PastClock, BadState}
use Rattle.reading_laws.proofs.Tests.{settle-taken}
use Rattle.slot_laws.proofs.Answers.{well_first}
use Rattle.capi.specs.Calls.{reply, replied, Filled, filled, sized, laid}
use Rattle.promises.specs.Buffers.{Holds}
use Rattle.promises.proofs.Holding.{lay-held}

-- ---- the number that is returned

-- the numbers of refusals go from 1 to 9
pub number-bounds : (q : Refusal) → (1 ≤ number_of q) × (number_of q ≤ 9)
number-bounds BadLine = omega arith
number-bounds BadCores = omega arith
number-bounds BadTasks = omega arith
number-bounds BadRow = omega arith
number-bounds BadRepeat = omega arith
number-bounds Trailing = omega arith
number-bounds NoRoom = omega arith
number-bounds PastClock = omega arith
number-bounds BadState = omega arith

module _ {A : Type 0} (old : A) {n : ℕ} {new : A} where
  pub zero-taken : (a : Answer A) → reply n new ≡ replied old a → n ≡ 0 → a ≡ taken new
  unfolding replied
  zero-taken (taken x) e z = ap taken (sym (ap (λ r. r.left) e))
  zero-taken (refused q l) e z = absurd (omega (arith, number-bounds q, ap (λ r. r.number) e))

  pub taken-zero : (a : Answer A) {x : A} → reply n new ≡ replied old a → a ≡ taken x → n ≡ 0
  unfolding replied
  taken-zero (taken y) e f = ap (λ r. r.number) e
  taken-zero (refused q l) e f = never cc

-- ---- a text in a buffer

-- it is laid where there is room
pub laid-taken : (out : List ℕ) (place : ℕ) (txt : List ℕ) → place + length txt ≤ length out → laid out place txt ≡ taken (filled (lay out place txt) (length txt))
unfolding laid sized room_test
laid-taken out place txt room = rw (le-ltb (length out) (place + length txt) room)

-- and only there
pub laid-room : (out : List ℕ) (place : ℕ) (txt : List ℕ) {buffer : List ℕ} → settle (room_test out place (length txt) ∷ []) (lay out place txt) ≡ taken buffer
    → (place + length txt ≤ length out) × (lay out place txt ≡ buffer)
unfolding room_test
laid-room out place txt {buffer} e =
    let s = settle-taken (room_test out place (length txt) ∷ []) (lay out place txt) buffer e in
    (nltb→le (length out) (place + length txt) (and_left (not (ltb (length out) (place + length txt))) _ s.0), s.1)

pub record Laid (out : List ℕ) (place : ℕ) (txt : List ℕ) (x : Filled) : Type 0 where
  pub room : place + length txt ≤ length out
  pub buffer : x.buffer ≡ lay out place txt
  pub size : x.size ≡ length txt

pub taken-laid : (out : List ℕ) (place : ℕ) (txt : List ℕ) {x : Filled} → laid out place txt ≡ taken x → Laid out place txt x
unfolding laid sized
taken-laid out place txt {x} e = by_answer (settle (room_test out place (length txt) ∷ []) (lay out place txt)) refl e
  where
    by_answer : (a : Answer (List ℕ)) → settle (room_test out place (length txt) ∷ []) (lay out place txt) ≡ a → and_then a (λ buffer. taken (filled buffer (length txt))) ≡ taken x
        → Laid out place txt x
    by_answer (taken buffer) f g =
        let w = laid-room out place txt f in
        let same : filled buffer (length txt) ≡ x = cc in
        record { room = w.0; buffer = sym (ap (λ (y : Filled). y.buffer) same) ∙ sym w.1; size = sym (ap (λ (y : Filled). y.size) same) }
    by_answer (refused q l) f g = never cc

-- it stands in the buffer then
pub laid-holds : (out : List ℕ) (place : ℕ) (txt : List ℕ) {x : Filled} → laid out place txt ≡ taken x → Holds x.buffer place txt
laid-holds out place txt e =
    let w : Laid out place txt _ = taken-laid out place txt e in
    subst (λ (l : List ℕ). Holds l place txt) (sym w.buffer) (lay-held out place txt w.room)

-- the totals of a well-formed state are such a text
pub totals-laid : (st : State) → T (well_formed st) → (out : List ℕ) (place : ℕ) → sized (length (totals_line st)) (write_totals st out place) ≡ laid out place (totals_line st)
unfolding laid write_totals
totals-laid st ok out place =
    ap (sized (length (totals_line st))) (well_first st ok (room_test out place (length (totals_line st)) ∷ []) (lay out place (totals_line st)))
