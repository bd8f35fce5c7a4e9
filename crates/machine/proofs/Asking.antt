-- What is asked of a struct: the first test is that it is well formed.
use Rattle.std.proofs.Common.{Err}
use Prim.Native.Nat.{ℕ, ◌≤◌}
use mathlib.Core.Path.{◌≡◌, refl, sym, ap, ◌∙◌, subst}
use mathlib.Core.Bool.{Bool, true, false, cond, not, ◌&&◌}
use mathlib.Core.List.{List, [], ◌∷◌}
use lib.Dec.{T}
use lib.ListN.{length}
use Rattle.laws.proofs.Tests.{to_T, and_left, and_right}
use Rattle.rules.specs.Limits.{tasks_max}
use Rattle.rules.specs.Refusals.{Test, test, Answer, refused, settle}
use Rattle.rules.specs.States as States
use Rattle.rules.specs.Forms.{well_formed}
use Rattle.rules.specs.Answers.{lay, room_test, state_test}
use Rattle.rules.specs.declared.refusal.Refusal.TheVariants.{BadState}
use Rattle.tables.specs.Writes.{made, wrote, wrote_text}
use Rattle.machine.specs.declared.state.State.{State}
use Rattle.machine.specs.Views.{tasks, view, padded, formed}
use Rattle.machine.specs.Answers.{asked}
use Rattle.machine.proofs.Packing.{padded-few}

-- the struct is padded, and what it says is well formed
pub formed-says : (s : State) → formed s ≡ true → T (padded s) × T (well_formed (view s))
unfolding formed
formed-says s e = (and_left (padded s) (well_formed (view s)) (to_T e), and_right (padded s) (well_formed (view s)) (to_T e))

-- so it has places for all tasks: `try_from`'s own attribute names this
pub formed_few : (s : State) → formed s ≡ true → tasks s ≤ tasks_max
formed_few s e = padded-few s (formed-says s e).0

module _ {A : Type 0} (s : State) (tests : States.State → List Test) (value : States.State → A) where
  -- the answer, as it goes by the padding and by the form of the state
  abbrev answer : Bool → Bool → Answer A
  answer b w = cond b (settle (test (not w) BadState ∷ tests (view s)) (value (view s))) (refused BadState 0)

  ill : (b w : Bool) → (b && w) ≡ false → answer b w ≡ refused BadState 0
  ill true true e = absurd (subst T e tt)
  ill true false e = refl
  ill false w e = refl

  well : (b w : Bool) → (b && w) ≡ true → answer b w ≡ settle (tests (view s)) (value (view s))
  well true true e = refl
  well true false e = absurd (to_T e)
  well false w e = absurd (to_T e)

  -- a struct that is not well formed is refused
  pub asked_ill : formed s ≡ false → asked s (λ st. settle (state_test st ∷ tests st) (value st)) ≡ refused BadState 0
  unfolding formed asked state_test
  asked_ill e = ill (padded s) (well_formed (view s)) e

  -- of one that is, the other tests are asked
  pub asked_well : formed s ≡ true → asked s (λ st. settle (state_test st ∷ tests st) (value st)) ≡ settle (tests (view s)) (value (view s))
  unfolding formed asked state_test
  asked_well e = well (padded s) (well_formed (view s)) e

-- ---- a text of the state, written into a buffer: 9, then 7

module _ (s : State) (text : States.State → List ℕ) (out : List ℕ) (place : ℕ) where
  abbrev tests : States.State → List Test
  tests st = room_test out place (length (text st)) ∷ []

  abbrev filled : States.State → List ℕ
  filled st = lay out place (text st)

  abbrev written : Answer (List ℕ)
  written = asked s (λ st. settle (state_test st ∷ tests st) (filled st))

  -- nothing is written for a struct that is not well formed
  pub text_ill : (n : ℕ) → formed s ≡ false → made (Err BadState) out ≡ wrote n out written
  unfolding wrote
  text_ill n e = sym (ap (wrote n out) (asked_ill s tests filled e))

  -- for one that is, its text is written, where there is room
  pub text_well : (n : ℕ) → length (text (view s)) ≡ n → formed s ≡ true → wrote_text out place (text (view s)) ≡ wrote n out written
  unfolding wrote_text
  text_well n long e =
      ap (λ (k : ℕ). wrote k out (settle (tests (view s)) (filled (view s)))) long ∙ sym (ap (wrote n out) (asked_well s tests filled e))
