-- A run whose first b placings are right, prolonged by the chosen tasks of each later slot: its placings are right in every slot.
use Prim.Native.Nat.{ℕ, zero, suc, ◌≤◌, ◌<◌}
use mathlib.Core.Path.{◌≡◌, refl, sym, ap, ◌∙◌}
use mathlib.Core.Bool.{cond}
use mathlib.Core.List.{List}
use native.Mathlib.Nat.{le_trans, le_of_suc-le}
use native.Mathlib.Decide.{dec_lt}
use native.Mathlib.Omega.{arith}
use borrow.Author.Tests.{lt-ltb, le-ltb}
use lib.Dec.{eqb, ltb}
use Rattle.laws.specs.Lists.{count}
use Rattle.rules.specs.Tables.{Table}
use Rattle.rules.specs.States.{State, fresh_with}
use Rattle.rules.specs.Slots.{release, choose}
use Rattle.rules.specs.Obeys.{slot_with, after_with, Rightly}
use Rattle.slot_laws.proofs.Given.{state_with, ready_with, same_before}

module _ (tbl : Table) (ranks : List ℕ) (run : ℕ → List ℕ) (b : ℕ) where
  -- the placing of slot s in a state
  abbrev pick : ℕ → State → List ℕ
  pick s st = cond (ltb s b) (run s) (choose tbl.m ranks (release tbl s st.left))

  -- the state at boundary s
  unfoldable pub longer : ℕ → State
  longer zero = fresh_with tbl ranks
  longer (suc s) = (slot_with (longer s) (pick s (longer s))).next

  unfoldable pub prolonged : ℕ → List ℕ
  prolonged s = pick s (longer s)

  longer_is : (s : ℕ) → state_with tbl ranks prolonged s ≡ longer s
  unfolding after_with longer prolonged
  longer_is zero = refl
  longer_is (suc s) = ap (λ (st : State). (slot_with st (pick s (longer s))).next) (longer_is s)

  -- before slot b nothing changes
  pub prolonged_same : (s : ℕ) → s < b → prolonged s ≡ run s
  unfolding prolonged
  prolonged_same s h = rw (lt-ltb s b h)

  pub prolonged_state : (s : ℕ) → s ≤ b → state_with tbl ranks prolonged s ≡ state_with tbl ranks run s
  prolonged_state s h = same_before prolonged run (fresh_with tbl ranks) s (λ t l. prolonged_same t (le_trans l h))

  -- from slot b on the chosen tasks are placed
  chosen-later : (s : ℕ) → b ≤ s → prolonged s ≡ choose tbl.m ranks (release tbl s (longer s).left)
  unfolding prolonged
  chosen-later s h = rw (le-ltb s b h)

  prolonged_later : (s : ℕ) → b ≤ s → prolonged s ≡ choose tbl.m ranks (ready_with tbl ranks prolonged s)
  prolonged_later s h = chosen-later s h ∙ ap (λ (st : State). choose tbl.m ranks (release tbl s st.left)) (sym (longer_is s))

  pub prolonged_rightly : ((s : ℕ) → s < b → Rightly tbl ranks run s) → (s : ℕ) → Rightly tbl ranks prolonged s
  prolonged_rightly right s i low =
      elim (dec_lt s b) [
        | yes l ↦ rw (prolonged_same s l, prolonged_state s (le_of_suc-le l)) (right s l i low)
        | no l ↦ ap (count (eqb i)) (prolonged_later s (omega arith))
      ]
