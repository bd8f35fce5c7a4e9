-- A table's run from the fresh state, boundary by boundary: what the state at a boundary is made of, and how the slot
-- before the next one changes it.
use Prim.Native.Nat.{ℕ, suc, ◌+◌, ◌-◌, ◌≤◌}
use mathlib.Core.Path.{◌≡◌, ◌∙◌}
use mathlib.Core.Bool.{cond}
use mathlib.Core.List.{List}
use native.Mathlib.Nat.{add-zero}
use lib.Dec.{eqb}
use lib.ListN.{length}
use Rattle.laws.specs.Lists.{count, numbers, each, at}
use Rattle.rules.specs.Rows.{due}
use Rattle.rules.specs.Tables.{Table, size, row_of}
use Rattle.rules.specs.Verdicts.{order}
use Rattle.rules.specs.States.{State, fresh}
use Rattle.rules.specs.Slots.{release, choose, place, given, missed, effect, slot}
use Rattle.rules.specs.Runs.{after}
use Rattle.rules.specs.Counts.{cores_in}
use Rattle.slot_laws.proofs.After.{after_table, after-ranks, after-clock}
use Rattle.slot_laws.proofs.Choosing.{choose_choice}
use Rattle.slot_laws.proofs.Placing.{place-length, place-holds}
use Rattle.slot_laws.proofs.Books.{order_ranking}
use Rattle.slot_laws.proofs.Given.{own_run, own_slot, shown-misses_with, next-misses_with, next-left_with}

-- the state at boundary b, and the left work after the releases of slot b
abbrev pub state : Table → ℕ → State
state tbl b = after b (fresh tbl)

abbrev pub ready : Table → ℕ → List ℕ
ready tbl b = release tbl b (state tbl b).left

-- the work left at the end of slot b, before the deadlines
abbrev pub worked : Table → ℕ → List ℕ
worked tbl b = each (size tbl) (λ i. at (ready tbl b) i - given (cores_in tbl b) i)

module _ (tbl : Table) (b : ℕ) where
  -- the table, its order and the clock
  pub table_at : (state tbl b).table ≡ tbl
  unfolding fresh
  table_at = after_table b (fresh tbl)

  pub ranks-at : (state tbl b).ranks ≡ order tbl
  unfolding fresh
  ranks-at = after-ranks b (fresh tbl)

  pub clock-at : (state tbl b).clock ≡ b
  unfolding fresh
  clock-at = after-clock b (fresh tbl) ∙ add-zero b

  -- the placing in slot b
  pub cores-at : cores_in tbl b ≡ place tbl.m (state tbl b).last (choose tbl.m (order tbl) (ready tbl b))
  unfolding cores_in slot effect
  cores-at = rw (table_at, ranks-at, clock-at)

  -- what slot b shows
  pub shown-slot : (slot (state tbl b)).shown.slot ≡ b
  unfolding slot effect
  shown-slot = clock-at

  pub shown-misses : (slot (state tbl b)).shown.misses ≡ count (missed tbl b (worked tbl b)) (numbers (size tbl))
  shown-misses = rw (own_slot tbl b, own_run tbl b) (shown-misses_with tbl (order tbl) (cores_in tbl) b)

  -- there are m cores
  pub cores-length : length (cores_in tbl b) ≡ tbl.m
  cores-length = rw cores-at (place-length tbl.m (state tbl b).last (choose tbl.m (order tbl) (ready tbl b)))

  -- a task stands on one core where it is chosen, and else on none
  pub cores-chosen : (i : ℕ) → 1 ≤ i → count (eqb i) (cores_in tbl b) ≡ count (eqb i) (choose tbl.m (order tbl) (ready tbl b))
  cores-chosen i low = rw cores-at (place-holds (choose_choice tbl.m (ready tbl b) (order_ranking tbl)) (state tbl b).last i low)

  -- the state at the next boundary
  pub next-misses : (state tbl (suc b)).misses ≡ (state tbl b).misses + (slot (state tbl b)).shown.misses
  next-misses = rw (own_slot tbl b, own_run tbl b, own_run tbl (suc b)) (next-misses_with tbl (order tbl) (cores_in tbl) b)

  module _ (i : ℕ) (low : 1 ≤ i) (high : i ≤ size tbl) where
    pub next-left : at (state tbl (suc b)).left i ≡ cond (due (row_of tbl i) (suc b)) 0 (at (worked tbl b) i)
    next-left = rw (own_run tbl b, own_run tbl (suc b)) (next-left_with tbl (order tbl) (cores_in tbl) b i low high)
