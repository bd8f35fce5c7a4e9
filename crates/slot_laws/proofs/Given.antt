-- A run of a table with any order and any placings, boundary by boundary: what the state at a boundary is made of, and how
-- the slot before the next one changes it.
use Prim.Native.Nat.{ℕ, zero, suc, ◌+◌, ◌-◌, ◌≤◌, ◌<◌}
use mathlib.Core.Path.{◌≡◌, refl, ap, ◌∙◌}
use mathlib.Core.Bool.{cond}
use mathlib.Core.List.{List}
use native.Mathlib.Nat.{le_refl, le_step}
use lib.ListN.{length, length-replicate}
use Rattle.laws.specs.Lists.{count, numbers, each, at, position}
use Rattle.laws.proofs.Each.{at_each, length-each}
use Rattle.rules.specs.Rows.{releases, due, demand}
use Rattle.rules.specs.Tables.{Table, size, row_of}
use Rattle.rules.specs.Verdicts.{order}
use Rattle.rules.specs.States.{State, fresh_with, fresh}
use Rattle.rules.specs.Slots.{release, given, placed, moved, missed, effect, slot}
use Rattle.rules.specs.Runs.{after}
use Rattle.rules.specs.Counts.{cores_in}
use Rattle.rules.specs.Obeys.{slot_with, after_with}
use Rattle.slot_laws.proofs.After.{after-suc}

-- the state at boundary b, and the left work after the releases of slot b
abbrev pub state_with : Table → List ℕ → (ℕ → List ℕ) → ℕ → State
state_with tbl ranks run b = after_with run b (fresh_with tbl ranks)

abbrev pub ready_with : Table → List ℕ → (ℕ → List ℕ) → ℕ → List ℕ
ready_with tbl ranks run b = release tbl b (state_with tbl ranks run b).left

-- the work left at the end of slot b, before the deadlines
abbrev pub worked_with : Table → List ℕ → (ℕ → List ℕ) → ℕ → List ℕ
worked_with tbl ranks run b = each (size tbl) (λ i. at (ready_with tbl ranks run b) i - given (run b) i)

module _ (tbl : Table) (ranks : List ℕ) (run : ℕ → List ℕ) where
  -- the table and the clock
  pub table_with : (b : ℕ) → (state_with tbl ranks run b).table ≡ tbl
  unfolding after_with slot_with effect
  table_with zero = refl
  table_with (suc b) = table_with b

  pub clock_with : (b : ℕ) → (state_with tbl ranks run b).clock ≡ b
  unfolding after_with slot_with effect
  clock_with zero = refl
  clock_with (suc b) = ap suc (clock_with b)

  pub dropped-length_with : (b : ℕ) → length (state_with tbl ranks run b).dropped ≡ size tbl
  unfolding after_with slot_with effect
  dropped-length_with zero = length-replicate (size tbl) 0
  dropped-length_with (suc b) = rw (table_with b) (length-each (size tbl) _)

module _ (tbl : Table) (ranks : List ℕ) (run : ℕ → List ℕ) (b : ℕ) where
  abbrev st : State
  st = state_with tbl ranks run b

  -- what slot b shows
  pub shown-moves_with : (slot_with st (run b)).shown.moves ≡ count (moved st.last (run b)) (numbers (size tbl))
  unfolding slot_with effect
  shown-moves_with = rw (table_with tbl ranks run b)

  pub shown-misses_with : (slot_with st (run b)).shown.misses ≡ count (missed tbl b (worked_with tbl ranks run b)) (numbers (size tbl))
  unfolding slot_with effect
  shown-misses_with = rw (table_with tbl ranks run b, clock_with tbl ranks run b)

  -- the state at the next boundary
  pub next-moves_with : (state_with tbl ranks run (suc b)).moves ≡ st.moves + (slot_with st (run b)).shown.moves
  unfolding after_with slot_with effect
  next-moves_with = refl

  pub next-misses_with : (state_with tbl ranks run (suc b)).misses ≡ st.misses + (slot_with st (run b)).shown.misses
  unfolding after_with slot_with effect
  next-misses_with = refl

  module _ (i : ℕ) (low : 1 ≤ i) (high : i ≤ size tbl) where
    -- the left work of a task after the releases of slot b, and at its end
    pub ready-at_with : at (ready_with tbl ranks run b) i ≡ cond (releases (row_of tbl i) b) (demand (row_of tbl i)) (at st.left i)
    unfolding release
    ready-at_with = at_each (size tbl) _ i low high

    pub worked-at_with : at (worked_with tbl ranks run b) i ≡ at (ready_with tbl ranks run b) i - given (run b) i
    worked-at_with = at_each (size tbl) _ i low high

    pub next-done_with : at (state_with tbl ranks run (suc b)).done i ≡ at st.done i + given (run b) i
    unfolding after_with slot_with effect
    next-done_with = rw (table_with tbl ranks run b) (at_each (size tbl) _ i low high)

    pub next-last_with : at (state_with tbl ranks run (suc b)).last i ≡ cond (placed (run b) i) (position i (run b)) (at st.last i)
    unfolding after_with slot_with effect
    next-last_with = rw (table_with tbl ranks run b) (at_each (size tbl) _ i low high)

    pub next-left_with : at (state_with tbl ranks run (suc b)).left i ≡ cond (due (row_of tbl i) (suc b)) 0 (at (worked_with tbl ranks run b) i)
    unfolding after_with slot_with effect
    next-left_with = rw (table_with tbl ranks run b, clock_with tbl ranks run b) (at_each (size tbl) _ i low high)

    pub next-dropped_with : at (state_with tbl ranks run (suc b)).dropped i ≡ at st.dropped i + cond (due (row_of tbl i) (suc b)) (at (worked_with tbl ranks run b) i) 0
    unfolding after_with slot_with effect
    next-dropped_with = rw (table_with tbl ranks run b, clock_with tbl ranks run b) (at_each (size tbl) _ i low high)

-- runs with the same placings before slot b are at the same state at boundary b
pub same_before : (run other : ℕ → List ℕ) (from : State) (b : ℕ) → ((s : ℕ) → s < b → run s ≡ other s) → after_with run b from ≡ after_with other b from
unfolding after_with slot_with effect
same_before run other from zero h = refl
same_before run other from (suc b) h = rw (same_before run other from b (λ s l. h s (le_step l)), h b (le_refl (suc b)))

-- a table's own run is the one with its own order and placings
pub own_run : (tbl : Table) (b : ℕ) → after b (fresh tbl) ≡ state_with tbl (order tbl) (cores_in tbl) b
unfolding after after_with slot_with slot effect cores_in fresh
own_run tbl zero = refl
own_run tbl (suc b) = after-suc b (fresh tbl) ∙ rw (← own_run tbl b)

-- and its slots are those with its own placings
pub own_slot : (tbl : Table) (b : ℕ) → slot (after b (fresh tbl)) ≡ slot_with (state_with tbl (order tbl) (cores_in tbl) b) (cores_in tbl b)
unfolding slot_with slot effect cores_in
own_slot tbl b = rw (← own_run tbl b)
