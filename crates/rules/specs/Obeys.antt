-- A run of a table whose order and placings are given, as of another product, and what demand 3 asks of the two: heavy tasks
-- come first and light periods never fall, and the first tasks of that order each hold one core. Ties and core numbers are free.
-- Left work goes by the rules' own releases and effects.
use Rattle.std.specs.Prelude.{ℕ, zero, suc, ◌≤◌, ◌<◌, ◌≡◌, true, false, List, eqb, length}
use Rattle.laws.specs.Lists.{filter, count, numbers, at}
use Rattle.rules.specs.Tables.{Table, size, row_of}
use Rattle.rules.specs.Verdicts.{heavy, light}
use Rattle.rules.specs.States.{State, fresh_with}
use Rattle.rules.specs.Slots.{Outcome, release, choose, effect}

-- the slot of a state with a given placing
unfoldable pub slot_with : State → List ℕ → Outcome
slot_with st cores = effect st (release st.table st.clock st.left) cores

-- the state after b slots with the placings run 0, run 1, ..
unfoldable pub after_with : (ℕ → List ℕ) → ℕ → State → State
after_with run zero st = st
after_with run (suc b) st = (slot_with (after_with run b st) (run b)).next

-- the light tasks of an order, highest priority first
abbrev pub lights_of : Table → List ℕ → List ℕ
lights_of tbl ranks = filter (light tbl) ranks

-- an order by priority: a permutation of the tasks with heavy ones first and light periods never falling, positions counted
-- from 1
pub record Priority (tbl : Table) (ranks : List ℕ) : Type 0 where
  pub permutes : (i : ℕ) → count (eqb i) ranks ≡ count (eqb i) (numbers (size tbl))
  pub heavy_first : (a b : ℕ) → 1 ≤ a → a < b → b ≤ length ranks → heavy tbl (at ranks b) ≡ true → heavy tbl (at ranks a) ≡ true
  pub rising : (a b : ℕ) → 1 ≤ a → a < b → b ≤ length ranks
      → heavy tbl (at ranks a) ≡ false → heavy tbl (at ranks b) ≡ false
      → (row_of tbl (at ranks a)).t ≤ (row_of tbl (at ranks b)).t

-- the placing of slot s is right: each of the first tasks of the order with left work, m of them or all if fewer, holds one
-- core, and no other task holds any; left work counts the releases of the slot
abbrev pub Rightly : Table → List ℕ → (ℕ → List ℕ) → ℕ → Type 0
Rightly tbl ranks run s =
    (i : ℕ) → 1 ≤ i
    → count (eqb i) (run s) ≡ count (eqb i) (choose tbl.m ranks (release tbl s (after_with run s (fresh_with tbl ranks)).left))

-- the first b slots of a run with this order and these placings are all that demand 3 asks for
pub record Obeys (tbl : Table) (ranks : List ℕ) (run : ℕ → List ℕ) (b : ℕ) : Type 0 where
  pub priority : Priority tbl ranks
  pub rightly : (s : ℕ) → s < b → Rightly tbl ranks run s
