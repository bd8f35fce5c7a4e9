-- The counts of a run, read off its slots alone: the placings of slots 0, 1, .. of a table's run from the fresh state.
use Rattle.std.specs.Prelude.{ℕ, zero, suc, ◌+◌, ◌-◌, Bool, cond, not, ◌&&◌, List, eqb, ltb}
use Rattle.laws.specs.Lists.{count, numbers, at, position}
use Rattle.rules.specs.Rows.{Row, due, demand}
use Rattle.rules.specs.Tables.{Table, size, row_of}
use Rattle.rules.specs.States.{fresh}
use Rattle.rules.specs.Slots.{slot}
use Rattle.rules.specs.Runs.{after}

-- a sum over the slots before b
unfoldable pub sum_before : ℕ → (ℕ → ℕ) → ℕ
sum_before zero f = 0
sum_before (suc b) f = sum_before b f + f b

-- the placing in slot s
unfoldable pub cores_in : Table → ℕ → List ℕ
cores_in tbl s = (slot (after s (fresh tbl))).shown.cores

-- All below speaks of any sequence of placings, one for each slot.

-- the cores over the slots before b that hold task i
unfoldable pub work_of : (ℕ → List ℕ) → ℕ → ℕ → ℕ
work_of run i b = sum_before b (λ s. count (eqb i) (run s))

-- the cores over the slots before b that hold a task of a list
unfoldable pub work_of_all : (ℕ → List ℕ) → List ℕ → ℕ → ℕ
work_of_all run is b = sum_before b (λ s. count (λ i. ltb 0 (position i is)) (run s))

-- the core on which task i last ran before slot s; 0 where it did not run
unfoldable pub last_core : (ℕ → List ℕ) → ℕ → ℕ → ℕ
last_core run i zero = 0
last_core run i (suc s) = cond (ltb 0 (position i (run s))) (position i (run s)) (last_core run i s)

-- in slot s core k holds a task that last ran on another core
unfoldable pub moved_to : (ℕ → List ℕ) → ℕ → ℕ → Bool
moved_to run s k =
    let i : ℕ = at (run s) k in
    ltb 0 i && ltb 0 (last_core run i s) && not (eqb (last_core run i s) k)

-- the moves in slot s: the cores from 1 to m whose task last ran on another core
abbrev pub moves_at : ℕ → (ℕ → List ℕ) → ℕ → ℕ
moves_at m run s = count (moved_to run s) (numbers m)

-- the pairs of a slot before b and such a core
unfoldable pub moves_before : ℕ → (ℕ → List ℕ) → ℕ → ℕ
moves_before m run b = sum_before b (λ s. moves_at m run s)

-- what the job of task i with its deadline at boundary d was not given, between its release and d
unfoldable pub short_at : Table → (ℕ → List ℕ) → ℕ → ℕ → ℕ
short_at tbl run i d =
    let r : Row = row_of tbl i in
    demand r - (work_of run i d - work_of run i (d - r.t))

-- the units dropped of task i at the boundaries 1 to b
unfoldable pub dropped_by : Table → (ℕ → List ℕ) → ℕ → ℕ → ℕ
dropped_by tbl run i b = sum_before b (λ s. cond (due (row_of tbl i) (suc s)) (short_at tbl run i (suc s)) 0)

-- the misses at the end of slot s: the tasks whose job with its deadline there was not given all that it asks for
abbrev pub misses_at : Table → (ℕ → List ℕ) → ℕ → ℕ
misses_at tbl run s = count (λ i. due (row_of tbl i) (suc s) && ltb 0 (short_at tbl run i (suc s))) (numbers (size tbl))

-- the misses at the boundaries 1 to b, one for each task and boundary
unfoldable pub misses_by : Table → (ℕ → List ℕ) → ℕ → ℕ
misses_by tbl run b = sum_before b (λ s. misses_at tbl run s)
