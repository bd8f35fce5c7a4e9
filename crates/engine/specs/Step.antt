-- One slot on lists of plain numbers, one entry a task: the rules' slot with each task's phase, the slots since its last
-- release, in place of the clock, from the releases of a slot to those of the next.
use Rattle.std.specs.Prelude.{ℕ, ◌+◌, ◌-◌, ◌%◌, ◌^◌, ◌≤◌, ◌<◌, ◌≡◌, cond, ◌&&◌, List, map, eqb, ltb, length}
use Rattle.laws.specs.Lists.{count, numbers, each, at, position}
use Rattle.rules.specs.Tables.{Table, size, row_of}
use Rattle.rules.specs.States.{State}
use Rattle.rules.specs.Slots.{release, choose, place, given, placed, moved, Outcome}
use Rattle.engine.specs.Choice.{Named}
use Rattle.engine.specs.Ends.{next_phase, ending}

-- what a slot leaves: the lists of the next slot, the placing, the moves in it and the misses at its end
pub record Stepped : Type 0 where
  pub phase : List ℕ
  pub left : List ℕ
  pub last : List ℕ
  pub done : List ℕ
  pub dropped : List ℕ
  pub cores : List ℕ
  pub moves : ℕ
  pub misses : ℕ

abbrev pub stepped : List ℕ → List ℕ → List ℕ → List ℕ → List ℕ → List ℕ → ℕ → ℕ → Stepped
stepped phase left last done dropped cores moves misses =
    record { phase = phase; left = left; last = last; done = done; dropped = dropped; cores = cores; moves = moves; misses = misses }

-- the left work after releases of c units each
unfoldable pub released_on : List ℕ → List ℕ → List ℕ → List ℕ
released_on c phase left = each (length left) (λ i. cond (eqb (at phase i) 0) (at c i) (at left i))

-- the placing
unfoldable pub cores_on : ℕ → List ℕ → List ℕ → List ℕ → List ℕ
cores_on m ranks last released = place m last (choose m ranks released)

-- the left work after a placing, before the deadlines
unfoldable pub worked_on : List ℕ → List ℕ → List ℕ
worked_on released cores = each (length released) (λ i. at released i - given cores i)

-- the slot, from the left work after the releases and the placing, up to the releases of the next slot
unfoldable pub effect_on : List ℕ → List ℕ → List ℕ → List ℕ → List ℕ → List ℕ → List ℕ → List ℕ → Stepped
effect_on c t phase released last done dropped cores =
    let n : ℕ = length released in
    let worked : List ℕ = worked_on released cores in
    record {
      phase = each n (λ i. next_phase (at phase i) (at t i));
      left = each n (λ i. cond (ending phase t i) (at c i) (at worked i));
      last = each n (λ i. cond (placed cores i) (position i cores) (at last i));
      done = each n (λ i. at done i + given cores i);
      dropped = each n (λ i. at dropped i + cond (ending phase t i) (at worked i) 0);
      cores = cores;
      moves = count (moved last cores) (numbers n);
      misses = count (λ i. ending phase t i && ltb 0 (at worked i)) (numbers n);
    }

-- the slot of m cores; c and t are the tasks' C and T, and ranks the tasks in priority order
unfoldable pub step_on : ℕ → List ℕ → List ℕ → List ℕ → List ℕ → List ℕ → List ℕ → List ℕ → List ℕ → Stepped
step_on m c t ranks phase released last done dropped = effect_on c t phase released last done dropped (cores_on m ranks last released)

-- what a slot asks of the lists
pub record Ready (m : ℕ) (c t ranks phase left last done dropped : List ℕ) : Type 0 where
  pub few_cores : m ≤ 32
  pub few_tasks : length left ≤ 64
  pub c_size : length c ≡ length left
  pub t_size : length t ≡ length left
  pub phase_size : length phase ≡ length left
  pub last_size : length last ≡ length left
  pub done_size : length done ≡ length left
  pub dropped_size : length dropped ≡ length left
  pub named : Named (length left) ranks
  pub once : (i : ℕ) → count (eqb i) ranks ≤ 1
  pub phases : (i : ℕ) → 1 ≤ i → i ≤ length left → at phase i < at t i
  pub lefts : (i : ℕ) → 1 ≤ i → i ≤ length left → at left i ≤ at c i
  pub lasts : (i : ℕ) → 1 ≤ i → i ≤ length left → at last i ≤ m
  pub done_fits : (i : ℕ) → 1 ≤ i → i ≤ length left → at done i + 1 < 2 ^ 32
  pub dropped_fits : (i : ℕ) → 1 ≤ i → i ≤ length left → at dropped i + at c i < 2 ^ 32

-- A state of the rules as such lists.

-- each task's C, its T, and its phase in slot s
abbrev pub units_of : Table → List ℕ
units_of tbl = map (λ r. r.c) tbl.rows

abbrev pub periods_of : Table → List ℕ
periods_of tbl = map (λ r. r.t) tbl.rows

unfoldable pub phases_in : Table → ℕ → List ℕ
phases_in tbl s = each (size tbl) (λ i. s % (row_of tbl i).t)

-- the slot on the lists of a state
unfoldable pub step_from : State → Stepped
step_from st =
    step_on st.table.m (units_of st.table) (periods_of st.table) st.ranks (phases_in st.table st.clock) (release st.table st.clock st.left) st.last st.done st.dropped

-- what a slot of the rules shows and leaves, as such lists
unfoldable pub lists_of : Outcome → Stepped
lists_of o =
    record {
      phase = phases_in o.next.table o.next.clock;
      left = release o.next.table o.next.clock o.next.left;
      last = o.next.last;
      done = o.next.done;
      dropped = o.next.dropped;
      cores = o.shown.cores;
      moves = o.shown.moves;
      misses = o.shown.misses;
    }
