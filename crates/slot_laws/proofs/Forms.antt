-- What the tests of a table and of a state say: records of facts, and that a test passes exactly where its facts hold.
use Prim.Native.Nat.{ℕ, zero, suc, ◌+◌, ◌*◌, ◌≤◌}
use mathlib.Core.Path.{◌≡◌}
use mathlib.Core.Bool.{true, not, ◌||◌}
use native.Mathlib.Omega.{arith}
use lib.Dec.{T, eqb, leb→le, le→leb, eqb→eq}
use lib.ListN.{length}
use Rattle.laws.specs.Lists.{at, same}
use Rattle.laws.proofs.Tests.{and_T, and_left, and_right, same→eq, same_refl}
use Rattle.laws.proofs.Each.{all-numbers, numbers-all}
use Rattle.laws.proofs.Entries.{imply, implies, eq_T}
use Rattle.rules.specs.Limits.{cores_min, cores_max, tasks_min, tasks_max, repeat_max, clock_max}
use Rattle.rules.specs.Rows.{releases, released}
use Rattle.rules.specs.Repeat.{repeat_length}
use Rattle.rules.specs.Tables.{Table, size, no_row, row_of, accepts}
use Rattle.rules.specs.Verdicts.{order}
use Rattle.rules.specs.States.{State}
use Rattle.rules.specs.Forms.{sized, task_formed, well_formed}
use Rattle.reading_laws.specs.Bounds.{RowInBounds, Every}
use Rattle.reading_laws.proofs.Tests.{accepts-iff, every_get_or, get_or_every}

-- ---- a table

-- what the tests of a list of rows leave
pub record Accepted (tbl : Table) : Type 0 where
  pub cores_low : cores_min ≤ tbl.m
  pub cores_high : tbl.m ≤ cores_max
  pub tasks_low : tasks_min ≤ size tbl
  pub tasks_high : size tbl ≤ tasks_max
  pub row : (i : ℕ) → 1 ≤ i → i ≤ size tbl → RowInBounds (row_of tbl i)
  pub repeat : repeat_length tbl.rows ≤ repeat_max

-- a table is accepted exactly where these facts hold
pub accepted : (tbl : Table) → T (accepts tbl) → Accepted tbl
accepted tbl t =
    let b = (accepts-iff tbl).0 t in
    record {
      cores_low = b.cores.least;
      cores_high = b.cores.most;
      tasks_low = b.tasks.least;
      tasks_high = b.tasks.most;
      row = fine b.fine;
      repeat = b.repeat;
    }
  where
    fine : Every RowInBounds tbl.rows → (i : ℕ) → 1 ≤ i → i ≤ size tbl → RowInBounds (row_of tbl i)
    fine b zero low high = absurd (omega arith)
    fine b (suc i) low high = every_get_or RowInBounds tbl.rows no_row i b high

pub accepts_of : (tbl : Table) → Accepted tbl → T (accepts tbl)
accepts_of tbl a =
    (accepts-iff tbl).1
    (record {
      cores = record { least = a.cores_low; most = a.cores_high };
      tasks = record { least = a.tasks_low; most = a.tasks_high };
      fine = get_or_every RowInBounds tbl.rows no_row (λ i h. a.row (suc i) (omega arith) h);
      repeat = a.repeat;
    })

-- ---- a state

-- what is kept of task i: left work at most C, and 0 where T divides the clock; a last core of 0 to m; and its books
pub record TaskKept (st : State) (i : ℕ) : Type 0 where
  pub fits : at st.left i ≤ (row_of st.table i).c
  pub spent : releases (row_of st.table i) st.clock ≡ true → at st.left i ≡ 0
  pub core : at st.last i ≤ st.table.m
  pub books : at st.done i + at st.left i + at st.dropped i ≡ released (row_of st.table i) st.clock

-- all that makes a state well formed, but for the bound of its clock
pub record Kept (st : State) : Type 0 where
  pub taken : Accepted st.table
  pub left_length : length st.left ≡ size st.table
  pub last_length : length st.last ≡ size st.table
  pub done_length : length st.done ≡ size st.table
  pub dropped_length : length st.dropped ≡ size st.table
  pub ranked : st.ranks ≡ order st.table
  pub task : (i : ℕ) → 1 ≤ i → i ≤ size st.table → TaskKept st i
  pub moves_few : st.moves ≤ st.table.m * st.clock
  pub misses_few : st.misses ≤ tasks_max * st.clock

-- a task is well formed exactly where this is kept of it
task-kept : (st : State) (i : ℕ) → T (task_formed st i) → TaskKept st i
unfolding task_formed
task-kept st i t =
    let empty : T (not (releases (row_of st.table i) st.clock) || eqb (at st.left i) 0) = search (and_left, and_right) in
    record {
      fits = search (and_left, leb→le);
      spent = λ e. eqb→eq (at st.left i) 0 (imply (releases (row_of st.table i) st.clock) (eqb (at st.left i) 0) empty e);
      core = search (and_left, and_right, leb→le);
      books = search (and_right, eqb→eq);
    }

task-formed : (st : State) (i : ℕ) → TaskKept st i → T (task_formed st i)
unfolding task_formed
task-formed st i k =
    let empty = implies (releases (row_of st.table i) st.clock) (eqb (at st.left i) 0) (λ e. eq_T (at st.left i) 0 (k.spent e)) in
    search (and_T, le→leb, eq_T) depth 9

-- a state is well formed exactly where it is kept and its clock is in bounds
pub formed-kept : (st : State) → T (well_formed st) → Kept st
unfolding well_formed sized
formed-kept st t =
    record {
      taken = accepted st.table (search (and_left));
      left_length = search (and_left, and_right, eqb→eq) depth 9;
      last_length = search (and_left, and_right, eqb→eq) depth 9;
      done_length = search (and_left, and_right, eqb→eq) depth 9;
      dropped_length = search (and_left, and_right, eqb→eq) depth 9;
      ranked = search (and_left, and_right, same→eq);
      task = λ i low high. task-kept st i (all-numbers (task_formed st) (size st.table) (search (and_left, and_right)) i low high);
      moves_few = search (and_left, and_right, leb→le);
      misses_few = search (and_right, leb→le);
    }

pub formed-clock : (st : State) → T (well_formed st) → st.clock ≤ clock_max
unfolding well_formed
formed-clock st t = search (and_left, and_right, leb→le)

pub kept-formed : {st : State} → Kept st → st.clock ≤ clock_max → T (well_formed st)
unfolding well_formed sized
kept-formed {st} k h =
    let table = accepts_of st.table k.taken in
    let tasks = numbers-all (task_formed st) (size st.table) (λ i low high. task-formed st i (k.task i low high)) in
    let ranks : T (same st.ranks (order st.table)) = rw k.ranked (same_refl (order st.table)) in
    search (and_T, le→leb, eq_T) depth 9
