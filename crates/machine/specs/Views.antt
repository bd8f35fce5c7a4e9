-- What the struct says, as the rules' state, and the struct that says a state: every entry past the last task is 0.
use Rattle.std.specs.Prelude.{ℕ, ◌-◌, Bool, ◌&&◌, List, ◌++◌, map, eqb, leb, length, get_or, take, replicate}
use Rattle.laws.specs.Lists.{all, from}
use Rattle.rules.specs.Limits.{tasks_max}
use Rattle.rules.specs.States as States
use Rattle.rules.specs.Forms.{well_formed}
use Rattle.rules.specs.declared.kinds.TaskNumber.{TaskNumber}
use Rattle.rules.specs.declared.kinds.CoreNumber.{CoreNumber}
use Rattle.rules.specs.declared.kinds.Units.{Units}
use Rattle.tables.specs.Views as Tables
use Rattle.machine.specs.declared.state.State.{State}

-- n
abbrev pub tasks : State → ℕ
tasks s = s.table.n.0

-- ---- arrays of numbers of one kind

abbrev pub task_number : ℕ → TaskNumber
task_number v = record { 0 = v }

abbrev pub core_number : ℕ → CoreNumber
core_number v = record { 0 = v }

abbrev pub units : ℕ → Units
units v = record { 0 = v }

-- the numbers of the first n entries
unfoldable pub viewed : {A : Type 0} → (A → ℕ) → ℕ → List A → List ℕ
viewed number n a = map number (take n a)

-- the entries that say numbers, and zeros up to 64
unfoldable pub packed : {A : Type 0} → (ℕ → A) → List ℕ → List A
packed make l = map make l ++ replicate (tasks_max - length l) (make 0)

-- ---- states

-- what the struct says
unfoldable pub view : State → States.State
view s =
    record {
      table = Tables.view s.table;
      ranks = viewed (λ x. x.0) (tasks s) s.ranks;
      clock = s.clock.0;
      left = viewed (λ x. x.0) (tasks s) s.left;
      last = viewed (λ x. x.0) (tasks s) s.last;
      done = viewed (λ x. x.0) (tasks s) s.done;
      dropped = viewed (λ x. x.0) (tasks s) s.dropped;
      moves = s.moves;
      misses = s.misses;
    }

-- the struct that says a state
unfoldable pub pack : States.State → State
pack st =
    record {
      table = Tables.pack st.table;
      ranks = packed task_number st.ranks;
      clock = record { 0 = st.clock };
      left = packed units st.left;
      last = packed core_number st.last;
      done = packed units st.done;
      dropped = packed units st.dropped;
      moves = st.moves;
      misses = st.misses;
    }

-- ---- the form

-- at a place, counted from 0, every array has 0
unfoldable pub blank : State → ℕ → Bool
blank s k =
    eqb (get_or s.table.rows k Tables.zero_row).c 0
    && eqb (get_or s.table.rows k Tables.zero_row).t 0
    && eqb (get_or s.ranks k (task_number 0)).0 0
    && eqb (get_or s.left k (units 0)).0 0
    && eqb (get_or s.last k (core_number 0)).0 0
    && eqb (get_or s.done k (units 0)).0 0
    && eqb (get_or s.dropped k (units 0)).0 0

-- there are places for all tasks, and what stands past the last task is 0
unfoldable pub padded : State → Bool
padded s = leb (tasks s) tasks_max && all (blank s) (from (tasks s) (tasks_max - tasks s))

-- a struct is well formed where it is padded and what it says is well formed
unfoldable pub formed : State → Bool
formed s = padded s && well_formed (view s)
