-- How long the arrays of the struct and the lists of a state are.
use Rattle.std.specs.Prelude.{◌≡◌, length}
use Rattle.rules.specs.Limits.{tasks_max}
use Rattle.rules.specs.Tables.{size}
use Rattle.rules.specs.States as States
use Rattle.machine.specs.declared.state.State.{State}

-- every array has 64 entries
pub record Full (s : State) : Type 0 where
  pub rows : length s.table.rows ≡ tasks_max
  pub ranks : length s.ranks ≡ tasks_max
  pub left : length s.left ≡ tasks_max
  pub last : length s.last ≡ tasks_max
  pub done : length s.done ≡ tasks_max
  pub dropped : length s.dropped ≡ tasks_max

-- every list has one entry for each task
pub record Sized (st : States.State) : Type 0 where
  pub ranks : length st.ranks ≡ size st.table
  pub left : length st.left ≡ size st.table
  pub last : length st.last ≡ size st.table
  pub done : length st.done ≡ size st.table
  pub dropped : length st.dropped ≡ size st.table
