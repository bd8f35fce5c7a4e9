-- A table that a run can start with.
use Rattle.tables.specs.Views.{Formed}
use Rattle.tables.specs.declared.table.Table.{Table}
use Rattle.verdicts.specs.Structs.{Sound}

-- it passes the tests of a list of rows, and its rows past the last are 0
pub record Opened (t : Table) : Type 0 where
  pub sound : Sound t
  pub formed : Formed t
