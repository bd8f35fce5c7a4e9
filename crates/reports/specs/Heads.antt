-- The lines that come before the slots.
use Rattle.std.specs.Prelude.{ℕ, ◌+◌, ◌*◌, ◌≤◌, List, ◌++◌, length}
use Rattle.rules.specs.Runs.{verdict_line, order_line}
use Rattle.rules.specs.Tables as Rules
use Rattle.rules.specs.Verdicts.{order}
use Rattle.tables.specs.declared.table.Table.{Table}
use Rattle.machine.specs.Tables.{Opened}

-- frames `11` and `12`
abbrev pub head : Rules.Table → List ℕ
head tbl = verdict_line tbl ++ order_line (order tbl)

-- how long they are
abbrev pub head_length : Rules.Table → ℕ
head_length tbl = 18 + 2 * Rules.size tbl

-- a table that a run can start with, and a buffer with room for so many bytes
pub record Room (t : Table) (bytes : ℕ) (out : List ℕ) : Type 0 where
  pub opened : Opened t
  pub room : bytes ≤ length out
