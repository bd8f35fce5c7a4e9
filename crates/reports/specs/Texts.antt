-- The text of an accepted table, part by part, and how long it is.
use Rattle.std.specs.Prelude.{ℕ, ◌+◌, ◌*◌, ◌≤◌, min, List, ◌++◌, length}
use Rattle.rules.specs.Limits.{slots_max}
use Rattle.rules.specs.Repeat.{repeat_length}
use Rattle.rules.specs.Runs.{after, slot_lines, totals_line}
use Rattle.rules.specs.States.{fresh}
use Rattle.rules.specs.Tables as Rules
use Rattle.tables.specs.Views.{view}
use Rattle.tables.specs.declared.table.Table.{Table}
use Rattle.machine.specs.Tables.{Opened}
use Rattle.runs.specs.Slots.{frame_length}
use Rattle.reports.specs.Heads.{head_length}

-- how many slots are run
abbrev pub slots_of : Rules.Table → ℕ
slots_of tbl = min (repeat_length tbl.rows) slots_max

-- frames `13` of a count of slots, and frame `14`
abbrev pub run_lines : Rules.Table → ℕ → List ℕ
run_lines tbl count = slot_lines count (fresh tbl) ++ totals_line (after count (fresh tbl))

abbrev pub run_length : ℕ → ℕ → ℕ
run_length m count = count * frame_length m + 51

-- all of the text
abbrev pub report_length : Rules.Table → ℕ
report_length tbl = head_length tbl + run_length tbl.m (slots_of tbl)

-- a table that a run can start with, a count of slots that is run of it, and a buffer with room for their lines
pub record RunRoom (t : Table) (count : ℕ) (out : List ℕ) : Type 0 where
  pub opened : Opened t
  pub few : count ≤ slots_max
  pub room : run_length (view t).m count ≤ length out
