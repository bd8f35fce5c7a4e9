-- What is answered of one row, and of several.
use Rattle.std.specs.Prelude.{ℕ, List, Result}
use Rattle.rules.specs.Refusals.{Answer, first}
use Rattle.rules.specs.Results.{reply}
use Rattle.rules.specs.Rows as Rules
use Rattle.rules.specs.Tables.{row_tests}
use Rattle.rules.specs.Frames.{Read}
use Rattle.rules.specs.Files.{at_line}
use Rattle.rules.specs.declared.refusal.Refused.{Refused}
use Rattle.tables.specs.Views.{pack_row, pack_rows}
use Rattle.tables.specs.declared.table.Row.{Row}

-- a row with its tests, at a line
unfoldable pub test_row : ℕ → ℕ → ℕ → Answer Rules.Row
test_row c t line =
    let r : Rules.Row = record { c = c; t = t } in
    at_line line (first (row_tests r)) r

-- what is returned, for numbers in hand
abbrev pub row_answer : Answer Rules.Row → Result Row Refused
row_answer a = reply pack_row a

-- and for a line that was read
abbrev pub row_read : Answer (Read Rules.Row) → Result Row Refused
row_read a = reply (λ r. pack_row r.got) a

-- what is returned for several: the rows that were taken, and zeros past them
abbrev pub rows_answer : Answer (List Rules.Row) → Result (List Row) Refused
rows_answer a = reply pack_rows a

-- and for lines that were read
abbrev pub rows_read : Answer (Read (List Rules.Row)) → Result (List Row) Refused
rows_read a = reply (λ r. pack_rows r.got) a
