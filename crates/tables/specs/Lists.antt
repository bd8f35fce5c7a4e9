-- A list of rows, each a pair of C and T, and the tests of its rows.
use Rattle.std.specs.Prelude.{ℕ, List, map, get_or}
use Rattle.laws.specs.Lists.{join}
use Rattle.rules.specs.Refusals.{Answer, settle}
use Rattle.rules.specs.Rows.{Row}
use Rattle.rules.specs.Tables.{row_tests}

-- the row of a pair
abbrev pub pair_row : List ℕ → Row
pair_row p = record { c = get_or p 0 0; t = get_or p 1 0 }

-- the rows of a list
abbrev pub list_rows : List (List ℕ) → List Row
list_rows list = map pair_row list

-- 4, row by row
unfoldable pub test_rows : List Row → Answer (List Row)
test_rows rows = settle (join (map row_tests rows)) rows
