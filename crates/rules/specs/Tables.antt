-- Tables, and the tests of a list of rows: 2, 3, then 4 row by row, then 5.
use Rattle.std.specs.Prelude.{ℕ, Bool, ◌||◌, List, [], ◌∷◌, ◌++◌, map, eqb, ltb, length, get_or}
use Rattle.laws.specs.Lists.{join}
use Rattle.rules.specs.Limits.{cores_min, cores_max, tasks_min, tasks_max, period_max, repeat_max}
use Rattle.rules.specs.Refusals.{Test, test, passes, Answer, settle}
use Rattle.rules.specs.Rows.{Row}
use Rattle.rules.specs.Repeat.{repeat_length}
use Rattle.rules.specs.declared.refusal.Refusal.TheVariants.{BadCores, BadTasks, BadRow, BadRepeat}

pub record Table : Type 0 where
  pub m : ℕ
  pub rows : List Row

-- n
abbrev pub size : Table → ℕ
size tbl = length tbl.rows

-- the row of task i, counted from 1
abbrev pub no_row : Row
no_row = record { c = 0; t = 0 }

abbrev pub row_of : Table → ℕ → Row
row_of tbl i = get_or (no_row ∷ tbl.rows) i no_row

abbrev pub outside : ℕ → ℕ → ℕ → Bool
outside x low high = ltb x low || ltb high x

-- the tests of a header's numbers
unfoldable pub header_tests : ℕ → ℕ → List Test
header_tests m n = test (outside m cores_min cores_max) BadCores ∷ test (outside n tasks_min tasks_max) BadTasks ∷ []

-- the tests of one row, the same in a file, in a list and in a state
unfoldable pub row_tests : Row → List Test
row_tests r = test (eqb r.c 0 || ltb r.t r.c || ltb period_max r.t) BadRow ∷ []

-- the tests of all rows together
unfoldable pub whole_tests : List Row → List Test
whole_tests rows = test (ltb repeat_max (repeat_length rows)) BadRepeat ∷ []

-- the tests of a list of rows, in their order
unfoldable pub list_tests : ℕ → List Row → List Test
list_tests m rows = header_tests m (length rows) ++ join (map row_tests rows) ++ whole_tests rows

unfoldable pub accepts : Table → Bool
accepts tbl = passes (list_tests tbl.m tbl.rows)

-- the answer for a list of rows
unfoldable pub take_list : ℕ → List Row → Answer Table
take_list m rows = settle (list_tests m rows) (record { m = m; rows = rows })
