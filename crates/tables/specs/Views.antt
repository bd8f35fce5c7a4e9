-- What the structs say, as the rules' tables, and the structs that say a table: every row past the last is 0.
use Rattle.std.specs.Prelude.{◌-◌, ◌≡◌, List, [], ◌++◌, map, length, take, replicate, Result}
use Rattle.rules.specs.Limits.{tasks_max}
use Rattle.rules.specs.Refusals.{Answer}
use Rattle.rules.specs.Results.{reply}
use Rattle.rules.specs.Rows as Rows
use Rattle.rules.specs.Tables as Tables
use Rattle.tables.specs.declared.table.Row.{Row}
use Rattle.tables.specs.declared.table.Table.{Table}
use Rattle.rules.specs.declared.refusal.Refused.{Refused}

-- one row, there and back
abbrev pub pack_row : Rows.Row → Row
pack_row r = record { c = r.c; t = r.t }

abbrev pub view_row : Row → Rows.Row
view_row r = record { c = r.c; t = r.t }

-- what stands past the last row
abbrev pub zero_row : Row
zero_row = record { c = 0; t = 0 }

-- the rows, and zeros up to 64
unfoldable pub pack_rows : List Rows.Row → List Row
pack_rows rows = map pack_row rows ++ replicate (tasks_max - length rows) zero_row

-- the struct that says a table
unfoldable pub pack : Tables.Table → Table
pack tbl = record { m = record { 0 = tbl.m }; n = record { 0 = Tables.size tbl }; rows = pack_rows tbl.rows }

-- the table that a struct says: m, and the first n of its rows
unfoldable pub view : Table → Tables.Table
view t = record { m = t.m.0; rows = map view_row (take t.n.0 t.rows) }

-- a struct that says a table: its rows past the last are 0
abbrev pub Formed : Table → Type 0
Formed t = pack (view t) ≡ t

-- no core, and no task
unfoldable pub no_table : Table
no_table = pack (record { m = 0; rows = [] })

-- what is returned for a table
abbrev pub table_answer : Answer Tables.Table → Result Table Refused
table_answer a = reply pack a
