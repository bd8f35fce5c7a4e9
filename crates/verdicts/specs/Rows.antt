-- A table as m and its rows, as they are lent.
use Rattle.std.specs.Prelude.{ℕ, ◌≤◌, List, [], ◌∷◌, map, length}
use Rattle.std.specs.Coded.{×_prop, Unit-prop}
use denote.Struct.Props.{props}
use Rattle.rules.specs.Limits.{tasks_max, repeat_max}
use Rattle.rules.specs.Rows as Rules
use Rattle.rules.specs.Tables.{Table}
use Rattle.reading_laws.specs.Bounds.{RowInBounds, Every, TableInBounds}
use Rattle.tables.specs.Views.{view_row}
use Rattle.tables.specs.declared.table.Row.{Row}

abbrev pub table_of : ℕ → List Row → Table
table_of m rows = record { m = m; rows = map view_row rows }

-- that a table is in its bounds has one proof at most, so it may be a ghost field
rows-prop : (rows : List Rules.Row) → IsProp (Every RowInBounds rows)
rows-prop [] = Unit-prop
rows-prop (r ∷ rows) = ×_prop (Prim.hlevel props) (rows-prop rows)

pub bounds-prop : (tbl : Table) → IsProp (TableInBounds tbl)
bounds-prop tbl = Prim.hlevel (rows-prop, props)

-- rows in their bounds, whose shares of h slots are asked for
pub record Sharing (h : ℕ) (rows : List Row) : Type 0 where
  pub few : length rows ≤ tasks_max
  pub fine : Every RowInBounds (map view_row rows)
  pub bounded : h ≤ repeat_max
