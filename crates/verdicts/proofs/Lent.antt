-- A table that is lent as its rows: the row of a task, by its number.
use Prim.Native.Nat.{ℕ, zero, suc, ◌-◌, ◌≤◌}
use mathlib.Core.Path.{◌≡◌}
use native.Mathlib.Numerals.{sub-one}
use native.Mathlib.Omega.{arith}
use lib.ListN.{length, get_or, length-map, get_or-map}
use Rattle.rules.specs.Limits.{tasks_max}
use Rattle.rules.specs.Tables.{no_row, row_of}
use Rattle.reading_laws.specs.Bounds.{RowInBounds}
use Rattle.reading_laws.proofs.Tests.{every_get_or}
use Rattle.tables.specs.Views.{view_row, zero_row}
use Rattle.verdicts.specs.Rows.{table_of}
use Rattle.verdicts.specs.declared.rows.Rows.{Rows}

module _ (t : Rows) where
  -- there are at most 64 tasks
  pub tasks-few : length t.rows.now ≤ tasks_max
  tasks-few = omega (arith, length-map t.rows.now view_row, t.bounds.tasks.most)

  -- the row of task i stands at its place
  pub row-at : (i : ℕ) → 1 ≤ i → row_of (table_of t.m t.rows.now) i ≡ view_row (get_or t.rows.now (i - 1) zero_row)
  row-at zero low = absurd (omega arith)
  row-at (suc i) low = rw sub-one (get_or-map view_row t.rows.now i zero_row)

  -- and is in its bounds
  pub row-bounds : (i : ℕ) → 1 ≤ i → i ≤ length t.rows.now → RowInBounds (row_of (table_of t.m t.rows.now) i)
  row-bounds zero low high = absurd (omega arith)
  row-bounds (suc i) low high =
      every_get_or RowInBounds (table_of t.m t.rows.now).rows no_row i t.bounds.fine (omega (arith, length-map t.rows.now view_row))
