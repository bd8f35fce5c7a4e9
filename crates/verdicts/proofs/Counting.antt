-- The number of heavy tasks is the number of heavy rows.
use Prim.Native.Nat.{ℕ}
use mathlib.Core.Path.{◌≡◌, refl, sym, ◌∙◌}
use mathlib.Core.Bool.{cond}
use mathlib.Core.List.{List, map}
use Rattle.laws.specs.Lists.{sum, numbers}
use Rattle.laws.proofs.Filters.{count_as_sum}
use Rattle.rules.specs.Tables.{size}
use Rattle.rules.specs.Verdicts.{fraction, heavy_at, heavy, heavy_count}
use Rattle.priority_laws.proofs.Order.{rows-sum}
use Rattle.std.specs.List.{count_by}
use Rattle.std.proofs.lemmas.List.Recursion.{is_sum_by}
use Rattle.tables.specs.Views.{view_row}
use Rattle.tables.specs.declared.table.Row.{Row}
use Rattle.verdicts.specs.Rows.{table_of}

pub heavy_rows : (m : ℕ) (rows : List Row) → heavy_count (table_of m rows) ≡ count_by (λ r. heavy_at (fraction m) (view_row r)) rows
unfolding heavy_count heavy
heavy_rows m rows =
    let tbl = table_of m rows in
    count_as_sum (heavy tbl) (numbers (size tbl))
    ∙ sym (rows-sum tbl (λ r. cond (heavy_at (fraction m) r) 1 0))
    ∙ is_sum_by (λ rs. sum (map (λ r. cond (heavy_at (fraction m) r) 1 0) (map view_row rs))) (λ r. cond (heavy_at (fraction m) (view_row r)) 1 0) refl (λ _ _. refl) rows
