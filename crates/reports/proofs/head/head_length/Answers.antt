-- `reports::head::head_length` meets its contract.
use native.Mathlib.Omega.{arith}
use Rattle.tables.proofs.Views.{table_full}
use Rattle.reports.proofs.Heads.{count_is}
use Rattle.reports.proofs.head.head_length.Goals as goal

pub returns : goal.returns
returns c =
    let t = c.args.t in
    omega (arith, count_is t (table_full t _ c.well_formed.0) c.rows_of.ensures)
