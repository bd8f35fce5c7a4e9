-- `verdicts::table::test_rows` meets its contract: a walk along the rows that ends at the first that is refused.
use Rattle.std.proofs.Common.{sym, ◌∙◌, arith}
use Rattle.rules.proofs.Results.{passed_on}
use Rattle.tables.proofs.Views.{table_full}
use Rattle.verdicts.proofs.Testing.{row_ends, row_goes_on, none-passed, turn, stopped, ended, rows_lent}
use Rattle.verdicts.proofs.table.test_rows.Goals as goal

pub loop-row-init : goal.loop-row-init
loop-row-init c = none-passed _

pub returns-in_err-test_row : goal.returns-in_err-test_row
returns-in_err-test_row c =
    passed_on _ c.from_residual.ensures.1
    ∙ stopped _ c.loop-row.invariant (omega arith) (row_ends _ _ (sym c.test_row.ensures ∙ c.in_err-test_row.was))
    ∙ rows_lent c.args.t (table_full c.args.t _ c.well_formed.0) c.rows_of.ensures

pub loop-row-preserved : goal.loop-row-preserved
loop-row-preserved c = turn _ c.loop-row.invariant (omega arith) (row_goes_on _ _ (sym c.test_row.ensures ∙ c.in_ok-test_row.was))

pub returns : goal.returns
returns c = ended _ c.loop-row.invariant (omega arith) ∙ rows_lent c.args.t (table_full c.args.t _ c.well_formed.0) c.rows_of.ensures
