-- `tables::list::test_rows` meets its contract: the tests that are left are the first of which one can hold.
use Rattle.std.proofs.Common.{sym, ◌∙◌, arith}
use Rattle.rules.proofs.Results.{passed_on}
use Rattle.tables.specs.Views.{pack_rows}
use Rattle.tables.proofs.Lists.{testing_starts, testing_stops, testing_goes_on, testing_ends}
use Rattle.tables.proofs.list.test_rows.Goals as goal

pub loop-i-init : goal.loop-i-init
unfolding pack_rows
loop-i-init c = testing_starts _

pub returns-in_err-rows : goal.returns-in_err-rows
returns-in_err-rows c =
    passed_on _ c.from_residual.ensures.1 ∙ testing_stops _ _ _ c.loop-i.invariant (omega arith) _ (sym c.test_row.ensures ∙ c.in_err-rows.was)

pub loop-i-preserved : goal.loop-i-preserved
loop-i-preserved c =
    testing_goes_on _ _ _ c.loop-i.invariant (omega arith) _ c.requires (sym c.test_row.ensures ∙ c.in_ok-rows.was)

pub returns : goal.returns
returns c = testing_ends _ _ _ c.loop-i.invariant (omega arith)
