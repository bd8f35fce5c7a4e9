-- `verdicts::table::test_rows` meets its contract: a walk along the rows that ends at the first that is refused.
use Rattle.verdicts.proofs.Testing.{Passed}
use Rattle.verdicts.proofs.table.test_rows.Given as goal

abbrev pub invariant-loop-row : goal.invariant-loop-row
invariant-loop-row l = Passed l.row-items l.row-index
