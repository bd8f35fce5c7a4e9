-- `tables::list::test_rows` meets its contract: the tests that are left are the first of which one can hold.
use Rattle.tables.proofs.Lists.{TestingRows}
use Rattle.tables.proofs.list.test_rows.Given as goal

abbrev pub invariant-loop-i : goal.invariant-loop-i
invariant-loop-i l = TestingRows l.list l.rows l.i
