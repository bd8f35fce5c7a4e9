-- `tables::repeat::repeat_length` meets its contract: the value at hand, taken on through the rows that are left, is H.
use Rattle.tables.proofs.Repeats.{Repeating}
use Rattle.tables.proofs.repeat.repeat_length.Given as goal

abbrev pub invariant-loop-row : goal.invariant-loop-row
invariant-loop-row l = Repeating l.row-items l.h l.row-index
