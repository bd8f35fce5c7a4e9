-- `tables::write::write_rows` meets its contract: the lines that are written stand at the front, one right after the other.
use Rattle.tables.proofs.Writes.{Lines}
use Rattle.tables.proofs.write.write_rows.Given as goal

abbrev pub invariant-loop-row : goal.invariant-loop-row
invariant-loop-row l = Lines l.row-items l.initial.out l.out l.at l.row-index
