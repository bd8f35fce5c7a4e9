-- `tables::file::read_rows` meets its contract: the rows that were read, and those that are read from here on, are the whole.
use Rattle.tables.proofs.Files.{ReadingRows}
use Rattle.tables.proofs.file.read_rows.Given as goal

abbrev pub invariant-loop-i : goal.invariant-loop-i
invariant-loop-i l = ReadingRows l.s l.n l.rows l.at l.i
