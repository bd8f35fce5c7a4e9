-- `tables::write::write_table` meets its contract: the header, and the lines of the rows right after it.
use Rattle.tables.proofs.Views.{rows-counted}
use Rattle.tables.proofs.Writes.{table-written}
use Rattle.tables.proofs.write.write_table.Goals as goal

pub returns : goal.returns
returns c =
    let count = rows-counted c.args.table c.well_formed.1.0 c.rows_of-n.ensures in
    rw c.bytes.ensures (table-written _ _ c.requires _ count _ _ c.write.ensures (rw c.bytes.ensures at c.write_rows.ensures))
