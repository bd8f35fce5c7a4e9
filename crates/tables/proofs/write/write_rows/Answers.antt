-- `tables::write::write_rows` meets its contract: the lines that are written stand at the front, one right after the other.
use Rattle.std.proofs.Common.{refl, ap, ◌∙◌, ◌*◌, List, ◌++◌, map, length, drop, arith}
use Rattle.laws.specs.Lists.{join}
use Rattle.rules.specs.Rows.{Row}
use Rattle.rules.specs.Files.{row_line}
use Rattle.reading_laws.proofs.Laying.{no_piece}
use Rattle.tables.proofs.Views.{rows-lent}
use Rattle.tables.proofs.Writes.{next-line, lines-written}
use Rattle.tables.proofs.write.write_rows.Goals as goal

pub loop-row-init : goal.loop-row-init
loop-row-init c =
    let lent = rows-lent c.args.table c.well_formed.1.0 c.rows_of.ensures in
    no_piece refl (omega (arith, ap length lent))

pub loop-row-preserved : goal.loop-row-preserved
loop-row-preserved c = rw c.bytes-at.ensures (next-line _ c.loop-row.invariant (omega arith) c.write.ensures)

pub returns : goal.returns
returns c =
    let lent = rows-lent c.args.table c.well_formed.1.0 c.rows_of.ensures in
    lines-written _ c.loop-row.invariant (omega arith) ∙ ap (λ (rows : List Row). join (map row_line rows) ++ drop (11 * length rows) c.args.out.now) lent
