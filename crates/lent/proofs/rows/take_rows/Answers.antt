-- `lent::rows::take_rows` meets its contract: each turn puts one row into its place, and the table of the pairs is that of the rows.
use Rattle.std.proofs.Common.{◌≡◌, ◌∙◌, arith}
use Rattle.std.proofs.Math.ListN.{length-take}
use Rattle.lent.proofs.Copies.{copied_more, table_same}
use Rattle.lent.proofs.rows.take_rows.Goals as goal

pub loop-i-preserved : goal.loop-i-preserved
loop-i-preserved c =
    let long = length-take c.min-n.result c.args.rows.now in
    copied_more _ _ _ c.loop-i.invariant (omega (arith, c.loop-i-test.true)) (omega (arith, c.min-n.ensures, long)) (omega arith) (omega arith)

pub returns : goal.returns
returns c =
    let long = length-take c.min-n.result c.args.rows.now in
    let end : c.loop-i.i ≡ c.min-n.result = omega (arith, c.loop-i-test.false, c.loop-i.invariant.within, long, c.min-n.ensures) in
    c.take_list.ensures ∙ table_same _ _ _ _ _ c.loop-i.invariant end (omega (arith, c.min-n.ensures))
