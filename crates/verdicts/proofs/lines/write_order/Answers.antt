-- `verdicts::lines::write_order` meets its contract: the type, the task numbers and the line feed, one right after the other.
use Prim.Native.Nat.{◌+◌, ◌*◌}
use native.Mathlib.Omega.{arith}
use lib.ListN.{length}
use Rattle.frames.specs.Pairs.{pairs}
use Rattle.frames.proofs.PairLoop.{length_pairs}
use Rattle.rules.specs.Frames.{frame}
use Rattle.rules.specs.Runs.{order_line}
use Rattle.reading_laws.proofs.Laying.{nothing, field_more, more, fed}
use Rattle.verdicts.proofs.lines.write_order.Goals as goal

pub returns : goal.returns
unfolding order_line frame pairs
returns c =
    let out = c.args.out.now in
    let ranks = c.args.ranks.now in
    let one = field_more out (nothing out) 2 0x12 (omega arith) c.write_type.ensures in
    let two = more out one (pairs ranks) (2 * length ranks) (length_pairs ranks) (omega arith) c.write_pairs.ensures in
    fed out two (2 * length ranks + 3) (omega arith) (omega arith)
