-- `frames::pairs::write_pairs` meets its contract: a walk along the values that lays two digits for each.
use Rattle.frames.proofs.PairLoop.{start, turn, ended}
use native.Mathlib.Omega.{arith}
use Rattle.frames.proofs.pairs.write_pairs.Goals as goal

pub loop-i-init : goal.loop-i-init
loop-i-init c = start _ _ c.requires

pub loop-i-preserved : goal.loop-i-preserved
loop-i-preserved c =
    rw (c.digit.ensures, c.digit-in-loop-i.ensures)
    (turn c.args.out.now c.args.values.now c.requires c.loop-i.invariant (omega arith) (omega arith))

pub returns : goal.returns
returns c = ended _ _ c.requires c.loop-i.invariant (omega arith)
