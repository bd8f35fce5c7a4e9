-- `runs::parts::together` meets its contract: a walk along the tasks that puts each one's numbers into the struct.
use Rattle.runs.proofs.Parting.{join_turn, join-ended}
use Rattle.runs.proofs.parts.together.Goals as goal

pub loop-i-preserved : goal.loop-i-preserved
loop-i-preserved c =
    join_turn c.loop-i.invariant c.loop-i-test.true c.from.ensures c.from-in-loop-i.ensures c.from-in-loop-i-2.ensures

pub returns : goal.returns
returns c = join-ended _ _ _ _ c.loop-i.invariant c.loop-i-test.false
