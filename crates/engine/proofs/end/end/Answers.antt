-- `engine::end::end` meets its contract: a walk over the tasks that puts each one's next phase, left work and dropped units.
use Rattle.engine.proofs.Ending.{turn}
use native.Mathlib.Omega.{arith}
use Rattle.engine.proofs.end.end.Goals as goal

pub loop-i-preserved : goal.loop-i-preserved
loop-i-preserved c =
    turn _ _ _ _ _ c.requires c.loop-i.invariant (omega arith)
    c.next_phase-next.ensures
    c.at_release.ensures
    c.at_release-late.ensures
    c.from-misses.ensures
