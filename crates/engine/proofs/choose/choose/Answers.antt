-- `engine::choose::choose` meets its contract: a walk along the ranks that keeps the tasks with left work.
use mathlib.Core.Path.{refl}
use native.Mathlib.Omega.{arith}
use Rattle.engine.proofs.Choosing.{start, turn}
use Rattle.engine.proofs.choose.choose.Goals as goal

pub loop-i-init : goal.loop-i-init
loop-i-init c = start _ _ _

pub loop-i-preserved : goal.loop-i-preserved
loop-i-preserved c =
    rw (c.from-k.ensures, c.pending.ensures)
    (turn _ _ _ c.loop-i.invariant (omega arith) c.loop-i.auto.chosen (omega arith) _ refl)
