-- `engine::choose::choose` meets its contract: a walk along the ranks that keeps the tasks with left work.
use Rattle.engine.proofs.Choosing.{Going}
use Rattle.engine.proofs.choose.choose.Given as goal

abbrev pub invariant-loop-i : goal.invariant-loop-i
invariant-loop-i l = Going l.ranks l.left l.initial.chosen l.chosen l.k l.i-index
