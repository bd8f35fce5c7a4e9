-- `engine::end::end` meets its contract: a walk over the tasks that puts each one's next phase, left work and dropped units.
use Rattle.engine.proofs.Ending.{Going}
use Rattle.engine.proofs.end.end.Given as goal

abbrev pub invariant-loop-i : goal.invariant-loop-i
invariant-loop-i l = Going l.columns.c.now l.columns.t.now l.initial.phase l.initial.left l.initial.dropped l.phase l.left l.dropped l.misses l.i
