-- `stored::decode::each_task` meets its contract: so far the array has what was given, and blanks after it.
use Rattle.stored.proofs.Tasks.{Filled}
use Rattle.stored.proofs.decode.each_task.Given as goal

abbrev pub invariant-loop-i : goal.invariant-loop-i
invariant-loop-i g l = Filled (goal.F-post g l.of) l.fn.blank l.i l.all
