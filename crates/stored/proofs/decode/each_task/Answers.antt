-- `stored::decode::each_task` meets its contract: so far the array has what was given, and blanks after it.
use Rattle.stored.proofs.Tasks.{filled_none}
use Rattle.stored.proofs.decode.each_task.Goals as goal

pub loop-i-init : goal.loop-i-init
loop-i-init g c = filled_none (goal.F-post g c.args.of) c.args.blank
