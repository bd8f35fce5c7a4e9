-- `runs::parts::apart` meets its contract: a walk along the tasks that puts each one's numbers into the arrays.
use Rattle.runs.proofs.Parting.{period-low, units_small, start, turn, ended}
use Rattle.runs.proofs.parts.apart.Goals as goal

pub loop-i-init : goal.loop-i-init
loop-i-init c = start c.args.formed

pub nonzero_rem-phase : goal.nonzero_rem-phase
nonzero_rem-phase c = period-low c.args.formed c.loop-i.i c.loop-i-test.true

pub overflow_cast-left : goal.overflow_cast-left
overflow_cast-left c = record { fits = (units_small c.args.formed c.loop-i.i c.loop-i-test.true).0 }

pub overflow_cast-done : goal.overflow_cast-done
overflow_cast-done c = record { fits = (units_small c.args.formed c.loop-i.i c.loop-i-test.true).1 }

pub overflow_cast-dropped : goal.overflow_cast-dropped
overflow_cast-dropped c = record { fits = (units_small c.args.formed c.loop-i.i c.loop-i-test.true).2 }

pub loop-i-preserved : goal.loop-i-preserved
loop-i-preserved c = turn c.loop-i.invariant c.loop-i-test.true

pub returns : goal.returns
returns c = ended c.loop-i.invariant c.loop-i-test.false
