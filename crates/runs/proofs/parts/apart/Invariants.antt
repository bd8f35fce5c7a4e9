-- `runs::parts::apart` meets its contract: a walk along the tasks that puts each one's numbers into the arrays.
use Rattle.runs.proofs.Parting.{Parting}
use Rattle.runs.proofs.parts.apart.Given as goal

abbrev pub invariant-loop-i : goal.invariant-loop-i
invariant-loop-i l = Parting l.fn.formed.state.now l.c l.t l.ranks l.phase l.left l.last l.done l.dropped l.i
