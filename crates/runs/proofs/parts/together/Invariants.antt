-- `runs::parts::together` meets its contract: a walk along the tasks that puts each one's numbers into the struct.
use Rattle.runs.proofs.Parting.{Joining}
use Rattle.runs.proofs.parts.together.Given as goal

abbrev pub invariant-loop-i : goal.invariant-loop-i
invariant-loop-i l = Joining l.n l.left l.last l.done l.dropped l.lefts l.lasts l.dones l.drops l.i
