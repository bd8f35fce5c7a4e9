-- `digits::places::write_places` meets its contract: what is left of the number goes before the places that are done.
use Rattle.digits.proofs.Allowed.{Allowing}
use Rattle.digits.proofs.places.write_places.Given as goal

abbrev pub invariant-loop-i : goal.invariant-loop-i
invariant-loop-i g l = Allowing g.row.BASE (goal.F-post g l.sign) l.initial.tail l.width l.v l.tail l.rest l.i
