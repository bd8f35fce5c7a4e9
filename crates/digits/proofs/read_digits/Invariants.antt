-- `digits::read_digits` meets its contract: the digits that are left, after the number that was read, stand for the whole.
use Rattle.laws.proofs.DigitLoops.{Reading}
use Rattle.digits.proofs.read_digits.Given as goal

abbrev pub invariant-loop-b : goal.invariant-loop-b
invariant-loop-b l = Reading l.s l.v l.b-index
