-- `tables::repeat::gcd` meets its contract: a greatest common divisor of the two numbers at hand is one of the first two.
use Prim.Native.Nat.{ℕ}
use Rattle.tables.specs.Repeats.{Gcd}
use Rattle.tables.proofs.repeat.gcd.Given as goal

abbrev pub invariant-loop-y : goal.invariant-loop-y
invariant-loop-y l = (g : ℕ) → Gcd l.x l.y g → Gcd l.a l.b g

abbrev pub decreases-loop-y : goal.decreases-loop-y
decreases-loop-y l = l.y
