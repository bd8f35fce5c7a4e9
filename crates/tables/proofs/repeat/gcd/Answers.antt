-- `tables::repeat::gcd` meets its contract: a greatest common divisor of the two numbers at hand is one of the first two.
use mathlib.Core.Path.{◌≡◌}
use native.Mathlib.Omega.{arith}
use Rattle.tables.proofs.Repeats.{gcd_turn, gcd_zero}
use Rattle.tables.proofs.repeat.gcd.Goals as goal

pub loop-y-preserved : goal.loop-y-preserved
loop-y-preserved c = λ g h. c.loop-y.invariant g (gcd_turn _ _ g h)

pub returns : goal.returns
returns c =
    let x = c.loop-y.x in
    let none : c.loop-y.y ≡ 0 = omega arith in
    c.loop-y.invariant x (rw none (gcd_zero x))
