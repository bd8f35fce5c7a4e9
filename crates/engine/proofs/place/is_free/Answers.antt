-- `engine::place::is_free` meets its contract.
use Prim.Native.Nat.{◌≤◌}
use mathlib.Core.Path.{◌≡◌}
use native.Mathlib.Omega.{arith}
use borrow.Author.Tests.{lt-ltb}
use lib.Dec.{eqb}
use lib.ListN.{get_or}
use Rattle.laws.proofs.Filling.{at_pred}
use Rattle.rules.specs.Slots.{free}
use Rattle.engine.proofs.place.is_free.Goals as goal

pub returns-then-k-gt0 : goal.returns-then-k-gt0
unfolding free
returns-then-k-gt0 c =
    let a = c.args in
    let low : 1 ≤ a.k = omega (arith, c.if-k-gt0.true) in
    let idle : eqb (get_or a.cores.now c.from.result 0) 0 ≡ free a.cores.now a.k = rw (lt-ltb 0 a.k low, at_pred a.cores.now a.k low, c.from.ensures) in
    idle

pub returns-else-k-gt0 : goal.returns-else-k-gt0
unfolding free
returns-else-k-gt0 c =
    let none : c.args.k ≡ 0 = omega (arith, c.if-k-gt0.false) in
    rw none
