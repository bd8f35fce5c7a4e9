-- `machine::form::is_padded` meets its contract.
use Prim.Native.Nat.{◌-◌}
use mathlib.Core.Path.{refl, ◌∙◌}
use borrow.Author.Tests.{lt-leb, le-leb}
use Rattle.std.proofs.Common.{arith, rules, tests}
use Rattle.std.proofs.lemmas.Iterator.{YieldsList-from_range}
use Rattle.std.proofs.lemmas.Iterator.Search.{all_from_yields_List}
use Rattle.machine.specs.Views.{tasks, blank, padded}
use Rattle.machine.proofs.Walking.{all_from}
use Rattle.machine.proofs.form.is_padded.Goals as goal

pub returns-then-n-le-MAX : goal.returns-then-n-le-MAX
unfolding padded
returns-then-n-le-MAX c =
    let s = c.args.s.now in
    let n = tasks s in
    rw (le-leb n 64 c.if-n-le-MAX.true) (
    all_from_yields_List (blank s) _ _ c.all.result c.all.ensures.ran (YieldsList-from_range n _ (64 - n) refl (omega arith)) (λ x b q k. search (rules, tests))
    ∙ all_from (blank s) n (64 - n)
    )

pub returns-else-n-le-MAX : goal.returns-else-n-le-MAX
unfolding padded
returns-else-n-le-MAX c = rw (lt-leb (tasks c.args.s.now) 64 c.if-n-le-MAX.false)
