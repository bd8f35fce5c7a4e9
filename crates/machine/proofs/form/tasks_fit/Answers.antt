-- `machine::form::tasks_fit` meets its contract.
use Prim.Native.Nat.{◌+◌}
use mathlib.Core.Path.{◌∙◌}
use native.Mathlib.Omega.{arith}
use Rattle.std.proofs.Common.{rules, tests}
use Rattle.std.proofs.lemmas.Iterator.{YieldsList-from_range}
use Rattle.std.proofs.lemmas.Iterator.Search.{all_from_yields_List}
use Rattle.rules.specs.Forms.{task_formed}
use Rattle.machine.specs.Views.{tasks, view}
use Rattle.machine.proofs.Walking.{all_next}
use Rattle.machine.proofs.form.tasks_fit.Goals as goal

pub returns : goal.returns
returns c =
    let s = c.args.s.now in
    all_from_yields_List (λ i. task_formed (view s) (i + 1)) _ _ c.all.result c.all.ensures.ran (YieldsList-from_range 0 (tasks s) (tasks s) (cc) (omega arith)) (λ x b q k. search (rules, tests))
    ∙ all_next (task_formed (view s)) 0 (tasks s)
