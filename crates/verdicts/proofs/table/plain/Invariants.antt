-- `verdicts::table::plain` meets its contract: a walk along the task numbers.
use Rattle.std.proofs.Common.{◌≡◌, replicate}
use Rattle.laws.proofs.Copying.{copied}
use Rattle.rules.specs.declared.kinds.TaskNumber.{TaskNumber}
use Rattle.verdicts.proofs.table.plain.Given as goal

abbrev pub invariant-loop-i : goal.invariant-loop-i
invariant-loop-i l = l.ranks ≡ copied (λ (i : TaskNumber). i.0) l.tasks (replicate 64 0) l.i
