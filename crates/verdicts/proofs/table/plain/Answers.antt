-- `verdicts::table::plain` meets its contract: a walk along the task numbers.
use Rattle.std.proofs.Common.{◌≡◌, refl, length, replicate, arith}
use Rattle.laws.proofs.Copying.{copied_turn}
use Rattle.rules.specs.declared.kinds.TaskNumber.{TaskNumber}
use Rattle.verdicts.specs.Structs.{number_of}
use Rattle.verdicts.proofs.table.plain.Goals as goal

pub loop-i-preserved : goal.loop-i-preserved
loop-i-preserved c =
    let long : length c.args.tasks ≡ 64 = c.well_formed.0.1.0.1 in
    copied_turn (λ (i : TaskNumber). i.0) (number_of 0) 0 _ (replicate 64 0) _ (omega (arith, long)) (omega arith) c.loop-i.invariant refl
