-- `verdicts::table::numbered` meets its contract: a walk along the numbers.
use Rattle.std.proofs.Common.{◌≡◌, refl, length, replicate, arith}
use Rattle.laws.proofs.Copying.{copied_turn}
use Rattle.verdicts.specs.Structs.{number_of}
use Rattle.verdicts.proofs.table.numbered.Goals as goal

pub loop-i-preserved : goal.loop-i-preserved
loop-i-preserved c =
    let long : length c.args.ranks ≡ 64 = c.well_formed.0.1.0.1 in
    copied_turn number_of 0 (number_of 0) _ (replicate 64 (number_of 0)) _ (omega (arith, long)) (omega arith) c.loop-i.invariant refl
