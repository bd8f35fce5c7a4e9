-- `verdicts::table::numbered` meets its contract: a walk along the numbers.
use Rattle.std.proofs.Common.{◌≡◌, replicate}
use Rattle.laws.proofs.Copying.{copied}
use Rattle.verdicts.specs.Structs.{number_of}
use Rattle.verdicts.proofs.table.numbered.Given as goal

abbrev pub invariant-loop-i : goal.invariant-loop-i
invariant-loop-i l = l.tasks ≡ copied number_of l.ranks (replicate 64 (number_of 0)) l.i
