-- `frames::pairs::write_pairs` meets its contract: a walk along the values that lays two digits for each.
use Rattle.frames.proofs.PairLoop.{Going}
use Rattle.frames.proofs.pairs.write_pairs.Given as goal

abbrev pub invariant-loop-i : goal.invariant-loop-i
invariant-loop-i l = Going l.initial.out l.values l.out l.i
