-- `engine::place::keep` meets its contract: a walk along the chosen tasks that does their work and seats those whose last core is free.
use lib.ListN.{take}
use Rattle.engine.specs.Work.{Worked}
use Rattle.engine.proofs.Keeping.{Going}
use Rattle.engine.proofs.place.keep.Given as goal

abbrev pub invariant-loop-i : goal.invariant-loop-i
invariant-loop-i l =
    Going l.chosen l.last l.initial.cores l.initial.others l.cores l.others l.n l.i-index
    × Worked (take l.i-index l.chosen) l.initial.left l.initial.done l.left l.done
