-- `engine::place::fill` meets its contract: a walk along the cores that seats the next task at each free one.
use Rattle.engine.proofs.Seating.{Going}
use Rattle.engine.proofs.place.fill.Given as goal

abbrev pub invariant-loop-k : goal.invariant-loop-k
invariant-loop-k l = Going l.others l.initial.last l.initial.cores l.last l.cores l.moves l.j l.k
