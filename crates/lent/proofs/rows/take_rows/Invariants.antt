-- `lent::rows::take_rows`: the rows up to i stand in their places.
use Rattle.std.proofs.Common.{take}
use Rattle.lent.proofs.Copies.{Copied}
use Rattle.lent.proofs.rows.take_rows.Given as goal

abbrev pub invariant-loop-i : goal.invariant-loop-i
invariant-loop-i l = Copied (take l.n l.rows) l.pairs l.i
