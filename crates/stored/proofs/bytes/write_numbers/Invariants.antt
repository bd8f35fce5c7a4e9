-- `stored::bytes::write_numbers` meets its contract: a walk along the numbers that lays each after those before it.
use Rattle.std.proofs.Common.{[]}
use Rattle.frames.proofs.FieldLoop.{Going}
use Rattle.stored.specs.Layout.{bytes_of}
use Rattle.stored.proofs.bytes.write_numbers.Given as goal

abbrev pub invariant-loop-width : goal.invariant-loop-width
invariant-loop-width l = Going bytes_of l.fn.out [] 0 l.numbers l.out l.at l.width-index
