-- `stored::bytes::write_numbers` meets its contract: a walk along the numbers that lays each after those before it.
use native.Mathlib.Omega.{arith}
use Rattle.reading_laws.proofs.Laying.{nothing}
use Rattle.frames.proofs.FieldLoop.{start, turn, ended}
use Rattle.stored.specs.Layout.{bytes_of}
use Rattle.stored.proofs.Numbers.{length-bytes_of}
use Rattle.stored.proofs.Storing.{numbers-laid}
use Rattle.stored.proofs.bytes.write_numbers.Goals as goal

pub loop-width-init : goal.loop-width-init
loop-width-init c = start bytes_of length-bytes_of _ _ 0 _ (nothing _)

pub loop-width-preserved : goal.loop-width-preserved
loop-width-preserved c = turn bytes_of length-bytes_of _ _ 0 _ c.loop-width.invariant (omega (arith, c.requires)) c.loop-width-test.true c.write_bytes.ensures

pub returns : goal.returns
returns c =
    let laid = ended bytes_of length-bytes_of _ _ 0 _ c.loop-width.invariant c.loop-width-test.false in
    numbers-laid _ _ laid.0 (omega (arith, laid.1))
