-- `frames::slot::write_number` meets its contract: the type and the bytes of the number are laid one right after the other.
use Prim.Native.Nat.{◌/◌}
use native.Mathlib.Omega.{arith}
use Rattle.reading_laws.proofs.Laying.{nothing, field_more, laid-front}
use Rattle.frames.proofs.SlotFrame.{number_bytes}
use Rattle.frames.proofs.slot.write_number.Goals as goal

pub returns : goal.returns
returns c =
    let s = c.args.slot in
    let out = c.args.out.now in
    let one = field_more out (nothing out) 2 0x13 (omega arith) c.write_type.ensures in
    let two = field_more out one 2 (s / 256 / 256 / 256) (omega arith) c.write.ensures in
    let three = field_more out two 2 (s / 256 / 256) (omega arith) c.write-2.ensures in
    let four = field_more out three 2 (s / 256) (omega arith) c.write-3.ensures in
    let five = field_more out four 2 s (omega arith) c.write-4.ensures in
    rw (number_bytes s) (laid-front out five 10 (omega arith))
