-- `frames::slot::write_slot` meets its contract: its fields are laid one right after the other.
use Prim.Native.Nat.{◌+◌, ◌*◌}
use mathlib.Core.List.{◌++◌}
use native.Mathlib.Omega.{arith}
use lib.ListN.{length}
use Rattle.laws.specs.Digits.{field}
use Rattle.reading_laws.proofs.Laying.{first, field_more, more, ends_at, fed}
use Rattle.frames.specs.Pairs.{pairs}
use Rattle.frames.proofs.PairLoop.{length_pairs}
use Rattle.frames.proofs.SlotFrame.{slot_parts, number-long}
use Rattle.frames.proofs.slot.write_slot.Goals as goal

pub returns : goal.returns
returns c =
    let a = c.args in
    let out = a.out.now in
    let cores = a.cores.now in
    let one = first out (field 2 0x13 ++ field 8 a.slot) 10 (number-long a.slot) c.write_number.ensures in
    let two = more out one (pairs cores) (2 * length cores) (length_pairs cores) (omega arith) c.write_pairs.ensures in
    let end = ends_at out two (2 * length cores + 10) (omega arith) in
    let three = field_more out end 2 a.moves (omega arith) c.write.ensures in
    let four = field_more out three 2 a.misses (omega arith) c.write-2.ensures in
    let all = ends_at out four (2 * length cores + 10 + 4) (omega arith) in
    rw (slot_parts a.slot cores a.moves a.misses) (fed out all (2 * length cores + 15) (omega arith) (omega arith))
