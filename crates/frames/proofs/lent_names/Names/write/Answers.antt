-- `frames::lent_names::Names::write` meets its contract: the digits that were looked up are those of the byte.
use Prim.Native.Nat.{◌%◌}
use native.Mathlib.Omega.{arith}
use Rattle.laws.proofs.Digits.{field_byte}
use Rattle.frames.proofs.Lookup.{name_written}
use Rattle.frames.proofs.lent_names.Names.write.Goals as goal

pub returns : goal.returns
returns c =
    rw (c.args.self.now.are, field_byte c.args.v) (name_written (c.args.v % 256) (omega arith) c.args.out.now c.args.at c.requires (omega arith) (omega arith))
