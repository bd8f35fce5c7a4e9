-- `frames::fields::write_fields` meets its contract: a walk along the fields that lays each after those before it.
use Rattle.laws.specs.Digits.{field}
use Rattle.rules.specs.Frames.{type_number}
use Rattle.frames.proofs.FieldLoop.{Going}
use Rattle.frames.proofs.fields.write_fields.Given as goal

abbrev pub invariant-loop-width : goal.invariant-loop-width
invariant-loop-width l = Going field l.fn.out (field 2 (type_number l.fn.t)) 2 l.fields l.out l.at l.width-index
