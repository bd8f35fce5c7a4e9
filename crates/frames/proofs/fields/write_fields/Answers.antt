-- `frames::fields::write_fields` meets its contract: a walk along the fields that lays each after those before it.
use native.Mathlib.Omega.{arith}
use Rattle.laws.specs.Digits.{field}
use Rattle.laws.proofs.Digits.{length-field}
use Rattle.reading_laws.proofs.Laying.{nothing, field_more}
use Rattle.frames.proofs.FieldLoop.{start, turn, ended}
use Rattle.frames.proofs.FieldFrame.{framed}
use Rattle.frames.proofs.fields.write_fields.Goals as goal

pub loop-width-init : goal.loop-width-init
loop-width-init c = start field length-field _ _ 2 _ (field_more _ (nothing _) 2 _ (omega (arith, c.requires)) c.write_type.ensures)

pub loop-width-preserved : goal.loop-width-preserved
loop-width-preserved c = turn field length-field _ _ 2 _ c.loop-width.invariant (omega (arith, c.requires)) c.loop-width-test.true c.write_field.ensures

pub returns : goal.returns
returns c =
    let laid = ended field length-field _ _ 2 _ c.loop-width.invariant c.loop-width-test.false in
    framed _ _ _ c.requires laid.0 laid.1 (omega arith)
