-- `machine::lead::lead` meets its contract.
use mathlib.Core.Path.{refl, sym, ◌∙◌}
use native.Mathlib.Omega.{arith}
use mir.Syntax.{w64}
use mir.Facts.{to_z-of_z}
use Rattle.machine.proofs.Leading.{lead_ill, lead-out, lead-place, lead_parts, lead_in}
use Rattle.machine.proofs.Testing.{passed, failed}
use Rattle.machine.proofs.lead.lead.Goals as goal

pub returns-in_err-s : goal.returns-in_err-s
returns-in_err-s c =
    let told = failed c.args.s c.try_from.ensures c.in_err-s.was c.from_residual.ensures.1 in
    told.0 ∙ lead_ill _ _ told.1

pub returns-then-is_outside : goal.returns-then-is_outside
returns-then-is_outside c = lead-out c.in_ok-s.field-0 (passed c.args.s c.try_from.ensures c.in_ok-s.was) _ (sym c.is_outside.ensures ∙ c.if-is_outside.true)

pub bounds-s-k : goal.bounds-s-k
bounds-s-k c = (lead-place c.in_ok-s.field-0 (passed c.args.s c.try_from.ensures c.in_ok-s.was) _ (sym c.is_outside.ensures ∙ c.if-is_outside.false)).1

pub bounds-t-k : goal.bounds-t-k
bounds-t-k c = (lead-place c.in_ok-s.field-0 (passed c.args.s c.try_from.ensures c.in_ok-s.was) _ (sym c.is_outside.ensures ∙ c.if-is_outside.false)).1

pub bounds-t-k-2 : goal.bounds-t-k-2
bounds-t-k-2 c = (lead-place c.in_ok-s.field-0 (passed c.args.s c.try_from.ensures c.in_ok-s.was) _ (sym c.is_outside.ensures ∙ c.if-is_outside.false)).1

pub overflow_mul-worked : goal.overflow_mul-worked
overflow_mul-worked c =
    let small = lead_parts c.in_ok-s.field-0 (passed c.args.s c.try_from.ensures c.in_ok-s.was) _ (sym c.is_outside.ensures ∙ c.if-is_outside.false) c.from.ensures refl in
    record { fits = omega (arith, small.left) }

-- the parts are those of the definition
pub returns : goal.returns
returns c =
    lead_in c.in_ok-s.field-0 (passed c.args.s c.try_from.ensures c.in_ok-s.was) _ (sym c.is_outside.ensures ∙ c.if-is_outside.false) c.from.ensures c.times.ensures _
    (to_z-of_z {w = w64} (record { sfits = c.difference.type_inv }) ∙ c.difference.ensures)

-- and so they are small
pub difference-requires : goal.difference-requires
difference-requires c =
    lead_parts c.in_ok-s.field-0 (passed c.args.s c.try_from.ensures c.in_ok-s.was) _ (sym c.is_outside.ensures ∙ c.if-is_outside.false) c.from.ensures c.times.ensures
