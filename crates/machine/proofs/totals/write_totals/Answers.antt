-- `machine::totals::write_totals` meets its contract.
use Rattle.std.proofs.Common.{sym, ap, ◌∙◌, ℕ, Result}
use Rattle.rules.specs.declared.refusal.Refusal.{Refusal}
use Rattle.rules.proofs.Results.{passed_on}
use Rattle.tables.specs.Writes.{made}
use Rattle.machine.proofs.Testing.{passed, failed}
use Rattle.machine.proofs.Totalling.{totals_ill, totals_short, totals-written}
use Rattle.machine.proofs.totals.write_totals.Goals as goal

pub returns-in_err-formed : goal.returns-in_err-formed
returns-in_err-formed c =
    let told = failed c.args.s c.try_from.ensures c.in_err-formed.was c.from_residual.ensures.1 in
    ap (λ (a : Result ℕ Refusal). made a c.args.out.now) told.0 ∙ totals_ill _ _ _ told.1

pub returns-in_err-room : goal.returns-in_err-room
returns-in_err-room c =
    ap (λ (a : Result ℕ Refusal). made a c.args.out.now) (passed_on _ c.from_residual-in_err-room.ensures.1)
    ∙ totals_short c.in_ok-formed.formed (passed c.args.s c.try_from.ensures c.in_ok-formed.was) _ _ (sym c.room.ensures ∙ c.in_err-room.was)

pub returns : goal.returns
returns c =
    totals-written c.in_ok-formed.formed (passed c.args.s c.try_from.ensures c.in_ok-formed.was) _ _ (sym c.room.ensures ∙ c.in_ok-room.was) _ c.dropped_units.ensures _ c.write_frame.ensures
