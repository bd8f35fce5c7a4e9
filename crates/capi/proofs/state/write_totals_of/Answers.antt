-- `capi::state::write_totals_of` meets its contract.
use Rattle.std.proofs.Common.{sym, ap, ◌∙◌, ℕ, Result}
use Rattle.rules.specs.declared.refusal.Refusal.{Refusal}
use Rattle.rules.proofs.Results.{passed_on}
use Rattle.tables.specs.Writes.{made}
use Rattle.capi.proofs.Loading.{loaded}
use Rattle.capi.proofs.Telling.{totals_loaded, totals_missing}
use Rattle.capi.proofs.state.write_totals_of.Goals as goal

pub returns-in_err-load : goal.returns-in_err-load
returns-in_err-load c =
    let a = c.args in
    ap (λ (x : Result ℕ Refusal). made x a.out.now) (passed_on _ c.from_residual.ensures.1)
    ∙ totals_missing a.state.now a.out.now a.at (sym c.load.ensures ∙ c.in_err-load.was)

pub returns : goal.returns
returns c =
    let a = c.args in
    c.write_totals.ensures ∙ totals_loaded a.state.now a.out.now a.at (loaded a.state.now (sym c.load.ensures ∙ c.in_ok-load.was))
