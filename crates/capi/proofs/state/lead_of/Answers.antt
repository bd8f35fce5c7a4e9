-- `capi::state::lead_of` meets its contract.
use Rattle.std.proofs.Common.{sym, ◌∙◌}
use Rattle.rules.proofs.Results.{passed_on}
use Rattle.capi.proofs.Loading.{loaded}
use Rattle.capi.proofs.Telling.{lead_loaded, lead_missing}
use Rattle.capi.proofs.state.lead_of.Goals as goal

pub returns-in_err-load : goal.returns-in_err-load
returns-in_err-load c =
    passed_on _ c.from_residual.ensures.1 ∙ lead_missing c.args.state.now c.args.task (sym c.load.ensures ∙ c.in_err-load.was)

pub returns : goal.returns
returns c = c.lead.ensures ∙ lead_loaded c.args.state.now c.args.task (loaded c.args.state.now (sym c.load.ensures ∙ c.in_ok-load.was))
