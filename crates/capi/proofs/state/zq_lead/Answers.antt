-- `capi::state::zq_lead` meets its contract.
use Rattle.std.proofs.Common.{ap, ◌∙◌}
use Rattle.capi.specs.Calls.{give_lead}
use Rattle.capi.specs.Answers.{numbered}
use Rattle.capi.proofs.Telling.{plain-replied}
use Rattle.capi.proofs.state.zq_lead.Goals as goal

pub returns : goal.returns
returns c =
    c.settle.ensures ∙ ap (numbered c.args.lead.now) c.lead_of.ensures ∙ plain-replied c.args.lead.now (give_lead c.args.state.now c.args.task)
