-- `capi::state::zq_run` meets its contract.
use Rattle.std.proofs.Common.{◌∙◌}
use Rattle.capi.proofs.Running.{ran-replied}
use Rattle.capi.proofs.state.zq_run.Goals as goal

pub returns : goal.returns
returns c = ran-replied c.run_over.result c.args.size.now c.settle.ensures ∙ c.run_over.ensures c.args.size.now
