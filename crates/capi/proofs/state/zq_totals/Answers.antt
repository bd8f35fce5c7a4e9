-- `capi::state::zq_totals` meets its contract.
use Rattle.capi.proofs.Telling.{totals-replied}
use Rattle.capi.proofs.state.zq_totals.Goals as goal

pub returns : goal.returns
returns c = totals-replied _ _ _ _ c.settle.ensures c.write_totals_of.ensures
