-- `capi::verdict::zq_verdict` meets its contract.
use Rattle.capi.proofs.Judging.{verdict-replied}
use Rattle.capi.proofs.verdict.zq_verdict.Goals as goal

pub returns : goal.returns
returns c = verdict-replied _ _ _ c.settle.ensures _ c.judge.ensures
