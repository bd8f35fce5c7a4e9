-- `verdicts::limit::share` meets its contract.
use mathlib.Core.Path.{refl}
use Rattle.rules.specs.Verdicts.{share}
use Rattle.verdicts.proofs.limit.share.Goals as goal

pub returns : goal.returns
unfolding share
returns c = rw c.times.ensures refl
