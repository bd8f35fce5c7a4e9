-- `verdicts::share::is_heavy` meets its contract.
use mathlib.Core.Path.{refl}
use Rattle.rules.specs.Verdicts.{heavy_at}
use Rattle.verdicts.proofs.share.is_heavy.Goals as goal

pub returns : goal.returns
unfolding heavy_at
returns c = rw (c.times.ensures, c.times-2.ensures) refl
