-- `verdicts::limit::is_admitted` meets its contract: neither product wraps, and they are compared as the definition does.
use mathlib.Core.Path.{refl}
use Rattle.verdicts.proofs.Products.{load_fits, limit_fits}
use Rattle.verdicts.proofs.limit.is_admitted.Goals as goal

pub overflow_mul-result : goal.overflow_mul-result
overflow_mul-result c = record { fits = rw (c.from.ensures, c.of-f.ensures) (load_fits _ _ _ c.requires) }

pub overflow_mul-result-2 : goal.overflow_mul-result-2
overflow_mul-result-2 c =
    record { fits = rw (c.from-2.ensures, c.times.ensures, c.of-f.ensures) (limit_fits _ _ _ c.requires) }

pub returns : goal.returns
returns c = rw (c.from.ensures, c.from-2.ensures, c.times.ensures, c.of-f.ensures) refl
