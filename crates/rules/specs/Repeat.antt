-- The repeat length H: the least common multiple of all periods.
use Rattle.std.specs.Prelude.{ℕ, ◌*◌, List}
use Rattle.laws.specs.Lists.{least, foldl}
use Rattle.rules.specs.Rows.{Row, divides}

-- the least multiple of h, from h itself on, that t divides
unfoldable pub lcm : ℕ → ℕ → ℕ
lcm h t = h * least 1 t (λ k. divides t (h * k))

unfoldable pub repeat_length : List Row → ℕ
repeat_length rows = foldl (λ h r. lcm h r.t) 1 rows
