-- What the comparison with the limit asks.
use Rattle.std.specs.Prelude.{ℕ, ◌*◌, ◌≤◌}
use Rattle.rules.specs.Limits.{cores_min, cores_max, tasks_max, repeat_max}
use Rattle.reading_laws.specs.Bounds.{Within}

-- m, H and the scaled sum are small enough for no product of them to wrap
pub record Weighed (m h sum : ℕ) : Type 0 where
  pub cores : Within cores_min cores_max m
  pub bounded : h ≤ repeat_max
  pub few : sum ≤ tasks_max * repeat_max
