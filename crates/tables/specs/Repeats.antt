-- What is asked on the way to the repeat length.
use Rattle.std.specs.Prelude.{ℕ, ◌≤◌, ◌<◌}
use Rattle.std.specs.Int.{◌∣◌}
use Rattle.rules.specs.Limits.{repeat_max}
use Rattle.rules.specs.declared.kinds.Repeat.{Repeat}

-- the greatest common divisor: g divides both, and whatever divides both divides g
pub record Gcd (a b g : ℕ) : Type 0 where
  pub left : g ∣ a
  pub right : g ∣ b
  pub greatest : (d : ℕ) → d ∣ a → d ∣ b → d ∣ g

-- a value reached on the way, within the bound of H
pub record Reached (h : Repeat) : Type 0 where
  pub positive : 0 < h.0
  pub bounded : h.0 ≤ repeat_max
