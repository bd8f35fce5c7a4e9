-- Products that fit their type.
use Prim.Native.Nat.{ℕ, ◌-◌, ◌*◌, ◌^◌, ◌≤◌, ◌<◌}
use native.Mathlib.Nat.{mul-le-mul}
use native.Mathlib.Omega.{arith}
use Rattle.rules.specs.Verdicts.{fraction}
use Rattle.verdicts.specs.Limit.{Weighed}

-- both sides of the test for admission are small
module _ (m h s : ℕ) (weighed : Weighed m h s) where
  pub load_fits : (fraction m).den * s < 2 ^ 64
  unfolding fraction
  load_fits =
      let den : 3 * m - 2 ≤ 94 = omega (arith, weighed.cores.most) in
      omega (arith, mul-le-mul den weighed.few)

  pub limit_fits : m * (fraction m).num * h < 2 ^ 64
  unfolding fraction
  limit_fits =
      omega (arith, mul-le-mul (mul-le-mul weighed.cores.most weighed.cores.most) weighed.bounded)
