-- The numbers of the argument, without tasks: H is a common multiple of the periods, u a task's share of H slots, W its
-- work; U, S are shares of several tasks and w their work.
use Prim.Native.Nat.{ℕ, zero, suc, ◌+◌, ◌*◌, ◌≤◌, ◌<◌}
use mathlib.Core.Path.{◌≡◌, ap}
use native.Mathlib.Nat.{add-zero, le_of_suc-le, mul-le-mul_left}
use native.Mathlib.Decide.{dec_lt}
use native.Mathlib.Omega.{arith}

module _ (b H r u Wr Wd : ℕ) where
  -- a job short of its demand at its deadline contradicts B
  pub no_short_job : (g T C U S wr wd : ℕ)
      → 0 < H
      → suc b * T + wr + suc b * Wr ≤ wd + suc b * Wd
      → Wd < C + Wr
      → r * U ≤ H * wr
      → H * wd ≤ (r + suc g * T) * U
      → u * T ≡ C * H
      → U + u ≤ S
      → suc g * S + suc b * u ≤ suc b * H + suc g * u
      → ⊥
  no_short_job g T C U S wr wd pos stretch short ahead late even part others =
      let short' : suc b * suc Wd ≤ suc b * (C + Wr) = mul-le-mul_left (suc b) short in
      let some : suc b * T + suc b + wr ≤ wd + suc b * C = omega arith in
      let some' : H * (suc b * T + suc b + wr) ≤ H * (wd + suc b * C) = mul-le-mul_left H some in
      let part' : suc g * (U + u) ≤ suc g * S = mul-le-mul_left (suc g) part in
      let room : suc g * U + suc b * u ≤ suc b * H = omega arith in
      let room' : T * (suc g * U + suc b * u) ≤ T * (suc b * H) = mul-le-mul_left T room in
      let even' : suc b * (u * T) ≡ suc b * (C * H) = ap (λ (z : ℕ). suc b * z) even in
      omega arith

  -- a light task behind its share at r + e, in a part of the light tasks that is behind its share, contradicts A
  pub no_lag : (e U S wr wd : ℕ)
      → suc b * e + wr + b * Wr ≤ wd + b * Wd
      → r * U ≤ H * wr
      → H * wd < (r + e) * U
      → H * Wr ≡ r * u
      → H * Wd < (r + e) * u
      → U ≤ S
      → S + b * u ≤ suc b * H
      → ⊥
  no_lag e U S wr wd stretch ahead behind even lag part whole =
      let stretch' : H * (suc b * e + wr + b * Wr) ≤ H * (wd + b * Wd) = mul-le-mul_left H stretch in
      let even' : b * (H * Wr) ≡ b * (r * u) = ap (λ (z : ℕ). b * z) even in
      let lag' : b * (H * Wd) ≤ b * ((r + e) * u) = mul-le-mul_left b (le_of_suc-le lag) in
      let room : U + b * u ≤ suc b * H = omega arith in
      let room' : e * (U + b * u) ≤ e * (suc b * H) = mul-le-mul_left e room in
      omega arith

-- a job that was given its demand since r is not behind its share before its deadline
pub given_is_ahead : (H r u T C e Wr Wt : ℕ) → e < T → u * T ≡ C * H → H * Wr ≡ r * u → H * Wt < (r + e) * u → Wt < C + Wr
given_is_ahead H r u T C e Wr Wt h even done lag =
    elim (dec_lt Wt (C + Wr)) [
      | yes l ↦ l
      | no l ↦ absurd (
          let given : H * (C + Wr) ≤ H * Wt = mul-le-mul_left H (omega arith) in
          let room : u * e ≤ u * T = mul-le-mul_left u (le_of_suc-le h) in
          omega arith
          )
    ]

-- a task that had its share at r and lags behind it at r + e does so later
pub lag_later : (H u : ℕ) (W : ℕ → ℕ) (r e : ℕ) → H * W r ≡ r * u → H * W (r + e) < (r + e) * u → r < r + e
lag_later H u W r zero done lag = absurd (omega (arith, rw (add-zero r) at lag))
lag_later H u W r (suc e) done lag = omega arith

-- the work of n jobs, in shares
pub jobs_in_shares : (H u T C n d W : ℕ) → u * T ≡ C * H → W ≤ n * C → n * T ≤ d → H * W ≤ d * u
jobs_in_shares H u T C n d W even most soon =
    let most' : H * W ≤ H * (n * C) = mul-le-mul_left H most in
    let even' : n * (u * T) ≡ n * (C * H) = ap (λ (z : ℕ). n * z) even in
    let soon' : u * (n * T) ≤ u * d = mul-le-mul_left u soon in
    omega arith

-- the same where all n jobs were given their demand
pub all_in_shares : (H u T C n W : ℕ) → u * T ≡ C * H → W ≡ n * C → H * W ≡ n * T * u
all_in_shares H u T C n W even all =
    let all' : H * W ≡ H * (n * C) = ap (λ (z : ℕ). H * z) all in
    let even' : n * (u * T) ≡ n * (C * H) = ap (λ (z : ℕ). n * z) even in
    omega arith
