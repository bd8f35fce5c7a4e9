-- From admission to the conditions of the argument. The fraction p/q tells heavy tasks from light ones.
use Prim.Native.Nat.{ℕ, zero, suc, ◌+◌, ◌-◌, ◌*◌, ◌/◌, ◌≤◌, ◌<◌}
use mathlib.Core.Path.{◌≡◌, ap}
use native.Mathlib.Nat.{mul-le-mul_left, mul-le-mul_right, le_of_mul-le-mul_left, div-mul-le_self, lt-div-mul-add}
use native.Mathlib.Decide.{dec_lt}
use native.Mathlib.Omega.{arith}
use Rattle.rules.specs.Counts.{sum_before}
use Rattle.bound.proofs.SumBefore.{sum_above, sum_split}
use Rattle.bound.specs.Setting.{Tasks, Conditions, tasks, light_at, light_share}

-- the heavy tasks have shares above the fraction p/q, the light ones not, and all together no more than one of it a core
pub record Admitted (x : Tasks) (p q : ℕ) : Type 0 where
  pub heavy : (k : ℕ) → k < x.heavies → p * x.repeat < q * x.share k
  pub light : (j : ℕ) → j < x.lights → q * x.share (light_at x j) ≤ p * x.repeat
  pub total : q * sum_before (tasks x) x.share ≤ x.cores * (p * x.repeat)

module _ {x : Tasks} {p q : ℕ} (w : Admitted x p q) where
  -- the light tasks' part of the sum
  lights-left : q * light_share x x.lights + x.heavies * suc (p * x.repeat) ≤ x.cores * (p * x.repeat)
  lights-left =
      let split : q * sum_before (tasks x) x.share ≡ q * (sum_before x.heavies x.share + light_share x x.lights) =
      ap (λ (z : ℕ). q * z) (sum_split x.heavies x.lights x.share)
      in
      omega (arith, sum_above x.heavies q (p * x.repeat) x.share w.heavy, w.total)

  -- heavy tasks leave a core over
  heavies_fewer : 0 < x.cores → x.heavies < x.cores
  heavies_fewer pos =
      elim (dec_lt x.heavies x.cores) [
        | yes l ↦ l
        | no l ↦ absurd (omega (arith, lights-left, mul-le-mul_right {m = x.cores} {n = x.heavies} (p * x.repeat) (omega arith)))
      ]

  -- the light tasks have a share of the cores that are left over
  lights-most : (b : ℕ) → x.cores ≡ x.heavies + suc b → q * light_share x x.lights ≤ suc b * (p * x.repeat)
  lights-most b spare = omega (arith, lights-left, ap (λ (z : ℕ). z * (p * x.repeat)) spare)

-- ---- conditions A and B in numbers

condition_a : (b p q S u H : ℕ) → 0 < q → q * S ≤ suc b * (p * H) → q * u ≤ p * H → (b + suc b) * p ≤ suc b * q → S + b * u ≤ suc b * H
condition_a b p q S u H some most light fraction =
    let light' : b * (q * u) ≤ b * (p * H) = mul-le-mul_left b light in
    let fraction' : H * ((b + suc b) * p) ≤ H * (suc b * q) = mul-le-mul_left H fraction in
    le_of_mul-le-mul_left {k = q} (omega arith) some

-- the fraction m/(3m-2) meets the need of A
fraction_a : (b p q : ℕ) → 2 ≤ p → q + 2 ≡ 3 * p → suc b ≤ p → (b + suc b) * p ≤ suc b * q
fraction_a b p q two fraction few =
    let fraction' : b * (q + 2) ≡ b * (3 * p) = ap (λ (z : ℕ). b * z) fraction in
    let two' : b * 2 ≤ b * p = mul-le-mul_left b two in
    omega arith

-- B with f = 2, for the fraction m/(3m-2)
condition_b : (b p q S u H : ℕ) → 2 ≤ p → q + 2 ≡ 3 * p → suc b ≤ p → q * S ≤ suc b * (p * H) → q * u ≤ p * H
    → 2 * S + suc b * u ≤ suc b * H + 2 * u
condition_b zero p q S u H two fraction few most light =
    let small : H * (2 * p) ≤ H * q = mul-le-mul_left H (omega arith) in
    let half : 2 * S ≤ H = le_of_mul-le-mul_left {k = q} (omega arith) (omega arith) in
    omega arith
condition_b (suc c) p q S u H two fraction few most light =
    let light' : c * (q * u) ≤ c * (p * H) = mul-le-mul_left c light in
    let fraction' : (c + 2) * (q + 2) ≡ (c + 2) * (3 * p) = ap (λ (z : ℕ). (c + 2) * z) fraction in
    let small : H * ((3 * c + 4) * p) ≤ H * ((c + 2) * q) = mul-le-mul_left H (omega arith) in
    let rest : 2 * S + c * u ≤ (c + 2) * H = le_of_mul-le-mul_left {k = q} (omega arith) (omega arith) in
    omega arith

-- ---- the conditions

-- the next release of a task, at or after boundary d, comes within its period
next-release : (d T T' : ℕ) → 0 < T → T ≤ T' → (n : ℕ) × (d ≤ n * T) × (n * T ≤ d + T')
next-release d T T' some l =
    (suc (d / T), omega (arith, lt-div-mul-add {a = d} some), omega (arith, div-mul-le_self d T))

-- an admitted table, with the fraction m/(3m-2) and its light tasks by smaller period, meets the conditions with f = 2
pub general_conditions : {x : Tasks} (q : ℕ)
    → 2 ≤ x.cores
    → q + 2 ≡ 3 * x.cores
    → Admitted x x.cores q
    → ((i j : ℕ) → i < j → j < x.lights → x.period (light_at x i) ≤ x.period (light_at x j))
    → Conditions x (x.cores - suc x.heavies) 1
general_conditions {x} q two fraction w sorted =
    let b : ℕ = x.cores - suc x.heavies in
    let m : ℕ = x.cores in
    let S : ℕ = light_share x x.lights in
    let fewer : x.heavies < m = heavies_fewer w (omega arith) in
    let spare : m ≡ x.heavies + suc b = omega arith in
    let most : q * S ≤ suc b * (m * x.repeat) = lights-most w b spare in
    record {
      spare = spare;
      whole =
          λ j l.
          condition_a b m q S (x.share (light_at x j)) x.repeat (omega arith) most (w.light j l)
          (fraction_a b m q two fraction (omega arith));
      others = λ j l. condition_b b m q S (x.share (light_at x j)) x.repeat two fraction (omega arith) most (w.light j l);
      soon =
          λ i j a l h.
          let d : ℕ = a * x.period (light_at x j) in
          let r : (n : ℕ) × (d ≤ n * x.period (light_at x i)) × (n * x.period (light_at x i) ≤ d + x.period (light_at x j)) =
          next-release d (x.period (light_at x i)) (x.period (light_at x j)) (x.timed (light_at x i) (omega arith)) (sorted i j l h)
          in
          (r.0, r.1, omega arith);
    }
