-- The books of one task: what its jobs were given.
use Prim.Native.Nat.{ℕ, zero, suc, ◌+◌, ◌*◌, ◌≤◌, ◌<◌, zero-le, min}
use mathlib.Core.Path.{◌≡◌, sym}
use native.Mathlib.Nat.{add-zero, add-suc, zero-mul, suc-mul, le_refl, le_step, le_of_suc-le}
use native.Mathlib.Omega.{arith}
use Rattle.rules.specs.Counts.{sum_before}
use Rattle.bound.proofs.SumBefore.{sum-none, sum-suc, sum_shorter}
use Rattle.bound.specs.Setting.{Jobs, pending}

module _ {T C : ℕ} {ready runs : ℕ → ℕ} (j : Jobs T C ready runs) where
  -- in a job's slots, its left work and what it was given since its release make up its demand
  pub job_books : (a e : ℕ) → e < T → ready (a * T + e) + sum_before (a * T + e) runs ≡ C + sum_before (a * T) runs
  job_books a zero h = rw (add-zero (a * T), j.released a)
  job_books a (suc e) h =
      rw (j.kept a e h, add-suc (a * T) e, sum-suc (a * T + e) runs)
      (omega (arith, job_books a e (le_of_suc-le h), j.modest (a * T + e)))

  -- a job is given no more than its demand
  pub job_most : (a e : ℕ) → e ≤ T → sum_before (a * T + e) runs ≤ C + sum_before (a * T) runs
  job_most a zero h = rw (add-zero (a * T)) (omega arith)
  job_most a (suc e) h =
      rw (add-suc (a * T) e, sum-suc (a * T + e) runs) (omega (arith, job_books a e h, j.modest (a * T + e)))

  -- so a jobs are given no more than a times the demand
  pub jobs-most : (a : ℕ) → sum_before (a * T) runs ≤ a * C
  jobs-most zero = rw (zero-mul T, sum-none runs) zero-le
  jobs-most (suc a) = rw (suc-mul a T) (omega (arith, job_most a T (le_refl T), jobs-most a))

  -- a job that has not been given its demand by a × T + e is pending in each of its slots until then
  pub job_pending : (a e : ℕ) → e ≤ T → sum_before (a * T + e) runs < C + sum_before (a * T) runs → (i : ℕ) → i < e
      → 0 < ready (a * T + i)
  job_pending a e h l i k =
      omega (arith, job_books a i (omega arith), sum_shorter (a * T + e) runs (a * T + i) (omega arith))

  -- where each of the first a jobs was given its demand, they were given a times the demand
  pub jobs_met : (a : ℕ) → ((i : ℕ) → i < a → sum_before (suc i * T) runs ≡ C + sum_before (i * T) runs) → sum_before (a * T) runs ≡ a * C
  jobs_met zero met = rw (zero-mul T, sum-none runs) (sym (zero-mul C))
  jobs_met (suc a) met = omega (arith, met a (le_refl (suc a)), jobs_met a (λ i l. met i (le_step l)))

  -- a task that runs whenever it is pending is given a unit in each slot until its demand is met
  pub job_runs : ((s : ℕ) → runs s ≡ pending (ready s)) → (a e : ℕ) → e ≤ T
      → sum_before (a * T + e) runs ≡ min C e + sum_before (a * T) runs
  job_runs r a zero h = rw (add-zero (a * T)) (omega arith)
  job_runs r a (suc e) h =
      rw (add-suc (a * T) e, sum-suc (a * T + e) runs)
      (omega (arith, job_books a e h, job_runs r a e (le_of_suc-le h), r (a * T + e)))
