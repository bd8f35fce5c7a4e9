-- One slot: who runs. And a stretch of slots in which a light task is pending.
use Prim.Native.Nat.{ℕ, zero, suc, ◌+◌, ◌*◌, ◌≤◌, ◌<◌, min}
use mathlib.Core.Path.{◌≡◌}
use native.Mathlib.Nat.{add-zero, add-suc, le_refl, le_step, le_of_suc-le}
use native.Mathlib.Decide.{dec_lt}
use native.Mathlib.Omega.{arith}
use Rattle.rules.specs.Counts.{sum_before}
use Rattle.bound.proofs.SumBefore.{sum_bits, sum-suc, sum-add, sum_split}
use Rattle.bound.specs.Setting.{Tasks, Schedule, tasks, light_at, pending, work, light_work}

module _ {x : Tasks} (c : Schedule x) where
  -- of the first k tasks as many run as are pending, or as there are cores
  runs-first : (k s : ℕ) → k ≤ tasks x
      → sum_before k (λ i. c.runs i s) ≡ min x.cores (sum_before k (λ i. pending (c.ready i s)))
  unfolding sum_before
  runs-first zero s h = omega arith
  runs-first (suc k) s h = omega (arith, runs-first k s (le_of_suc-le h), c.chosen k s h)

  -- a task among the first, no more than there are cores, runs whenever it is pending
  pub first_runs : (k s : ℕ) → k < tasks x → k < x.cores → c.runs k s ≡ pending (c.ready k s)
  first_runs k s h l =
      omega (arith, c.chosen k s h, sum_bits k (λ i. pending (c.ready i s)) (λ i b. omega arith))

  -- what a slot adds to the work of the light tasks
  light_tick : (j t : ℕ) → light_work c j (suc t) ≡ light_work c j t + sum_before j (λ i. c.runs (light_at x i) t)
  unfolding sum_before
  light_tick j t = sum-add j (λ i. work c (light_at x i) t) (λ i. c.runs (light_at x i) t)

  module _ (a : ℕ) (spare : x.cores ≡ x.heavies + a) (j : ℕ) (h : j < x.lights) where
    -- where a light task is pending it runs, or the light tasks before it fill the cores that heavy tasks leave over
    slot_full : (s : ℕ) → 0 < c.ready (light_at x j) s
        → a ≤ sum_before j (λ i. c.runs (light_at x i) s) + a * c.runs (light_at x j) s
    slot_full s p =
        elim (dec_lt (sum_before (light_at x j) (λ i. pending (c.ready i s))) x.cores) [
          | yes l ↦
              let one : c.runs (light_at x j) s ≡ 1 = omega (arith, c.chosen (light_at x j) s (omega arith)) in
              rw one (omega arith)
          | no l ↦ omega (
            arith,
            runs-first (light_at x j) s (omega arith),
            sum_split x.heavies j (λ i. c.runs i s),
            sum_bits x.heavies (λ i. c.runs i s) (λ i b. omega (arith, c.chosen i s (omega arith))),
          )
        ]

    -- the work of a stretch of e slots from r on in which a light task is pending
    pub stretch_full : (r e : ℕ) → ((i : ℕ) → i < e → 0 < c.ready (light_at x j) (r + i))
        → a * e + light_work c j r + a * work c (light_at x j) r ≤ light_work c j (r + e) + a * work c (light_at x j) (r + e)
    stretch_full r zero p = rw (add-zero r) (omega arith)
    stretch_full r (suc e) p =
        rw (add-suc r e, light_tick j (r + e), sum-suc (r + e) (c.runs (light_at x j)))
        (omega (arith, stretch_full r e (λ i l. p i (le_step l)), slot_full (r + e) (p e (le_refl (suc e)))))
