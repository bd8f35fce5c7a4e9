-- The theorem over tasks by rank: no job misses its deadline, and the first light tasks keep up with their shares.
use Prim.Native.Nat.{ℕ, zero, suc, ◌+◌, ◌-◌, ◌*◌, ◌/◌, ◌%◌, ◌≤◌, ◌<◌}
use mathlib.Core.Path.{◌≡◌}
use mathlib.Core.Logic.{⊎_elim}
use native.Mathlib.Nat.{suc-mul, le_refl, le_of_suc-le, le_trans, le-add_right, not-suc-le-zero, mul-le-mul_right, div-add-mod', mod-lt, le-suc_iff, suc_inj}
use native.Mathlib.Decide.{dec_lt}
use native.Mathlib.Omega.{arith}
use Rattle.bound.proofs.SumBefore.{sum-suc, sum_scale, sum-le, sum_gain, sum_shorter, sum_smaller}
use Rattle.bound.specs.Setting.{Jobs, Tasks, Schedule, Conditions, tasks, light_at, work, light_work, light_share}
use Rattle.bound.proofs.Numbers.{no_short_job, no_lag, given_is_ahead, lag_later, jobs_in_shares, all_in_shares}
use Rattle.bound.proofs.Bookkeeping.{job_most, jobs-most, job_pending, jobs_met}
use Rattle.bound.proofs.OneSlot.{stretch_full}
use Rattle.bound.proofs.Heavies.{Met, heavy_met}

-- at boundary t the first light tasks, however many, were given no less than their shares
abbrev pub Ahead : {x : Tasks} → Schedule x → ℕ → Type 0
Ahead {x} c t = (j : ℕ) → j ≤ x.lights → t * light_share x j ≤ x.repeat * light_work c j t

module _ {x : Tasks} (c : Schedule x) {b g : ℕ} (w : Conditions x b g) where
  -- ---- no miss at a deadline, where the light tasks are ahead at the boundaries before it

  -- an earlier light task has been given little more than its share at a deadline of light task j
  late : (i j a : ℕ) → i < j → j < x.lights
      → x.repeat * work c (light_at x i) (a * x.period (light_at x j)) ≤ (a + g) * x.period (light_at x j) * x.share (light_at x i)
  late i j a h l =
      let k : ℕ = light_at x i in
      let k' : k < tasks x = omega arith in
      let next : (n : ℕ) × (a * x.period (light_at x j) ≤ n * x.period k) × (n * x.period k ≤ (a + g) * x.period (light_at x j)) =
      w.soon i j a h l
      in
      jobs_in_shares x.repeat (x.share k) (x.period k) (x.demand k) next.0 ((a + g) * x.period (light_at x j))
      (work c k (a * x.period (light_at x j)))
      (x.even k k')
      (le_trans (sum_shorter (next.0 * x.period k) (c.runs k) (a * x.period (light_at x j)) next.1) (jobs-most (c.jobs k k') next.0))
      next.2

  light_late : (j a : ℕ) → j < x.lights
      → x.repeat * light_work c j (a * x.period (light_at x j)) ≤ (a + g) * x.period (light_at x j) * light_share x j
  light_late j a l =
      let t : ℕ = a * x.period (light_at x j) in
      let d : ℕ = (a + g) * x.period (light_at x j) in
      rw (← sum_scale j x.repeat (λ i. work c (light_at x i) t), ← sum_scale j d (λ i. x.share (light_at x i)))
      (sum-le j (λ i. x.repeat * work c (light_at x i) t) (λ i. d * x.share (light_at x i)) (λ i h. late i j a h l))

  light_met : (j a : ℕ) → j < x.lights → ((t : ℕ) → t < suc a * x.period (light_at x j) → Ahead c t) → Met c (light_at x j) a
  light_met j a h past =
      let k : ℕ = light_at x j in
      let k' : k < tasks x = omega arith in
      let T : ℕ = x.period k in
      let r : ℕ = a * T in
      let j' : j ≤ x.lights = omega arith in
      rw (suc-mul a T) (
      elim (dec_lt (work c k (r + T)) (x.demand k + work c k r)) [
        | yes short ↦ absurd (
            no_short_job b x.repeat r (x.share k) (work c k r) (work c k (r + T)) g T (x.demand k) (light_share x j)
            (light_share x x.lights) (light_work c j r) (light_work c j (r + T))
            x.lasting
            (stretch_full c (suc b) w.spare j h r T (job_pending (c.jobs k k') a T (le_refl T) short))
            short
            (past r (rw (suc-mul a T) (omega (arith, x.timed k k'))) j j')
            (omega (arith, rw (suc-mul a T) at (light_late j (suc a) h)))
            (x.even k k')
            (omega (arith, sum_shorter x.lights (λ i. x.share (light_at x i)) (suc j) h, sum-suc j (λ i. x.share (light_at x i))))
            (w.others j h)
            )
        | no l ↦ omega (arith, job_most (c.jobs k k') a T (le_refl T))
      ]
      )

  met : (k a : ℕ) → k < tasks x → ((t : ℕ) → t < suc a * x.period k → Ahead c t) → Met c k a
  met k a h past =
      elim (dec_lt k x.heavies) [
        | yes l ↦ heavy_met c w k a l
        | no l ↦
            let e : x.heavies + (k - x.heavies) ≡ k = omega arith in
            rw e at (light_met (k - x.heavies) a (omega arith) (rw e past))
      ]

  -- ---- ahead at a boundary, where the light tasks are ahead at the boundaries before it

  module _ (n j a e : ℕ) (h : j < n) (l : n ≤ x.lights) (f : e < x.period (light_at x j)) where
    -- light task j in its job a, e slots after its release, is not behind its share where the first n are behind theirs
    no_lagger : ((t : ℕ) → t < a * x.period (light_at x j) + e → Ahead c t)
        → x.repeat * work c (light_at x j) (a * x.period (light_at x j) + e) < (a * x.period (light_at x j) + e) * x.share (light_at x j)
        → x.repeat * light_work c n (a * x.period (light_at x j) + e) < (a * x.period (light_at x j) + e) * light_share x n
        → ⊥
    no_lagger past lag behind =
        let k : ℕ = light_at x j in
        let k' : k < tasks x = omega arith in
        let T : ℕ = x.period k in
        let r : ℕ = a * T in
        let jobs : Jobs T (x.demand k) (c.ready k) (c.runs k) = c.jobs k k' in
        let done : x.repeat * work c k r ≡ r * x.share k =
        all_in_shares x.repeat (x.share k) T (x.demand k) a (work c k r) (x.even k k')
        (jobs_met jobs a (λ i b. met k i k' (λ t d. past t (le_trans d (le_trans (mul-le-mul_right T b) (le-add_right r e))))))
        in
        let short : work c k (r + e) < x.demand k + work c k r =
        given_is_ahead x.repeat r (x.share k) T (x.demand k) e (work c k r) (work c k (r + e)) f (x.even k k') done lag
        in
        let stretch : suc b * e + light_work c j r + suc b * work c k r ≤ light_work c j (r + e) + suc b * work c k (r + e) =
        stretch_full c (suc b) w.spare j (le_trans h l) r e (job_pending jobs a e (le_of_suc-le f) short)
        in
        let gain : light_work c n r + light_work c (suc j) (r + e) ≤ light_work c n (r + e) + light_work c (suc j) r =
        sum_gain n (λ i. work c (light_at x i) r) (λ i. work c (light_at x i) (r + e))
        (λ i. sum_shorter (r + e) (c.runs (light_at x i)) r (le-add_right r e))
        (suc j) h
        in
        no_lag b x.repeat r (x.share k) (work c k r) (work c k (r + e)) e (light_share x n) (light_share x x.lights)
        (light_work c n r) (light_work c n (r + e))
        (omega (arith, sum-suc j (λ i. work c (light_at x i) r), sum-suc j (λ i. work c (light_at x i) (r + e))))
        (past r (lag_later x.repeat (x.share k) (work c k) r e done lag) n l)
        behind
        done
        lag
        (sum_shorter x.lights (λ i. x.share (light_at x i)) n l)
        (w.whole j (le_trans h l))

  ahead_next : (t : ℕ) → ((t' : ℕ) → t' < t → Ahead c t') → Ahead c t
  ahead_next t past n h =
      elim (dec_lt (x.repeat * light_work c n t) (t * light_share x n)) [
        | yes behind ↦ absurd (
            let one : (j : ℕ) × (j < n) × (x.repeat * work c (light_at x j) t < t * x.share (light_at x j)) =
            sum_smaller n (λ j. x.repeat * work c (light_at x j) t) (λ j. t * x.share (light_at x j))
            (rw (sum_scale n x.repeat (λ j. work c (light_at x j) t), sum_scale n t (λ j. x.share (light_at x j))) behind)
            in
            let T : ℕ = x.period (light_at x one.0) in
            (rw (div-add-mod' t T) at (no_lagger n one.0 (t / T) (t % T) one.1 h (mod-lt t (x.timed (light_at x one.0) (omega arith)))))
            past one.2 behind
            )
        | no l ↦ omega arith
      ]

  ahead_before : (t t' : ℕ) → t' < t → Ahead c t'
  ahead_before zero t' h = absurd (not-suc-le-zero h)
  ahead_before (suc t) t' h =
      ⊎_elim (λ l. ahead_before t t' l) (λ (e : suc t' ≡ suc t). rw (suc_inj e) (ahead_next t (ahead_before t))) (le-suc_iff.0 h)

  -- the first light tasks, however many, are always ahead of their shares
  pub always_ahead : (t : ℕ) → Ahead c t
  always_ahead t = ahead_next t (ahead_before t)

  -- no job misses its deadline
  pub never_misses : (k a : ℕ) → k < tasks x → Met c k a
  never_misses k a h = met k a h (λ t l. always_ahead t)
