-- The heavy tasks have the first ranks, no more of them than there are cores: each runs whenever it is pending, so it meets
-- every deadline. A file of its own, so that the edit that turns this statement round is refused for it alone.
use Prim.Native.Nat.{ℕ, suc, ◌+◌, ◌*◌, ◌<◌}
use mathlib.Core.Path.{◌≡◌}
use native.Mathlib.Nat.{suc-mul, le_refl}
use native.Mathlib.Omega.{arith}
use Rattle.bound.specs.Setting.{Tasks, Schedule, Conditions, tasks, work}
use Rattle.bound.proofs.Bookkeeping.{job_runs}
use Rattle.bound.proofs.OneSlot.{first_runs}

-- the job a of the task of rank k was given its demand by its deadline
abbrev pub Met : {x : Tasks} → Schedule x → ℕ → ℕ → Type 0
Met {x} c k a = work c k (suc a * x.period k) ≡ x.demand k + work c k (a * x.period k)

module _ {x : Tasks} (c : Schedule x) {b g : ℕ} (w : Conditions x b g) where
  pub heavy_met : (k a : ℕ) → k < x.heavies → Met c k a
  heavy_met k a h =
      let k' : k < tasks x = omega arith in
      rw (suc-mul a (x.period k))
      (omega (
        arith,
        job_runs (c.jobs k k') (λ s. first_runs c k s k' (omega (arith, w.spare))) a (x.period k) (le_refl (x.period k)),
        x.fitting k k',
      ))
