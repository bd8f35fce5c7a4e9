-- The least number from s on that passes a test.
use Prim.Native.Nat.{ℕ, zero, suc, ◌+◌, ◌≤◌, ◌<◌}
use mathlib.Core.Path.{◌≡◌}
use mathlib.Core.Bool.{Bool, true, false}
use mathlib.Core.Logic.{⊎_elim}
use native.Mathlib.Nat.{le_refl, le_of_lt, eq-or-lt_of_le}
use native.Mathlib.Omega.{arith}
use Rattle.laws.specs.Lists.{least}
use Rattle.laws.proofs.Tests.{decide}

module _ (p : ℕ → Bool) where
  -- it is s or more
  pub least-low : (s k : ℕ) → s ≤ least s k p
  least-low s zero = le_refl s
  least-low s (suc k) =
      ⊎_elim (λ e. rw e (le_refl s)) (λ e. rw e (le_of_lt (least-low (suc s) k))) (decide (p s))

  -- no number from s on below it passes
  pub least_first : (s k j : ℕ) → s ≤ j → j < least s k p → p j ≡ false
  least_first s zero j low high = absurd (omega arith)
  least_first s (suc k) j low high =
      ⊎_elim (λ e. absurd (omega (arith, rw e at high)))
      (λ e. ⊎_elim (λ q. rw (← q) e) (λ l. least_first (suc s) k j l (rw e at high)) (eq-or-lt_of_le low))
      (decide (p s))

  -- it passes, if one of the k numbers from s on does
  pub least-passes : (s k j : ℕ) → s ≤ j → j < s + k → p j ≡ true → p (least s k p) ≡ true
  least-passes s zero j low high t = absurd (omega arith)
  least-passes s (suc k) j low high t =
      ⊎_elim (λ e. rw e e)
      (λ e. rw e (⊎_elim (λ q. cc) (λ l. least-passes (suc s) k j l (omega arith) t) (eq-or-lt_of_le low)))
      (decide (p s))
