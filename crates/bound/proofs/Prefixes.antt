-- Sums and counts over the first elements of a list, as sums over their places from 0.
use Prim.Native.Nat.{ℕ, zero, suc, ◌≤◌}
use mathlib.Core.Path.{◌≡◌, refl, ◌∙◌}
use mathlib.Core.Bool.{Bool, cond}
use mathlib.Core.List.{List, [], ◌∷◌, map}
use native.Mathlib.Nat.{le_of_suc-le}
use native.Mathlib.Omega.{arith}
use lib.ListN.{length, take, get_or}
use lib.Seq.{take-suc}
use Rattle.laws.specs.Lists.{sum, count}
use Rattle.laws.proofs.Filters.{count_as_sum, sum-map-append}
use Rattle.rules.specs.Counts.{sum_before}

module _ (l : List ℕ) where
  -- a sum over the first k elements
  pub sum_of_first : (f : ℕ → ℕ) (k : ℕ) → k ≤ length l → sum (map f (take k l)) ≡ sum_before k (λ j. f (get_or l j 0))
  unfolding sum_before
  sum_of_first f zero h = refl
  sum_of_first f (suc k) h =
      rw (take-suc l k 0 h, sum-map-append f (take k l) (get_or l k 0 ∷ [])) (omega (arith, sum_of_first f k (le_of_suc-le h)))

  -- a count over the first k elements
  pub count_of_first : (p : ℕ → Bool) (k : ℕ) → k ≤ length l → count p (take k l) ≡ sum_before k (λ j. cond (p (get_or l j 0)) 1 0)
  count_of_first p k h = count_as_sum p (take k l) ∙ sum_of_first (λ i. cond (p i) 1 0) k h
