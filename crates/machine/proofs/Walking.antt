-- What the library says of a walk along a range, and of two slices side by side, in the words of the rules.
use Prim.Native.Nat.{ℕ, zero, suc, ◌+◌}
use mathlib.Core.Path.{◌≡◌, refl, ap, ◌∙◌}
use mathlib.Core.Bool.{Bool, ◌&&◌}
use mathlib.Core.List.{List, [], ◌∷◌, map}
use native.Mathlib.Numerals.{add-one}
use native.Mathlib.Omega.{arith}
use Rattle.std.specs.List.{list_all, range_with_len, fold, sum as std_sum}
use Rattle.std.specs.Cmp.Lexicographic.{pointwise}
use Rattle.std.specs.Prelude.{nat_eq}
use Rattle.laws.specs.Lists.{all, from, same, sum}

module _ (p : ℕ → Bool) where
  pub all_from : (s k : ℕ) → list_all p (range_with_len s k) ≡ all p (from s k)
  all_from s zero = refl
  all_from s (suc k) = ap (λ (b : Bool). p s && b) (all_from (s + 1) k ∙ ap (λ (x : ℕ). all p (from x k)) (add-one s))

  -- counted from 0 and asked of the next number
  pub all_next : (s k : ℕ) → list_all (λ i. p (i + 1)) (range_with_len s k) ≡ all p (from (s + 1) k)
  all_next s zero = refl
  all_next s (suc k) = ap (λ (b : Bool). p (s + 1) && b) (all_next (s + 1) k ∙ ap (λ (x : ℕ). all p (from x k)) (add-one (s + 1)))

module _ {A : Type 0} (number : A → ℕ) where
  pub same_by : (a b : List A) → pointwise (λ x y. nat_eq (number x) (number y)) a b ≡ same (map number a) (map number b)
  same_by [] [] = refl
  same_by [] (y ∷ ys) = refl
  same_by (x ∷ xs) [] = refl
  same_by (x ∷ xs) (y ∷ ys) = ap (λ (b : Bool). nat_eq (number x) (number y) && b) (same_by xs ys)

-- the sum of a list
pub sum_of : (l : List ℕ) → std_sum l ≡ sum l
sum_of l = started 0 l ∙ omega arith
  where
    started : (a : ℕ) (l : List ℕ) → fold (λ s x. s + x) a l ≡ a + sum l
    started a [] = omega arith
    started a (x ∷ l) = started (a + x) l ∙ omega arith
