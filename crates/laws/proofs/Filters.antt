-- Sums, counts and lengths over the elements that pass a test and those that do not; a list as what stands at its positions.
use Prim.Native.Nat.{ℕ, zero, suc, ◌+◌, ◌<◌}
use mathlib.Core.Path.{◌≡◌, refl, ap, ◌∙◌}
use mathlib.Core.Bool.{Bool, true, false, cond, not}
use mathlib.Core.List.{List, [], ◌∷◌, ◌++◌, map}
use native.Mathlib.Omega.{arith}
use lib.ListN.{length, get_or, drop, drop_of_length-le}
use lib.Seq.{drop-cons}
use Rattle.laws.specs.Lists.{filter, count, sum, from}

cond_not : (b : Bool) → ◌≡◌ {A = ℕ} (cond b (cond (not b) 1 0) 0) 0
cond_not true = refl
cond_not false = refl

module _ {A : Type 0} where
  -- ---- counts and lengths are sums

  -- a count is the sum of a one for each element that passes
  pub count_as_sum : (p : A → Bool) (l : List A) → count p l ≡ sum (map (λ x. cond (p x) 1 0) l)
  count_as_sum p [] = refl
  count_as_sum p (x ∷ xs) = rw (count_as_sum p xs)

  -- a length is the sum of a one for each element
  pub length_as_sum : (l : List A) → length l ≡ sum (map (λ x. 1) l)
  length_as_sum [] = refl
  length_as_sum (x ∷ xs) = omega (arith, length_as_sum xs)

  -- ---- sums over two lists

  -- a sum over two lists put together is the sum over both
  pub sum-map-append : (f : A → ℕ) (xs ys : List A) → sum (map f (xs ++ ys)) ≡ sum (map f xs) + sum (map f ys)
  sum-map-append f [] ys = omega arith
  sum-map-append f (x ∷ xs) ys = omega (arith, sum-map-append f xs ys)

  one_side : (f : A → ℕ) (b : Bool) (x : A) (xs ys : List A) → sum (map f (cond b (x ∷ xs) xs)) + sum (map f (cond (not b) (x ∷ ys) ys)) ≡ f x + (sum (map f xs) + sum (map f ys))
  one_side f true x xs ys = omega arith
  one_side f false x xs ys = omega arith

  -- a sum over what passes a test and over what does not is the sum over all
  pub sum_both_sides : (f : A → ℕ) (p : A → Bool) (l : List A) → sum (map f (filter p l)) + sum (map f (filter (λ x. not (p x)) l)) ≡ sum (map f l)
  sum_both_sides f p [] = refl
  sum_both_sides f p (x ∷ xs) = one_side f (p x) x (filter p xs) (filter (λ y. not (p y)) xs) ∙ ap (λ (z : ℕ). f x + z) (sum_both_sides f p xs)

  -- ---- what passes a test, its length and its elements

  one_longer : (b : Bool) (x : A) (ys : List A) (k : ℕ) → length ys ≡ k → length (cond b (x ∷ ys) ys) ≡ cond b 1 0 + k
  one_longer true x ys k e = omega arith
  one_longer false x ys k e = omega arith

  -- as many elements pass as are counted
  pub length-filter : (p : A → Bool) (l : List A) → length (filter p l) ≡ count p l
  length-filter p [] = refl
  length-filter p (x ∷ xs) = one_longer (p x) x (filter p xs) (count p xs) (length-filter p xs)

  count_put : (q : A → Bool) (b : Bool) (x : A) (ys : List A) → count q (cond b (x ∷ ys) ys) ≡ cond b (cond (q x) 1 0) 0 + count q ys
  count_put q true x ys = refl
  count_put q false x ys = omega arith

  -- nothing that passes a test fails it
  pub count_not_filter : (p : A → Bool) (l : List A) → count (λ x. not (p x)) (filter p l) ≡ 0
  count_not_filter p [] = refl
  count_not_filter p (x ∷ xs) = omega (arith, count_put (λ y. not (p y)) (p x) x (filter p xs), cond_not (p x), count_not_filter p xs)

  keep_one : (b : Bool) (x : A) (ys zs : List A) (k : ℕ) → (k ≡ 0 → ys ≡ zs) → cond (not b) 1 0 + k ≡ 0 → cond b (x ∷ ys) ys ≡ x ∷ zs
  keep_one true x ys zs k h e = rw (h (omega arith))
  keep_one false x ys zs k h e = absurd (omega arith)

  -- where nothing fails a test, all is kept
  pub filter-all : (p : A → Bool) (l : List A) → count (λ x. not (p x)) l ≡ 0 → filter p l ≡ l
  filter-all p [] e = refl
  filter-all p (x ∷ xs) e = keep_one (p x) x (filter p xs) xs (count (λ y. not (p y)) xs) (filter-all p xs) e

  skip_one : (b : Bool) (x : A) (ys : List A) (k : ℕ) → (k ≡ 0 → ys ≡ []) → cond b 1 0 + k ≡ 0 → cond b (x ∷ ys) ys ≡ []
  skip_one true x ys k h e = absurd (omega arith)
  skip_one false x ys k h e = h (omega arith)

  -- where nothing passes a test, nothing is kept
  pub filter_none : (p : A → Bool) (l : List A) → count p l ≡ 0 → filter p l ≡ []
  filter_none p [] e = refl
  filter_none p (x ∷ xs) e = skip_one (p x) x (filter p xs) (count p xs) (filter_none p xs) e

  put_append : (b : Bool) (x : A) (us ys zs : List A) → us ≡ ys ++ zs → cond b (x ∷ us) us ≡ cond b (x ∷ ys) ys ++ zs
  put_append true x us ys zs e = rw e
  put_append false x us ys zs e = e

  -- what passes of two lists put together is what passes of both
  pub filter-append : (p : A → Bool) (xs ys : List A) → filter p (xs ++ ys) ≡ filter p xs ++ filter p ys
  filter-append p [] ys = refl
  filter-append p (x ∷ xs) ys = put_append (p x) x (filter p (xs ++ ys)) (filter p xs) (filter p ys) (filter-append p xs ys)

-- ---- a list by its positions

-- what stands from position s on, counted from 0, is what stands at the numbers from s on
pub map-from-get_or : {A B : Type 0} (g : A → B) (d : A) (l : List A) (s k : ℕ) → s + k ≡ length l → map (λ i. g (get_or l i d)) (from s k) ≡ map g (drop s l)
map-from-get_or g d l s zero e = rw (drop_of_length-le l {i = s} (omega arith))
map-from-get_or g d l s (suc k) e =
    let less : s < length l = omega arith in
    rw (drop-cons l s d less, map-from-get_or g d l (suc s) k (omega arith))
