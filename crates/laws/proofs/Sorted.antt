-- Which numbers stand in a list, and lists in which each number comes before all later ones.
use Prim.Native.Nat.{ℕ, zero, suc, ◌+◌, ◌≤◌, ◌<◌, zero-le}
use mathlib.Core.Path.{◌≡◌, refl, sym, ap, subst, ◌∙◌}
use mathlib.Core.Bool.{Bool, true, false, cond, not}
use mathlib.Core.Logic.{◌⊎◌, inl, inr, ⊎_elim}
use mathlib.Core.List.{List, [], ◌∷◌, ◌++◌}
use native.Mathlib.Nat.{eq-or-lt_of_le}
use native.Mathlib.Omega.{arith}
use lib.Dec.{eqb}
use lib.ListN.{length, get_or}
use borrow.Author.Tests.{eq-eqb, ne_eqb, eqb-true, eqb-false}
use Rattle.laws.specs.Lists.{filter, count, from, numbers, at, position}
use Rattle.laws.proofs.Tests.{never, decide}
use Rattle.laws.proofs.Filters.{filter-all, filter_none}
use Rattle.laws.proofs.Positions.{StandsAt, position_stands, count-filter}

-- ---- standing in a list

-- j stands in the list
abbrev pub Stands : ℕ → List ℕ → Type 0
Stands j l = 0 < count (eqb j) l

one_or_more : (b : Bool) (k : ℕ) → 0 < cond b 1 0 + k → (b ≡ true) ⊎ (0 < k)
one_or_more true k h = inl refl
one_or_more false k h = inr (omega arith)

-- what stands in a list is its head or stands in the rest
pub stands_cases : (j i : ℕ) (l : List ℕ) → Stands j (i ∷ l) → (j ≡ i) ⊎ Stands j l
stands_cases j i l h = ⊎_elim (λ e. inl (eqb-true j i e)) inr (one_or_more (eqb j i) (count (eqb j) l) h)

-- the head stands in its list
pub stands_here : (i : ℕ) (l : List ℕ) → Stands i (i ∷ l)
stands_here i l = rw (eq-eqb i i refl) (omega arith)

-- what stands in the rest stands in the whole
pub stands_later : (j i : ℕ) (l : List ℕ) → Stands j l → Stands j (i ∷ l)
stands_later j i l h = omega arith

-- what is at a place of a list stands in it
pub stands_get_or : (l : List ℕ) (n : ℕ) → n < length l → Stands (get_or l n 0) l
stands_get_or [] n h = absurd (omega arith)
stands_get_or (x ∷ xs) zero h = stands_here x xs
stands_get_or (x ∷ xs) (suc n) h = stands_later (get_or xs n 0) x xs (stands_get_or xs n (omega arith))

-- what stands in two lists put together stands in one of them
pub stands_append : (j : ℕ) (xs ys : List ℕ) → Stands j (xs ++ ys) → Stands j xs ⊎ Stands j ys
stands_append j [] ys h = inr h
stands_append j (x ∷ xs) ys h =
    ⊎_elim (λ e. inl (subst (λ (v : ℕ). Stands v (x ∷ xs)) (sym e) (stands_here x xs))) (λ l. ⊎_elim (λ g. inl (stands_later j x xs g)) inr (stands_append j xs ys l)) (stands_cases j x (xs ++ ys) h)

-- what stands among the numbers from s on is one of them
pub stands_from : (j s k : ℕ) → Stands j (from s k) → (s ≤ j) × (j < s + k)
stands_from j s zero h = absurd (omega arith)
stands_from j s (suc k) h =
    ⊎_elim (λ e. omega arith) (λ l. omega (arith, stands_from j (suc s) k l)) (stands_cases j s (from (suc s) k) h)

passing : (b : Bool) (k : ℕ) → 0 < cond b k 0 → (b ≡ true) × (0 < k)
passing true k h = (refl, h)
passing false k h = absurd (omega arith)

-- what stands among those that pass passes, and stands in the list
pub stands_filter : (p : ℕ → Bool) (j : ℕ) (l : List ℕ) → Stands j (filter p l) → (p j ≡ true) × Stands j l
stands_filter p j l h = passing (p j) (count (eqb j) l) (rw (count-filter p j l) at h)

-- ---- how often a number stands among those from s on

-- a number that is none of them stands there never
pub count-from-none : (i s k : ℕ) → (s ≤ i → i < s + k → ⊥) → count (eqb i) (from s k) ≡ 0
count-from-none i s k h =
    ⊎_elim sym (λ l. absurd (h (stands_from i s k l).0 (stands_from i s k l).1)) (eq-or-lt_of_le zero-le)

-- one that is stands there once
pub count_from_once : (i s k : ℕ) → s ≤ i → i < s + k → count (eqb i) (from s k) ≡ 1
count_from_once i s zero low high = absurd (omega arith)
count_from_once i s (suc k) low high =
    ⊎_elim (λ e. rw (eq-eqb i s (sym e), count-from-none i (suc s) k (λ l g. omega arith)))
    (λ l. rw (ne_eqb i s (λ e. omega arith), count_from_once i (suc s) k l (omega arith)))
    (eq-or-lt_of_le low)

-- ---- sorted lists

-- i is related to everything that stands in the list
abbrev pub Ahead : (ℕ → ℕ → Type 0) → ℕ → List ℕ → Type 0
Ahead R i l = (j : ℕ) → Stands j l → R i j

-- each number is related to all that stand after it
abbrev pub Sorted : (ℕ → ℕ → Type 0) → List ℕ → Type 0
Sorted R [] = Unit
Sorted R (i ∷ is) = Ahead R i is × Sorted R is

sorted_from : (s k : ℕ) → Sorted ◌<◌ (from s k)
sorted_from s zero = tt
sorted_from s (suc k) = ((λ j h. (stands_from j (suc s) k h).0), sorted_from (suc s) k)

-- 1 to n are sorted by size
pub sorted_numbers : (n : ℕ) → Sorted ◌<◌ (numbers n)
sorted_numbers n = sorted_from 1 n

module _ (R : ℕ → ℕ → Type 0) where
  sorted_put : (b : Bool) (x : ℕ) (ys : List ℕ) → Ahead R x ys → Sorted R ys → Sorted R (cond b (x ∷ ys) ys)
  sorted_put true x ys a s = (a, s)
  sorted_put false x ys a s = s

  -- what passes a test is sorted as the list is
  pub sorted_filter : (p : ℕ → Bool) (l : List ℕ) → Sorted R l → Sorted R (filter p l)
  sorted_filter p [] s = tt
  sorted_filter p (x ∷ xs) s =
      sorted_put (p x) x (filter p xs) (λ j h. s.0 j (stands_filter p j xs h).1) (sorted_filter p xs s.1)

  -- a list sorted by one relation is sorted by another one that follows from it for what stands in the list
  pub sorted_weaken : (S : ℕ → ℕ → Type 0) (l : List ℕ) → ((i j : ℕ) → Stands i l → Stands j l → S i j → R i j) → Sorted S l → Sorted R l
  sorted_weaken S [] h s = tt
  sorted_weaken S (x ∷ xs) h s =
      ((λ j st. h x j (stands_here x xs) (stands_later j x xs st) (s.0 j st)), sorted_weaken S xs (λ i j hi hj. h i j (stands_later i x xs hi) (stands_later j x xs hj)) s.1)

  -- two sorted lists, one ahead of the other, make one sorted list
  pub sorted_append : (xs ys : List ℕ) → Sorted R xs → Sorted R ys → ((i : ℕ) → Stands i xs → Ahead R i ys) → Sorted R (xs ++ ys)
  sorted_append [] ys s t h = t
  sorted_append (x ∷ xs) ys s t h =
      ((λ j st. ⊎_elim (s.0 j) (h x (stands_here x xs) j) (stands_append j xs ys st)), sorted_append xs ys s.1 t (λ i st. h i (stands_later i x xs st)))

  -- in a sorted list, a number is related to each that stands after it
  pub sorted_split : (xs ys : List ℕ) (i j : ℕ) → Sorted R (xs ++ i ∷ ys) → Stands j ys → R i j
  sorted_split [] ys i j s st = s.0 j st
  sorted_split (x ∷ xs) ys i j s st = sorted_split xs ys i j s.1 st

  sorted_get_or : (l : List ℕ) (a b : ℕ) → Sorted R l → a < b → b < length l → R (get_or l a 0) (get_or l b 0)
  sorted_get_or [] a b s less high = absurd (omega arith)
  sorted_get_or (x ∷ xs) a zero s less high = absurd (omega arith)
  sorted_get_or (x ∷ xs) zero (suc b) s less high = s.0 (get_or xs b 0) (stands_get_or xs b (omega arith))
  sorted_get_or (x ∷ xs) (suc a) (suc b) s less high = sorted_get_or xs a b s.1 (omega arith) (omega arith)

  -- and so by positions
  pub sorted_at : (l : List ℕ) (a b : ℕ) → Sorted R l → 1 ≤ a → a < b → b ≤ length l → R (at l a) (at l b)
  sorted_at l zero b s low less high = absurd (omega arith)
  sorted_at l (suc a) zero s low less high = absurd (omega arith)
  sorted_at l (suc a) (suc b) s low less high = sorted_get_or l a b s (omega arith) high

  -- and a list in which each is related to those at later places is sorted
  get_or_ahead : (x j : ℕ) (xs : List ℕ) (p : ℕ) → StandsAt j xs p → ((b : ℕ) → b < length xs → R x (get_or xs b 0)) → R x j
  get_or_ahead x j xs zero s h = absurd (omega (arith, s.low))
  get_or_ahead x j xs (suc q) s h = rw s.here at (h q s.high)

  get_or_sorted : (l : List ℕ) → ((a b : ℕ) → a < b → b < length l → R (get_or l a 0) (get_or l b 0)) → Sorted R l
  get_or_sorted [] h = tt
  get_or_sorted (x ∷ xs) h =
      ((λ j st. get_or_ahead x j xs (position j xs) (position_stands j xs st) (λ b l. h 0 (suc b) (omega arith) (omega arith))), get_or_sorted xs (λ a b less high. h (suc a) (suc b) (omega arith) (omega arith)))

  pub at_sorted : (l : List ℕ) → ((a b : ℕ) → 1 ≤ a → a < b → b ≤ length l → R (at l a) (at l b)) → Sorted R l
  at_sorted l h = get_or_sorted l (λ a b less high. h (suc a) (suc b) (omega arith) (omega arith) high)

  module _ (asym : (i j : ℕ) → R i j → R j i → ⊥) where
    heads_differ : (x y : ℕ) (xs ys : List ℕ) → (x ≡ y → ⊥) → Ahead R x xs → Ahead R y ys → Stands x (y ∷ ys) → Stands y (x ∷ xs) → ⊥
    heads_differ x y xs ys differ s t hx hy =
        ⊎_elim differ (λ gx. ⊎_elim (λ e. differ (sym e)) (λ gy. asym x y (s y gy) (t x gx)) (stands_cases y x xs hy)) (stands_cases x y ys hx)

    -- by a relation that goes one way only, numbers are sorted in one order at most
    pub sorted_unique : (xs ys : List ℕ) → Sorted R xs → Sorted R ys → ((j : ℕ) → count (eqb j) xs ≡ count (eqb j) ys) → xs ≡ ys
    sorted_unique [] [] s t e = refl
    sorted_unique [] (y ∷ ys) s t e = absurd (omega (arith, e y, stands_here y ys))
    sorted_unique (x ∷ xs) [] s t e = absurd (omega (arith, e x, stands_here x xs))
    sorted_unique (x ∷ xs) (y ∷ ys) s t e =
        ⊎_elim (λ d. rw (eqb-true x y d, sorted_unique xs ys s.1 t.1 (λ j. omega (arith, rw (eqb-true x y d) at (e j)))))
        (λ d. absurd (heads_differ x y xs ys (eqb-false x y d) s.0 t.0 (rw (← (e x)) (stands_here x xs)) (rw (e y) (stands_here y ys))))
        (decide (eqb x y))

-- ---- those that pass a test first

-- where nothing that fails a test stands before what passes it, the list is those that pass and then those that fail
count-after : (p : ℕ → Bool) (x : ℕ) (xs : List ℕ) → p x ≡ false → Ahead (λ i j. p j ≡ true → p i ≡ true) x xs → count p xs ≡ 0
count-after p x [] off a = refl
count-after p x (y ∷ ys) off a =
    ⊎_elim (λ (e : p y ≡ true). let on : p x ≡ true = a y (stands_here y ys) e in never cc) (λ (e : p y ≡ false). rw (e, count-after p x ys off (λ j st. a j (stands_later j y ys st)))) (decide (p y))

count_twice : (p : ℕ → Bool) (l : List ℕ) → count (λ i. not (not (p i))) l ≡ count p l
count_twice p [] = refl
count_twice p (x ∷ xs) = ⊎_elim (λ (e : p x ≡ true). rw (e, count_twice p xs)) (λ (e : p x ≡ false). rw (e, count_twice p xs)) (decide (p x))

pub passing_first : (p : ℕ → Bool) (l : List ℕ) → Sorted (λ i j. p j ≡ true → p i ≡ true) l → l ≡ filter p l ++ filter (λ i. not (p i)) l
passing_first p [] s = refl
passing_first p (x ∷ xs) s =
    ⊎_elim (λ (e : p x ≡ true). rw e (ap (λ (l : List ℕ). x ∷ l) (passing_first p xs s.1)))
    (λ (e : p x ≡ false).
    let none : count p xs ≡ 0 = count-after p x xs e s.0 in
    rw (e, filter_none p xs none, filter-all (λ i. not (p i)) xs (count_twice p xs ∙ none)))
    (decide (p x))
