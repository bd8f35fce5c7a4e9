-- Counting in lists: what an append, a filter, a take or a change of one place does to a count. Where a number stands first.
use Prim.Native.Nat.{ℕ, zero, suc, ◌+◌, ◌-◌, ◌≤◌, ◌<◌, min, zero-le}
use mathlib.Core.Path.{◌≡◌, refl, sym, ap, ◌∙◌}
use mathlib.Core.Bool.{Bool, true, false, cond, not, true≢false}
use mathlib.Core.Logic.{⊎_elim}
use mathlib.Core.List.{List, [], ◌∷◌, ◌++◌}
use native.Mathlib.Nat.{le_of_suc-le-suc, not-suc-le-zero, eq-or-lt_of_le, zero-sub, sub-zero, suc-sub-suc}
use native.Mathlib.Omega.{arith}
use borrow.Author.Tests.{eqb-true, eq-eqb, ne_eqb}
use lib.Dec.{eqb}
use lib.ListN.{length, get_or, take, set, replicate, length-take}
use lib.Seq.{get_or-set_same, get_or-set_other}
use Rattle.laws.specs.Lists.{filter, count, from, at, later, position}
use Rattle.laws.proofs.Tests.{decide, cond_same}
use Rattle.laws.proofs.Filters.{length-filter, filter-append}

-- ---- one test, counted

-- at most 1; 1 for a number against itself, 0 against another
pub hit_le : (b : Bool) → cond b 1 0 ≤ 1
hit_le true = omega arith
hit_le false = omega arith

pub hit_same : {x y : ℕ} → x ≡ y → ◌≡◌ {A = ℕ} (cond (eqb x y) 1 0) 1
hit_same {x} {y} e = rw (eq-eqb x y e)

pub hit_other : {x y : ℕ} → (x ≡ y → ⊥) → ◌≡◌ {A = ℕ} (cond (eqb x y) 1 0) 0
hit_other {x} {y} n = rw (ne_eqb x y n)

-- ---- counts

take-append : {A : Type 0} (m : ℕ) (xs ys : List A) → take m (xs ++ ys) ≡ take m xs ++ take (m - length xs) ys
take-append zero xs ys = rw (zero-sub (length xs))
take-append (suc m) [] ys = rw (sub-zero (suc m))
take-append (suc m) (x ∷ xs) ys = rw (suc-sub-suc m (length xs), take-append m xs ys)

module _ {A : Type 0} (p : A → Bool) where
  -- counts of two lists add up
  pub count-append : (xs ys : List A) → count p (xs ++ ys) ≡ count p xs + count p ys
  count-append [] ys = omega arith
  count-append (x ∷ xs) ys = omega (arith, count-append xs ys)

  -- the first elements of a list count no more than the list
  pub count-take : (m : ℕ) (l : List A) → count p (take m l) ≤ count p l
  count-take zero l = zero-le
  count-take (suc m) [] = zero-le
  count-take (suc m) (x ∷ xs) = omega (arith, count-take m xs)

  -- the first m that pass: how many they are
  pub length-take-filter : (m : ℕ) (l : List A) → length (take m (filter p l)) ≡ min m (count p l)
  length-take-filter m l = length-take m (filter p l) ∙ ap (min m) (length-filter p l)

  -- how those of a second list follow those of a first
  pub take-filter-append : (m : ℕ) (xs ys : List A) → take m (filter p (xs ++ ys)) ≡ take m (filter p xs) ++ take (m - count p xs) (filter p ys)
  take-filter-append m xs ys = rw (filter-append p xs ys, ← length-filter p xs) (take-append m (filter p xs) (filter p ys))

  -- those that pass and those that do not are all
  pub count_not : (l : List A) → count p l + count (λ x. not (p x)) l ≡ length l
  count_not [] = refl
  count_not (x ∷ xs) = ⊎_elim (λ e. rw e (omega (arith, count_not xs))) (λ e. rw e (omega (arith, count_not xs))) (decide (p x))

  -- a filter lets no count grow
  pub count-filter-le : (q : A → Bool) (l : List A) → count q (filter p l) ≤ count q l
  count-filter-le q [] = zero-le
  count-filter-le q (x ∷ xs) =
      ⊎_elim (λ e. rw e (omega (arith, count-filter-le q xs))) (λ e. rw e (omega (arith, count-filter-le q xs))) (decide (p x))

  -- a change of one place: a count loses what stood there and gains what was put there
  pub count_set : (l : List A) (j : ℕ) (v d : A) → j < length l → count p (set l j v) + cond (p (get_or l j d)) 1 0 ≡ count p l + cond (p v) 1 0
  count_set [] j v d h = absurd (not-suc-le-zero h)
  count_set (x ∷ xs) zero v d h = omega arith
  count_set (x ∷ xs) (suc j) v d h = omega (arith, count_set xs j v d (le_of_suc-le-suc h))

-- n times v holds v n times, and no other number
pub count-replicate : (n v i : ℕ) → count (eqb i) (replicate n v) ≡ cond (eqb i v) n 0
count-replicate zero v i = sym (cond_same (eqb i v) 0)
count-replicate (suc n) v i =
    ⊎_elim (λ (e : eqb i v ≡ true). rw e (omega (arith, rw e at (count-replicate n v i))))
    (λ (e : eqb i v ≡ false). rw e (omega (arith, rw e at (count-replicate n v i))))
    (decide (eqb i v))

-- a filter keeps a number that passes as often as it stood, and drops one that does not
pub count-filter : (p : ℕ → Bool) (i : ℕ) (l : List ℕ) → count (eqb i) (filter p l) ≡ cond (p i) (count (eqb i) l) 0
count-filter p i [] = sym (cond_same (p i) 0)
count-filter p i (x ∷ xs) =
    let rest : count (eqb i) (filter p xs) ≡ cond (p i) (count (eqb i) xs) 0 = count-filter p i xs in
    let apart : (p x ≡ p i → ⊥) → ◌≡◌ {A = ℕ} (cond (eqb i x) 1 0) 0 = λ n. hit_other (λ q. n (ap p (sym q))) in
    ⊎_elim
    (λ (e : p x ≡ true).
    ⊎_elim (λ (w : p i ≡ true). rw (e, w) (omega (arith, rw w at rest)))
    (λ (w : p i ≡ false). rw (e, w) (omega (arith, rw w at rest, apart (λ q. true≢false (sym e ∙ q ∙ w)))))
    (decide (p i)))
    (λ (e : p x ≡ false).
    ⊎_elim (λ (w : p i ≡ true). rw (e, w) (omega (arith, rw w at rest, apart (λ q. true≢false (sym w ∙ sym q ∙ e)))))
    (λ (w : p i ≡ false). rw (e, w) (omega (arith, rw w at rest)))
    (decide (p i)))
    (decide (p x))

-- ---- where a number stands first

-- x stands at position k
pub record StandsAt (x : ℕ) (l : List ℕ) (k : ℕ) : Type 0 where
  pub low : 1 ≤ k
  pub high : k ≤ length l
  pub here : at l k ≡ x

later_is : (k : ℕ) → later k ≡ min 1 k + k
later_is zero = refl
later_is (suc k) = omega arith

-- a number has a first position exactly where it is counted
pub position-count : (x : ℕ) (l : List ℕ) → min 1 (position x l) ≡ min 1 (count (eqb x) l)
position-count x [] = refl
position-count x (y ∷ ys) =
    ⊎_elim (λ e. rw e (omega arith)) (λ e. rw e (omega (arith, position-count x ys, later_is (position x ys)))) (decide (eqb x y))

module _ {x y : ℕ} {ys : List ℕ} where
  stands_first : x ≡ y → StandsAt x (y ∷ ys) 1
  stands_first e = record { low = omega arith; high = omega arith; here = sym e }

  stands_later : {k : ℕ} → StandsAt x ys k → StandsAt x (y ∷ ys) (later k)
  stands_later {k = zero} s = absurd (not-suc-le-zero s.low)
  stands_later {k = suc k} s = record { low = omega arith; high = omega arith; here = s.here }

  stands_rest : {k : ℕ} → StandsAt x (y ∷ ys) (suc (suc k)) → StandsAt x ys (suc k)
  stands_rest s = record { low = omega arith; high = omega arith; here = s.here }

-- at its first position it stands
pub position_stands : (x : ℕ) (l : List ℕ) → 1 ≤ count (eqb x) l → StandsAt x l (position x l)
position_stands x [] h = absurd (not-suc-le-zero h)
position_stands x (y ∷ ys) h =
    ⊎_elim (λ (e : eqb x y ≡ true). rw e (stands_first (eqb-true x y e)))
    (λ (e : eqb x y ≡ false). rw e (stands_later (position_stands x ys (omega (arith, rw e at h)))))
    (decide (eqb x y))

-- what stands somewhere is counted
pub stands_count : (x : ℕ) (l : List ℕ) {k : ℕ} → StandsAt x l k → 1 ≤ count (eqb x) l
stands_count x [] s = omega arith
stands_count x (y ∷ ys) {k = zero} s = omega arith
stands_count x (y ∷ ys) {k = suc zero} s = omega (arith, hit_same (sym s.here))
stands_count x (y ∷ ys) {k = suc (suc k)} s = omega (arith, stands_count x ys (stands_rest s))

-- the first position is no later than any other
pub position-le : (x : ℕ) (l : List ℕ) {k : ℕ} → StandsAt x l k → position x l ≤ k
position-le x [] s = zero-le
position-le x (y ∷ ys) {k = zero} s = omega arith
position-le x (y ∷ ys) {k = suc zero} s = rw (eq-eqb x y (sym s.here)) (omega arith)
position-le x (y ∷ ys) {k = suc (suc k)} s =
    ⊎_elim (λ (e : eqb x y ≡ true). rw e (omega arith))
    (λ (e : eqb x y ≡ false). rw e (omega (arith, position-le x ys (stands_rest s), later_is (position x ys))))
    (decide (eqb x y))

-- where none stands before a place, counted from 0, and it stands there, that is its first position
pub position_first : (x : ℕ) (l : List ℕ) (k : ℕ) → k < length l → count (eqb x) (take k l) ≡ 0 → get_or l k 0 ≡ x → position x l ≡ suc k
position_first x [] k more none here = absurd (not-suc-le-zero more)
position_first x (y ∷ ys) zero more none here = rw (eq-eqb x y (sym here))
position_first x (y ∷ ys) (suc k) more none here =
    ⊎_elim (λ (e : eqb x y ≡ true). absurd (omega (arith, rw e at none)))
    (λ (e : eqb x y ≡ false). rw e (ap later (position_first x ys k (le_of_suc-le-suc more) (omega arith) here)))
    (decide (eqb x y))

-- what is counted once stands at its first position only
pub position_once : (x : ℕ) (l : List ℕ) {k : ℕ} → count (eqb x) l ≤ 1 → StandsAt x l k → position x l ≡ k
position_once x [] h s = omega arith
position_once x (y ∷ ys) {k = zero} h s = omega arith
position_once x (y ∷ ys) {k = suc zero} h s = rw (eq-eqb x y (sym s.here))
position_once x (y ∷ ys) {k = suc (suc k)} h s =
    let there : 1 ≤ count (eqb x) ys = stands_count x ys (stands_rest s) in
    ⊎_elim (λ (e : eqb x y ≡ true). absurd (omega (arith, rw e at h)))
    (λ (e : eqb x y ≡ false). rw e (ap later (position_once x ys (omega arith) (stands_rest s))))
    (decide (eqb x y))

get_or_zeros : (n k : ℕ) → ◌≡◌ {A = ℕ} (get_or (replicate n 0) k 0) 0
get_or_zeros zero k = refl
get_or_zeros (suc n) zero = refl
get_or_zeros (suc n) (suc k) = get_or_zeros n k

-- in a list of zeros nothing else stands, within and past its end
pub at_zeros : (n k : ℕ) → at (replicate n 0) k ≡ 0
at_zeros n zero = refl
at_zeros n (suc k) = get_or_zeros n k

-- ---- a number put at position k, counted from 1

suc-sub_one : (k : ℕ) → suc k - 1 ≡ k
suc-sub_one k = omega arith

module _ (l : List ℕ) where
  -- it stands there
  pub at_set_same : (k v : ℕ) → 1 ≤ k → k ≤ length l → at (set l (k - 1) v) k ≡ v
  at_set_same zero v low high = absurd (not-suc-le-zero low)
  at_set_same (suc k) v low high = rw (suc-sub_one k) (get_or-set_same l k v 0 high)

  -- at every other position stands what stood there before
  pub at_set_other : (k v j : ℕ) → 1 ≤ k → (j ≡ k → ⊥) → at (set l (k - 1) v) j ≡ at l j
  at_set_other zero v j low n = absurd (not-suc-le-zero low)
  at_set_other (suc k) v zero low n = refl
  at_set_other (suc k) v (suc j) low n = rw (suc-sub_one k) (get_or-set_other l k j v 0 (λ e. n (ap suc e)))

  -- every count loses what stood there and gains what was put there
  pub count-set-at : (p : ℕ → Bool) (k v : ℕ) → 1 ≤ k → k ≤ length l
      → count p (set l (k - 1) v) + cond (p (at l k)) 1 0 ≡ count p l + cond (p v) 1 0
  count-set-at p zero v low high = absurd (not-suc-le-zero low)
  count-set-at p (suc k) v low high = rw (suc-sub_one k) (count_set p l k v 0 high)

-- ---- the numbers from s on that pass a test

filter-from_cong : (p q : ℕ → Bool) (s n : ℕ) → ((j : ℕ) → s ≤ j → p j ≡ q j) → filter p (from s n) ≡ filter q (from s n)
filter-from_cong p q s zero h = refl
filter-from_cong p q s (suc n) h = rw (h s (omega arith), filter-from_cong p q (suc s) n (λ j l. h j (omega arith)))

-- where k is the first that passes the one test, and the other test fails k and is else the same: k, then those that pass the other
pub filter-from-first : (p q : ℕ → Bool) (s n k : ℕ) → s ≤ k → k < s + n → p k ≡ true → q k ≡ false
    → ((j : ℕ) → s ≤ j → j < k → p j ≡ false) → ((j : ℕ) → (j ≡ k → ⊥) → q j ≡ p j) → filter p (from s n) ≡ k ∷ filter q (from s n)
filter-from-first p q s zero k low high hit miss first rest = absurd (omega arith)
filter-from-first p q s (suc n) k low high hit miss first rest =
    ⊎_elim
    (λ (e : s ≡ k).
    let same : _ = filter-from_cong p q (suc k) n (λ j l. sym (rest j (λ w. omega arith))) in
    rw (e, hit, miss) (ap {B = List ℕ} (λ l. k ∷ l) same))
    (λ (l : s < k).
    rw (first s (omega arith) l, rest s (λ w. omega arith) ∙ first s (omega arith) l)
    (filter-from-first p q (suc s) n k l (omega arith) hit miss (λ j a b. first j (omega arith) b) rest))
    (eq-or-lt_of_le low)
