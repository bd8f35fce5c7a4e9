-- Counts that go over one list or over another: the positions of a list or the values on it, the elements of a list or the
-- members of another.
use Prim.Native.Nat.{ℕ, zero, suc, ◌+◌, ◌*◌, ◌≤◌, ◌<◌, min}
use mathlib.Core.Path.{◌≡◌, refl, sym, ap, ◌∙◌}
use mathlib.Core.Bool.{Bool, true, false, cond, ◌&&◌}
use mathlib.Core.Logic.{⊎_elim}
use mathlib.Core.List.{List, [], ◌∷◌, map}
use native.Mathlib.Nat.{zero-add}
use native.Mathlib.Decide.{dec_le, dec_lt}
use native.Mathlib.Omega.{arith}
use borrow.Author.Tests.{lt-ltb, le-ltb, eq-eqb, ne_eqb, eqb-true}
use lib.Dec.{eqb, ltb}
use lib.ListN.{length}
use Rattle.laws.specs.Lists.{count, sum, from, numbers, at, later, position}
use Rattle.laws.proofs.Tests.{decide, cond_same, eqb_sym}
use Rattle.laws.proofs.Each.{length_from, count_cong}
use Rattle.laws.proofs.Filters.{count_as_sum, length_as_sum}
use Rattle.laws.proofs.Sorted.{Stands, stands_cases, stands_here, stands_later, count_from_once}
use Rattle.laws.proofs.Positions.{position-count}
use Rattle.laws.proofs.Entries.{count_false}

-- ---- whether a number stands on a list

-- a number that does not stand on a list has no position
position-none : (x : ℕ) (l : List ℕ) → count (eqb x) l ≡ 0 → ltb 0 (position x l) ≡ false
position-none x l e = le-ltb 0 (position x l) (omega (arith, position-count x l))

-- ---- the numbers from s on, one further

-- the numbers from suc s on are those from s on, each one further
pub map-from-suc : {A : Type 0} (f : ℕ → A) (s k : ℕ) → map f (from (suc s) k) ≡ map (λ i. f (suc i)) (from s k)
map-from-suc f s zero = refl
map-from-suc f s (suc k) = rw (map-from-suc f (suc s) k)

count-from-suc : (p : ℕ → Bool) (s k : ℕ) → count p (from (suc s) k) ≡ count (λ i. p (suc i)) (from s k)
count-from-suc p s k =
    count_as_sum p (from (suc s) k) ∙ ap sum (map-from-suc (λ i. cond (p i) 1 0) s k) ∙ sym (count_as_sum (λ i. p (suc i)) (from s k))

-- ---- the positions of a list and the values on it

-- the count of a test that is another one but at x, where the other fails
count_but_here : (g : Bool) (c d : ℕ) → cond g 1 0 + (cond g c 0 + d) ≡ cond g (1 + c) 0 + (0 + d)
count_but_here true c d = omega arith
count_but_here false c d = omega arith

count_but_else : (g : Bool) (z c d : ℕ) → z + (cond g c 0 + d) ≡ cond g (0 + c) 0 + (z + d)
count_but_else true z c d = omega arith
count_but_else false z c d = omega arith

module _ (x : ℕ) (g q : ℕ → Bool) (off : q x ≡ false) where
  count_but : (l : List ℕ) → count (λ i. cond (eqb i x) (g i) (q i)) l ≡ cond (g x) (count (eqb x) l) 0 + count q l
  count_but [] = rw cond_same
  count_but (y ∷ ys) =
      ⊎_elim (λ e. rw (← eqb-true x y e, eq-eqb x x refl, off, count_but ys) (count_but_here (g x) (count (eqb x) ys) (count q ys)))
      (λ e. let r : eqb y x ≡ false = eqb_sym y x ∙ e in rw (e, r, count_but ys) (count_but_else (g x) (cond (q y) 1 0) (count (eqb x) ys) (count q ys)))
      (decide (eqb x y))

at-later : (x : ℕ) (xs : List ℕ) (k : ℕ) → 1 ≤ k → at (x ∷ xs) (suc k) ≡ at xs k
at-later x xs zero low = absurd (omega arith)
at-later x xs (suc k) low = refl

-- position k holds a value that passes with it; value i has a position and passes with it
abbrev held : (ℕ → ℕ → Bool) → List ℕ → ℕ → Bool
held p l k = ltb 0 (at l k) && p (at l k) k

abbrev found : (ℕ → ℕ → Bool) → List ℕ → ℕ → Bool
found p l i = ltb 0 (position i l) && p i (position i l)

abbrev shift : (ℕ → ℕ → Bool) → ℕ → ℕ → Bool
shift p v k = p v (suc k)

held-rest : (p : ℕ → ℕ → Bool) (x : ℕ) (xs : List ℕ) → count (held p (x ∷ xs)) (from 2 (length xs)) ≡ count (held (shift p) xs) (numbers (length xs))
held-rest p x xs =
    count-from-suc (held p (x ∷ xs)) 1 (length xs)
    ∙ count_cong (length xs) (λ k. held p (x ∷ xs) (suc k)) (held (shift p) xs) (λ k low high. rw (at-later x xs k low))

found_step : (b : Bool) (q : ℕ) (p : ℕ → Bool) → ltb 0 (cond b 1 (later q)) && p (cond b 1 (later q)) ≡ cond b (p 1) (ltb 0 q && p (suc q))
found_step true q p = refl
found_step false zero p = refl
found_step false (suc q) p = rw (lt-ltb 0 (suc (suc q)) (omega arith), lt-ltb 0 (suc q) (omega arith))

found_rest : (p : ℕ → ℕ → Bool) (n x : ℕ) (xs : List ℕ)
    → count (found p (x ∷ xs)) (numbers n) ≡ count (λ i. cond (eqb i x) (p i 1) (found (shift p) xs i)) (numbers n)
found_rest p n x xs =
    count_cong n (found p (x ∷ xs)) (λ i. cond (eqb i x) (p i 1) (found (shift p) xs i)) (λ i low high.
    found_step (eqb i x) (position i xs) (p i))

-- what a value at the first position adds: nothing for 0, and else its own test, as it stands nowhere later
found_head : (p : ℕ → ℕ → Bool) (n x : ℕ) (xs : List ℕ) → (1 ≤ x → count (eqb x) xs ≡ 0) → x ≤ n
    → cond (ltb 0 x && p x 1) 1 0 + count (found (shift p) xs) (numbers n) ≡ count (λ i. cond (eqb i x) (p i 1) (found (shift p) xs i)) (numbers n)
found_head p n zero xs alone high =
    rw zero-add (count_cong n (found (shift p) xs) (λ i. cond (eqb i 0) (p i 1) (found (shift p) xs i)) (λ i low h. rw (ne_eqb i 0 (λ e. omega arith))))
found_head p n (suc y) xs alone high =
    let off : found (shift p) xs (suc y) ≡ false = rw (position-none (suc y) xs (alone (omega arith))) in
    rw (lt-ltb 0 (suc y) (omega arith), count_but (suc y) (λ i. p i 1) (found (shift p) xs) off (numbers n), count_from_once (suc y) 1 n (omega arith) (omega arith))

value-high : (n x : ℕ) (xs : List ℕ) → ((i : ℕ) → n < i → count (eqb i) (x ∷ xs) ≡ 0) → x ≤ n
value-high n x xs high = elim (dec_le x n) [ yes l ↦ l | no h ↦ absurd (omega (arith, rw (eq-eqb x x refl) at (high x (omega arith)))) ]

value_alone : (x : ℕ) (xs : List ℕ) → count (eqb x) (x ∷ xs) ≤ 1 → count (eqb x) xs ≡ 0
value_alone x xs once = omega (arith, rw (eq-eqb x x refl) at once)

-- Where no value but 0 stands twice on a list, and none above n: the count over the positions that hold a value other than 0
-- is the count over the values from 1 to n.
pub count_values : (n : ℕ) (l : List ℕ) → ((i : ℕ) → 1 ≤ i → count (eqb i) l ≤ 1) → ((i : ℕ) → n < i → count (eqb i) l ≡ 0)
    → (p : ℕ → ℕ → Bool)
    → count (λ k. ltb 0 (at l k) && p (at l k) k) (numbers (length l)) ≡ count (λ i. ltb 0 (position i l) && p i (position i l)) (numbers n)
count_values n [] once high p = sym (count_false (numbers n))
count_values n (x ∷ xs) once high p =
    rw (held-rest p x xs, count_values n xs (λ i low. omega (arith, once i low)) (λ i above. omega (arith, high i above)) (shift p), found_rest p n x xs)
    (found_head p n x xs (λ low. value_alone x xs (once x low)) (value-high n x xs high))

-- ---- the elements of a list and the members of another

-- a sum of sums
pub sum-map-add : (f g : ℕ → ℕ) (l : List ℕ) → sum (map (λ i. f i + g i) l) ≡ sum (map f l) + sum (map g l)
sum-map-add f g [] = refl
sum-map-add f g (x ∷ xs) = rw (sum-map-add f g xs) (omega arith)

-- a sum of nothing but 0
pub sum-map-zero : (l : List ℕ) → sum (map (λ i. 0) l) ≡ 0
sum-map-zero [] = refl
sum-map-zero (x ∷ xs) = rw (zero-add, sum-map-zero xs)

sum-map-eqb : (x : ℕ) (l : List ℕ) → sum (map (λ i. cond (eqb i x) 1 0) l) ≡ count (eqb x) l
sum-map-eqb x [] = refl
sum-map-eqb x (y ∷ ys) = rw (sum-map-eqb x ys, eqb_sym y x)

once_found : (q c : ℕ) → min 1 q ≡ min 1 c → c ≤ 1 → cond (ltb 0 q) 1 0 ≡ c
once_found zero c e h = omega arith
once_found (suc q) c e h = rw (lt-ltb 0 (suc q) (omega arith)) (omega arith)

-- for a list without repeats: how many elements of l are members of it, member by member
pub count_members : (is : List ℕ) → ((i : ℕ) → count (eqb i) is ≤ 1) → (l : List ℕ) → count (λ x. ltb 0 (position x is)) l ≡ sum (map (λ i. count (eqb i) l) is)
count_members is once [] = sym (sum-map-zero is)
count_members is once (x ∷ xs) =
    rw (once_found (position x is) (count (eqb x) is) (position-count x is) (once x), count_members is once xs, sum-map-add (λ i. cond (eqb i x) 1 0) (λ i. count (eqb i) xs) is, sum-map-eqb x is)

-- ---- lists with the same numbers

-- sums of functions that agree on what stands in the list
pub sum_agree : (f g : ℕ → ℕ) (l : List ℕ) → ((i : ℕ) → Stands i l → f i ≡ g i) → sum (map f l) ≡ sum (map g l)
sum_agree f g [] h = refl
sum_agree f g (x ∷ xs) h = rw (h x (stands_here x xs), sum_agree f g xs (λ i st. h i (stands_later i x xs st)))

module _ (f : ℕ → ℕ) where
  -- one number more in the one list
  swap_more : (x : ℕ) (xs ys : List ℕ)
      → sum (map (λ i. (cond (eqb i x) 1 0 + count (eqb i) xs) * f i) ys) ≡ count (eqb x) ys * f x + sum (map (λ i. count (eqb i) xs * f i) ys)
  swap_more x xs [] = omega arith
  swap_more x xs (y ∷ ys) =
      ⊎_elim (λ (e : eqb y x ≡ true). rw (eqb-true y x e, eq-eqb x x refl, swap_more x xs ys) (omega arith))
      (λ (e : eqb y x ≡ false). let r : eqb x y ≡ false = eqb_sym x y ∙ e in rw (e, r, swap_more x xs ys) (omega arith))
      (decide (eqb y x))

  -- each number of one list as often as it stands in the other: the same both ways round
  sum_swap : (xs ys : List ℕ) → sum (map (λ i. count (eqb i) xs * f i) ys) ≡ sum (map (λ i. count (eqb i) ys * f i) xs)
  sum_swap [] ys = sum_agree (λ i. 0 * f i) (λ i. 0) ys (λ i st. omega arith) ∙ sum-map-zero ys
  sum_swap (x ∷ xs) ys = swap_more x xs ys ∙ rw (sum_swap xs ys)

  -- a list without repeats, and one with the same numbers, have the same sums
  pub same_sums : (xs ys : List ℕ) → ((i : ℕ) → count (eqb i) xs ≡ count (eqb i) ys) → ((i : ℕ) → count (eqb i) ys ≤ 1)
      → sum (map f xs) ≡ sum (map f ys)
  same_sums xs ys same once =
      sum_agree f (λ i. count (eqb i) ys * f i) xs (λ i st. let one : count (eqb i) ys ≡ 1 = omega (arith, same i, once i) in rw one (omega arith))
      ∙ sym (sum_swap xs ys)
      ∙ sum_agree (λ i. count (eqb i) xs * f i) f ys (λ i st. let one : count (eqb i) xs ≡ 1 = omega (arith, same i, once i) in rw one (omega arith))

-- ---- each number once

-- terms of at most 1 that sum to their number are each 1
sum-few : (f : ℕ → ℕ) (l : List ℕ) → ((i : ℕ) → f i ≤ 1) → sum (map f l) ≤ length l
sum-few f [] few = omega arith
sum-few f (x ∷ xs) few = omega (arith, few x, sum-few f xs few)

sum_full : (f : ℕ → ℕ) (l : List ℕ) → ((i : ℕ) → f i ≤ 1) → sum (map f l) ≡ length l → (i : ℕ) → Stands i l → f i ≡ 1
sum_full f [] few full i st = absurd (omega arith)
sum_full f (x ∷ xs) few full i st =
    ⊎_elim (λ (e : i ≡ x). rw e (omega (arith, few x, sum-few f xs few)))
    (λ l. sum_full f xs few (omega (arith, few x, sum-few f xs few)) i l)
    (stands_cases i x xs st)

-- n numbers from 1 to n, none twice, are all of them
pub distinct_all : (n : ℕ) (l : List ℕ) → length l ≡ n → ((i : ℕ) → count (eqb i) l ≤ 1) → ((i : ℕ) → Stands i l → (1 ≤ i) × (i ≤ n))
    → (i : ℕ) → count (eqb i) l ≡ count (eqb i) (numbers n)
distinct_all n l len once within i =
    elim (dec_lt 0 (count (eqb i) l)) [
      | yes h ↦ omega (arith, once i, count_from_once i 1 n (within i h).0 (omega (arith, (within i h).1)))
      | no h ↦
          elim (dec_lt 0 (count (eqb i) (numbers n))) [
            | yes g ↦ absurd (omega (arith, sum_full (λ j. count (eqb j) l * 1) (numbers n) (λ j. omega (arith, once j)) all i g))
            | no g ↦ omega arith
          ]
    ]
  where
    all : sum (map (λ j. count (eqb j) l * 1) (numbers n)) ≡ length (numbers n)
    all =
        sum_swap (λ j. 1) l (numbers n)
        ∙ sum_agree (λ j. count (eqb j) (numbers n) * 1) (λ j. 1) l (λ j st. let one : count (eqb j) (numbers n) ≡ 1 = count_from_once j 1 n (within j st).0 (omega (arith, (within j st).1)) in omega arith)
        ∙ sym (length_as_sum l)
        ∙ len
        ∙ sym (length_from 1 n)
