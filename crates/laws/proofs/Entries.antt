-- Tests and numbers that pass for each other, and how many numbers stand in a list; sums of equal entries; and the multiples of
-- t below a number.
use Prim.Native.Nat.{ℕ, zero, suc, ◌+◌, ◌-◌, ◌*◌, ◌/◌, ◌%◌, ◌≤◌, ◌<◌, zero-le}
use mathlib.Core.Path.{◌≡◌, refl, ap, ◌∙◌}
use mathlib.Core.Bool.{Bool, true, false, cond, not, ◌||◌}
use mathlib.Core.Logic.{⊎_elim}
use mathlib.Core.List.{List, [], ◌∷◌, ◌++◌}
use native.Mathlib.Nat.{div-add-mod', mod-lt, add-div_right, add-zero, eq-zero-or-pos}
use native.Mathlib.Omega.{arith}
use lib.Arith.{digits_div}
use lib.Dec.{T, eqb, ltb, leb}
use lib.ListN.{length, replicate}
use Rattle.laws.specs.Lists.{count, sum, numbers, later, position}
use Rattle.laws.proofs.Tests.{to_T, decide, eqb_sym}
use Rattle.laws.proofs.Sorted.{count-from-none, count_from_once}
use borrow.Author.Tests.{eqb-true, eqb-false, eq-eqb, lt-ltb, leb-true, leb-false}

-- ---- tests

-- one test holds where another does
pub imply : (a b : Bool) → T (not a || b) → a ≡ true → T b
imply true b t e = t
imply false b t e = absurd (to_T e)

pub implies : (a b : Bool) → (a ≡ true → T b) → T (not a || b)
implies true b f = f refl
implies false b f = tt

-- equal numbers pass for equal
pub eq_T : (a b : ℕ) → a ≡ b → T (eqb a b)
eq_T a b e = to_T (eq-eqb a b e)

-- ---- where a number stands first

later-le : (b : Bool) (k : ℕ) {n : ℕ} → k ≤ n → cond b 1 (later k) ≤ suc n
later-le true k h = omega arith
later-le false zero h = zero-le
later-le false (suc k) h = omega arith

-- a position is within the list
pub position_within : (x : ℕ) (l : List ℕ) → position x l ≤ length l
position_within x [] = zero-le
position_within x (y ∷ ys) = later-le (eqb x y) (position x ys) (position_within x ys)

-- ---- how many pass a test

add_one_each : (a b : Bool) → (a ≡ true → b ≡ true) → {j k : ℕ} → j ≤ k → cond a 1 0 + j ≤ cond b 1 0 + k
add_one_each true b imp le = rw (imp refl) (omega arith)
add_one_each false b imp le = omega arith

-- where one test holds whenever another does, as many entries pass it, or more
pub count_mono : {A : Type 0} (p q : A → Bool) (l : List A) → ((x : A) → p x ≡ true → q x ≡ true) → count p l ≤ count q l
count_mono p q [] h = zero-le
count_mono p q (x ∷ xs) h = add_one_each (p x) (q x) (h x) (count_mono p q xs h)

-- a test that nothing passes counts nothing
pub count_false : (l : List ℕ) → count (λ i. false) l ≡ 0
count_false [] = refl
count_false (i ∷ is) = rw (count_false is)

-- in a list with one entry more, a number stands at its head or after it
first_or_later : (b : Bool) (k : ℕ) → cond (ltb 0 (cond b 1 (later k))) 1 0 ≤ cond b 1 0 + cond (ltb 0 k) 1 0
first_or_later true k = omega arith
first_or_later false zero = omega arith
first_or_later false (suc k) = rw (lt-ltb 0 (suc k) (omega arith), lt-ltb 0 (suc (suc k)) (omega arith)) (omega arith)

count_cons_position : (y : ℕ) (ys is : List ℕ) → count (λ i. ltb 0 (position i (y ∷ ys))) is ≤ count (eqb y) is + count (λ i. ltb 0 (position i ys)) is
count_cons_position y ys [] = zero-le
count_cons_position y ys (i ∷ is) = rw (eqb_sym y i) (omega (arith, first_or_later (eqb i y) (position i ys), count_cons_position y ys is))

-- a number stands among those from 1 to n at most once
pub count-numbers-le : (y n : ℕ) → count (eqb y) (numbers n) ≤ 1
count-numbers-le y n =
    ⊎_elim (λ e. omega (arith, outside (λ low high. omega arith)))
    (λ low. within low (leb y n) refl)
    (eq-zero-or-pos y)
  where
    outside : (1 ≤ y → y < 1 + n → ⊥) → count (eqb y) (numbers n) ≡ 0
    outside = count-from-none y 1 n

    within : 1 ≤ y → (b : Bool) → leb y n ≡ b → count (eqb y) (numbers n) ≤ 1
    within low true e = omega (arith, count_from_once y 1 n low (omega (arith, leb-true y n e)))
    within low false e = omega (arith, outside (λ l high. omega (arith, leb-false y n e)))

-- of the numbers 1 to n no more stand in a list than it is long
pub count-position-le : (n : ℕ) (l : List ℕ) → count (λ i. ltb 0 (position i l)) (numbers n) ≤ length l
count-position-le n [] = omega (arith, count_false (numbers n))
count-position-le n (y ∷ ys) = omega (arith, count_cons_position y ys (numbers n), count-numbers-le y n, count-position-le n ys)

-- ---- sums

-- a sum that begins with n equal entries
pub sum-replicate : (n v : ℕ) (l : List ℕ) → sum (replicate n v ++ l) ≡ n * v + sum l
sum-replicate zero v l = omega arith
sum-replicate (suc n) v l = omega (arith, sum-replicate n v l)

-- ---- multiples of t

-- the multiples of t from 0 below one number more
pub multiples_suc : (t s : ℕ) → 1 ≤ t → (suc s + (t - 1)) / t ≡ (s + (t - 1)) / t + cond (eqb (s % t) 0) 1 0
multiples_suc t s pos =
    ⊎_elim (λ e. there ∙ rw (here (eqb-true (s % t) 0 e), e))
    (λ e. there ∙ rw (apart (eqb-false (s % t) 0 e), e, add-zero))
    (decide (eqb (s % t) 0))
  where
    there : (suc s + (t - 1)) / t ≡ s / t + 1
    there = ap (λ (z : ℕ). z / t) (omega arith) ∙ add-div_right s pos

    here : s % t ≡ 0 → (s + (t - 1)) / t ≡ s / t
    here e = ap (λ (z : ℕ). z / t) (omega (arith, div-add-mod' s t)) ∙ digits_div (s / t) {r = t - 1} (omega arith)

    apart : (s % t ≡ 0 → ⊥) → (s + (t - 1)) / t ≡ s / t + 1
    apart ne = ap (λ (z : ℕ). z / t) (omega (arith, div-add-mod' s t)) ∙ digits_div (s / t + 1) {r = s % t - 1} (omega (arith, mod-lt s pos))
