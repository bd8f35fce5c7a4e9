-- Lists by their positions, counted from 1, and what holds of each number from 1 to n.
use Prim.Native.Nat.{ℕ, zero, suc, ◌+◌, ◌≤◌, ◌<◌, zero-le}
use mathlib.Core.Path.{◌≡◌, refl, sym, ap, ◌∙◌}
use mathlib.Core.Bool.{Bool, true, false, cond}
use mathlib.Core.Logic.{⊎_elim}
use mathlib.Core.List.{List, [], ◌∷◌, map, map-id}
use native.Mathlib.Nat.{add-zero, add-suc, suc-add, le_of_suc-le-suc, not-suc-le-zero, eq-or-lt_of_le}
use native.Mathlib.Omega.{arith}
use lib.Dec.{T}
use lib.ListN.{length, get_or, length-map, replicate, get_or-replicate}
use lib.Seq.{ext_get_or}
use Rattle.laws.specs.Lists.{all, count, from, numbers, each, at}
use Rattle.laws.proofs.Tests.{and_T, and_left, and_right}

-- ---- the numbers from s on

pub length_from : (s k : ℕ) → length (from s k) ≡ k
length_from s zero = refl
length_from s (suc k) = ap suc (length_from (suc s) k)

pub get_or-map-from : {A : Type 0} (d : A) (f : ℕ → A) (s k i : ℕ) → i < k → get_or (map f (from s k)) i d ≡ f (s + i)
get_or-map-from d f s zero i h = absurd (not-suc-le-zero h)
get_or-map-from d f s (suc k) zero h = rw add-zero
get_or-map-from d f s (suc k) (suc i) h = get_or-map-from d f (suc s) k i (le_of_suc-le-suc h) ∙ ap f (suc-add s i ∙ sym (add-suc s i))

pub get_or-from : (s k i : ℕ) → i < k → get_or (from s k) i 0 ≡ s + i
get_or-from s k i h = ap (λ (l : List ℕ). get_or l i 0) (sym (map-id (from s k))) ∙ get_or-map-from 0 (λ x. x) s k i h

-- ---- f 1 to f n

module _ (n : ℕ) (f : ℕ → ℕ) where
  pub length-each : length (each n f) ≡ n
  length-each = length-map (numbers n) f ∙ length_from 1 n

  pub at_each : (i : ℕ) → 1 ≤ i → i ≤ n → at (each n f) i ≡ f i
  at_each zero low high = absurd (not-suc-le-zero low)
  at_each (suc i) low high = get_or-map-from 0 f 1 n i high ∙ ap f (omega arith)

-- two lists with the same entries at 1 to n are the same
pub ext_at : (a b : List ℕ) → length a ≡ length b → ((i : ℕ) → 1 ≤ i → i ≤ length a → at a i ≡ at b i) → a ≡ b
ext_at a b len h = ext_get_or 0 a b len (λ i l. h (suc i) (omega arith) l)

pub each_cong : (n : ℕ) (f g : ℕ → ℕ) → ((i : ℕ) → 1 ≤ i → i ≤ n → f i ≡ g i) → each n f ≡ each n g
each_cong n f g h =
    ext_at (each n f) (each n g) (length-each n f ∙ sym (length-each n g)) (λ i low high.
    let high' : i ≤ n = omega (arith, length-each n f) in
    at_each n f i low high' ∙ h i low high' ∙ sym (at_each n g i low high'))

pub each_at : (n : ℕ) (l : List ℕ) → length l ≡ n → each n (at l) ≡ l
each_at n l len =
    ext_at (each n (at l)) l (length-each n (at l) ∙ sym len) (λ i low high. at_each n (at l) i low (omega (arith, length-each n (at l))))

pub at-replicate : (n : ℕ) (v i : ℕ) → 1 ≤ i → i ≤ n → at (replicate n v) i ≡ v
at-replicate n v zero low high = absurd (not-suc-le-zero low)
at-replicate n v (suc i) low high = get_or-replicate n i v 0 high

-- ---- what holds of each number from 1 to n

-- every number from s on passes
pub all_from : (p : ℕ → Bool) (s k : ℕ) → T (all p (from s k)) → (i : ℕ) → s ≤ i → i < s + k → T (p i)
all_from p s zero t i low high = absurd (omega arith)
all_from p s (suc k) t i low high =
    ⊎_elim (λ e. rw (← e) (and_left (p s) (all p (from (suc s) k)) t))
    (λ l. all_from p (suc s) k (and_right (p s) (all p (from (suc s) k)) t) i l (omega arith))
    (eq-or-lt_of_le low)

-- and they do where each of them does
pub from_all : (p : ℕ → Bool) (s k : ℕ) → ((i : ℕ) → s ≤ i → i < s + k → T (p i)) → T (all p (from s k))
from_all p s zero h = tt
from_all p s (suc k) h =
    and_T (p s) (all p (from (suc s) k)) (h s (omega arith) (omega arith)) (from_all p (suc s) k (λ i low high. h i (omega arith) (omega arith)))

module _ (p : ℕ → Bool) (n : ℕ) where
  pub all-numbers : T (all p (numbers n)) → (i : ℕ) → 1 ≤ i → i ≤ n → T (p i)
  all-numbers t i low high = all_from p 1 n t i low (omega arith)

  pub numbers-all : ((i : ℕ) → 1 ≤ i → i ≤ n → T (p i)) → T (all p (numbers n))
  numbers-all h = from_all p 1 n (λ i low high. h i low (omega arith))

-- ---- counts and sums over 1 to n go by what stands at each number

-- the same of any values from s on
pub map-from_cong : {A : Type 0} (f g : ℕ → A) (s k : ℕ) → ((i : ℕ) → s ≤ i → i < s + k → f i ≡ g i) → map f (from s k) ≡ map g (from s k)
map-from_cong f g s zero h = refl
map-from_cong f g s (suc k) h =
    let e : f s ≡ g s = h s (omega arith) (omega arith) in
    rw (e, map-from_cong f g (suc s) k (λ i low high. h i (omega arith) (omega arith)))

count_map : (p : ℕ → Bool) (l : List ℕ) → count p l ≡ count (λ b. b) (map p l)
count_map p [] = refl
count_map p (x ∷ xs) = rw (count_map p xs)

pub count_cong : (n : ℕ) (p q : ℕ → Bool) → ((i : ℕ) → 1 ≤ i → i ≤ n → p i ≡ q i) → count p (numbers n) ≡ count q (numbers n)
count_cong n p q h =
    count_map p (numbers n)
    ∙ ap (count (λ b. b)) (map-from_cong p q 1 n (λ i low high. h i low (omega arith)))
    ∙ sym (count_map q (numbers n))

one_more : (b : Bool) {a k : ℕ} → a ≤ k → cond b 1 0 + a ≤ suc k
one_more true h = omega arith
one_more false h = omega arith

pub count-le : {A : Type 0} (p : A → Bool) (l : List A) → count p l ≤ length l
count-le p [] = zero-le
count-le p (x ∷ xs) = one_more (p x) (count-le p xs)
