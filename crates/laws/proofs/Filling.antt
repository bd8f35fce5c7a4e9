-- A walk over a list from its front that puts f k at each position k, counted from 1: what the list is after i steps. A list
-- that is written from its front.
use Prim.Native.Nat.{ℕ, zero, suc, ◌+◌, ◌-◌, ◌≤◌, ◌<◌}
use mathlib.Core.Path.{◌≡◌, sym, ap, ap₂, ◌∙◌}
use mathlib.Core.Bool.{Bool, cond}
use mathlib.Core.List.{List, [], ◌∷◌, ◌++◌, map, append-nil, append_assoc}
use native.Mathlib.Nat.{add-zero, add-suc, suc-add, not-suc-le-zero}
use native.Mathlib.Numerals.{add-one, sub-one}
use native.Mathlib.Omega.{arith}
use lib.ListN.{length, get_or, take, drop, set, take-append-drop}
use lib.Seq.{drop-cons, drop-length, drop-drop, drop-set-lt, append_snoc, take-suc-set, length-take-le, set_at, take_at, get_or_at}
use Rattle.laws.specs.Lists.{count, from, numbers, each, at}
use Rattle.laws.proofs.Each.{length-each}

-- one number more
from_snoc : {A : Type 0} (f : ℕ → A) (s k : ℕ) → map f (from s (suc k)) ≡ map f (from s k) ++ (f (s + k) ∷ [])
from_snoc f s zero = rw add-zero
from_snoc f s (suc k) = ap (λ (l : List _). f s ∷ l) (from_snoc f (suc s) k ∙ rw (suc-add, ← add-suc s k))

pub numbers_more : {A : Type 0} (f : ℕ → A) (i : ℕ) → map f (numbers (i + 1)) ≡ map f (numbers i) ++ (f (i + 1) ∷ [])
numbers_more f i =
    ap (λ (k : ℕ). map f (numbers k)) (add-one i) ∙ from_snoc f 1 i ∙ ap (λ (k : ℕ). map f (numbers i) ++ (f k ∷ [])) (omega arith)

-- after i steps
abbrev pub filled : (ℕ → ℕ) → List ℕ → ℕ → List ℕ
filled f l i = each i f ++ drop i l

module _ (f : ℕ → ℕ) (l : List ℕ) where
  step : (i : ℕ) → i < length l → filled f l i ≡ each i f ++ (get_or l i 0 ∷ drop (suc i) l)
  step i h = rw (drop-cons l i 0 h)

  next : (i : ℕ) → filled f l (i + 1) ≡ each i f ++ (f (i + 1) ∷ drop (suc i) l)
  next i =
      ap (λ (x : List ℕ). x ++ drop (i + 1) l) (numbers_more f i)
      ∙ append_snoc (each i f) (f (i + 1)) (drop (i + 1) l)
      ∙ ap (λ (k : ℕ). each i f ++ (f (i + 1) ∷ drop k l)) (add-one i)

  -- one step that puts the next value
  pub filled_put : (i : ℕ) → i < length l → set (filled f l i) i (f (i + 1)) ≡ filled f l (i + 1)
  filled_put i h =
      ap (λ (x : List ℕ). set x i (f (i + 1))) (step i h)
      ∙ set_at (each i f) (get_or l i 0) (drop (suc i) l) (f (i + 1)) i (length-each i f)
      ∙ sym (next i)

  -- the same of a list that a loop holds
  pub filled_turn : (i : ℕ) {cur : List ℕ} {v : ℕ} → i < length l → cur ≡ filled f l i → v ≡ f (i + 1) → set cur i v ≡ filled f l (i + 1)
  filled_turn i h e ev = rw (e, ev) (filled_put i h)

  -- the end of the walk
  pub filled_end : (i : ℕ) → i ≡ length l → filled f l i ≡ each (length l) f
  filled_end i e = rw (e, drop-length, append-nil)

  -- what stands at the next position is as it was
  pub filled-here : (i : ℕ) → i < length l → get_or (filled f l i) i 0 ≡ get_or l i 0
  filled-here i h = ap (λ (x : List ℕ). get_or x i 0) (step i h) ∙ get_or_at (each i f) (get_or l i 0) (drop (suc i) l) 0 i (length-each i f)

-- ---- a list that is written from its front, one place after the other: what was written, and what follows as it was

module _ (l : List ℕ) (n : ℕ) where
  -- one place more is written: what was written stands before what is still to come
  pub written_next : (v : ℕ) (rest : List ℕ) → n < length l → take (n + 1) (set l n v) ++ rest ≡ take n l ++ v ∷ rest
  written_next v rest h =
      ap (λ (x : List ℕ). x ++ rest) (ap (λ (k : ℕ). take k (set l n v)) (add-one n) ∙ take-suc-set l n v h) ∙ append_snoc (take n l) v rest

  -- what follows it is as it was
  pub written-rest : (v : ℕ) (before : List ℕ) → drop n l ≡ drop n before → drop (n + 1) (set l n v) ≡ drop (n + 1) before
  written-rest v before e = drop-set-lt (n + 1) l n v (omega arith) ∙ sym (drop-drop 1 n l) ∙ ap (drop 1) e ∙ drop-drop 1 n before

  -- all is written: so many places
  pub written-number : {all : List ℕ} → n ≤ length l → take n l ≡ all → n ≡ length all
  written-number h e = sym (length-take-le n l h) ∙ ap length e

  -- it, and what follows as it was, are the list
  pub written_list_lem : {all : List ℕ} (before : List ℕ) → take n l ≡ all → drop n l ≡ drop n before → l ≡ all ++ drop n before
  written_list_lem before e f = sym (take-append-drop n l) ∙ ap₂ ◌++◌ e f

-- a list that begins with k entries: these are its first k, whatever follows it
module _ (xs tail : List ℕ) {l : List ℕ} {k : ℕ} (number : k ≡ length xs) (entries : l ≡ xs ++ tail) (rest : List ℕ) where
  pub front-taken : take k (l ++ rest) ≡ xs
  front-taken = rw (entries, append_assoc) (take_at xs (tail ++ rest) k (sym number))

-- positions counted from 1 and from 0
pub at_next : (l : List ℕ) (i : ℕ) → at l (i + 1) ≡ get_or l i 0
at_next l i = rw add-one

pub at_pred : (l : List ℕ) (i : ℕ) → 1 ≤ i → at l i ≡ get_or l (i - 1) 0
at_pred l zero h = absurd (not-suc-le-zero h)
at_pred l (suc i) h = rw (sub-one)

-- a count over one number more
abbrev one : Bool → ℕ
one b = cond b 1 0

count-from : (p : ℕ → Bool) (s k : ℕ) → count p (from s (suc k)) ≡ count p (from s k) + cond (p (s + k)) 1 0
count-from p s zero = omega (arith, ap (λ (n : ℕ). one (p n)) (add-zero s))
count-from p s (suc k) = omega (arith, count-from p (suc s) k, ap (λ (n : ℕ). one (p n)) (suc-add s k ∙ sym (add-suc s k)))

pub count_next : (p : ℕ → Bool) (i : ℕ) → count p (numbers (i + 1)) ≡ count p (numbers i) + cond (p (i + 1)) 1 0
count_next p i = ap (λ (n : ℕ). count p (numbers n)) (add-one i) ∙ count-from p 1 i ∙ ap (λ (n : ℕ). count p (numbers i) + one (p n)) (omega arith)
