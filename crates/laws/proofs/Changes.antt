-- One change at a time: a list of which one place is put anew, a line of values of which one is, and a test that changes for
-- one number.
use Prim.Native.Nat.{ℕ, zero, suc, ◌+◌, ◌-◌, ◌≤◌, ◌<◌}
use mathlib.Core.Path.{◌≡◌, refl, sym, ap, ◌∙◌}
use mathlib.Core.Bool.{Bool, true, false, cond}
use mathlib.Core.Logic.{⊎_elim}
use mathlib.Core.List.{List, [], ◌∷◌}
use native.Mathlib.Nat.{le_refl, eq-or-lt_of_le}
use native.Mathlib.Numerals.{add-one}
use native.Mathlib.Omega.{arith}
use borrow.Author.Tests.{ne_eqb, eqb-true, eqb-false}
use lib.Dec.{eqb}
use lib.ListN.{length, get_or, set, length-set}
use lib.Seq.{take-set-le, get_or-set_same}
use Rattle.laws.specs.Lists.{count, numbers, each, position}
use Rattle.laws.proofs.Tests.{decide}
use Rattle.laws.proofs.Each.{length-each, at_each, ext_at, count_cong}
use Rattle.laws.proofs.Filling.{count_next}
use Rattle.laws.proofs.Positions.{count-take, position_first, at_set_same, at_set_other}

-- ---- a list of which one place is put anew

-- any number but the one that stood there and the one put there stands first where it stood
pub position-set : (i x : ℕ) (l : List ℕ) (k : ℕ) → (i ≡ get_or l k 0 → ⊥) → (i ≡ x → ⊥) → position i (set l k x) ≡ position i l
position-set i x [] k old new = refl
position-set i x (y ∷ ys) zero old new = rw (ne_eqb i x new, ne_eqb i y old)
position-set i x (y ∷ ys) (suc k) old new = rw (position-set i x ys k old new)

-- a number that the list did not hold stands where it is put
pub position_put : (x : ℕ) (l : List ℕ) (k : ℕ) → count (eqb x) l ≡ 0 → k < length l → position x (set l k x) ≡ suc k
position_put x l k none more =
    position_first x (set l k x) k (omega (arith, length-set l k x)) (rw (take-set-le k l k x (le_refl k)) (omega (arith, count-take (eqb x) k l)))
    (get_or-set_same l k x 0 more)

-- ---- the value at one number x from 1 to n

module _ (n x : ℕ) (low : 1 ≤ x) (high : x ≤ n) where
  -- a line of values of which that at x is put anew
  pub each_put : (f g : ℕ → ℕ) {v : ℕ} → v ≡ g x → ((i : ℕ) → 1 ≤ i → i ≤ n → (i ≡ x → ⊥) → f i ≡ g i) → set (each n f) (x - 1) v ≡ each n g
  each_put f g {v} ev h =
      let long : length (set (each n f) (x - 1) v) ≡ n = length-set (each n f) (x - 1) v ∙ length-each n f in
      ext_at (set (each n f) (x - 1) v) (each n g) (long ∙ sym (length-each n g)) (λ i l u.
      let u' : i ≤ n = omega arith in
      ⊎_elim
      (λ (e : eqb i x ≡ true). rw (eqb-true i x e) (at_set_same (each n f) x v low (omega (arith, length-each n f)) ∙ ev ∙ sym (at_each n g x low high)))
      (λ (e : eqb i x ≡ false).
      at_set_other (each n f) x v i low (eqb-false i x e) ∙ at_each n f i l u' ∙ h i l u' (eqb-false i x e) ∙ sym (at_each n g i l u'))
      (decide (eqb i x)))

-- a count by tests that differ at x alone, where the first says no
abbrev hit : Bool → ℕ
hit b = cond b 1 0

pub count_put : (n x : ℕ) → 1 ≤ x → x ≤ n → (p q : ℕ → Bool) → p x ≡ false → ((i : ℕ) → 1 ≤ i → i ≤ n → (i ≡ x → ⊥) → p i ≡ q i)
    → count q (numbers n) ≡ count p (numbers n) + cond (q x) 1 0
count_put zero x low high p q e h = absurd (omega arith)
count_put (suc n) x low high p q e h =
    ⊎_elim
    (λ (s : x ≡ suc n).
    omega (arith, next p, next q, count_cong n p q (λ i l u. h i l (omega arith) (λ y. omega arith)), ap (λ (k : ℕ). hit (p k)) s, ap (λ (k : ℕ). hit (q k)) s, ap hit e))
    (λ (l : x < suc n).
    omega (arith, next p, next q, count_put n x low (omega arith) p q e (λ i l u. h i l (omega arith)), ap hit (h (suc n) (omega arith) (omega arith) (λ y. omega arith))))
    (eq-or-lt_of_le high)
  where
    next : (r : ℕ → Bool) → count r (numbers (suc n)) ≡ count r (numbers n) + cond (r (suc n)) 1 0
    next r = rw add-one at (count_next r n)
