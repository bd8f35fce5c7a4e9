-- Tests that are passed exactly where something holds.
use Prim.Native.Nat.{ℕ, zero, suc, ◌≤◌}
use mathlib.Core.Path.{◌≡◌, refl}
use mathlib.Core.Bool.{Bool, true, false, cond, not, ◌&&◌, ◌||◌}
use mathlib.Core.Logic.{◌↔◌, ◌⊎◌, inl, inr, ⊎_elim}
use native.Mathlib.Omega.{arith}
use lib.Dec.{T, T_not, not_T, eqb, eqb→eq, ltb, nltb→le}
use lib.Arith.{le→nltb}
use Rattle.laws.proofs.Tests.{to_T, and_T, and_left, and_right, decide}

-- a number is not 0
pub zero-iff : (x : ℕ) → T (not (eqb x 0)) ↔ (1 ≤ x)
zero-iff zero = (λ t. absurd t, λ l. absurd (omega arith))
zero-iff (suc x) = (λ t. omega arith, λ l. not_T (eqb (suc x) 0) (λ t. omega (arith, eqb→eq (suc x) 0 t)))

-- a number is not below another
pub order-iff : (x y : ℕ) → T (not (ltb x y)) ↔ (y ≤ x)
order-iff x y = (nltb→le x y, le→nltb x y)

-- neither of two tests, and both of two tests
pub nor_iff : {P Q : Type 0} (a b : Bool) → (T (not a) ↔ P) → (T (not b) ↔ Q) → T (not (a || b)) ↔ (P × Q)
nor_iff true b p q = (λ t. absurd t, λ w. p.1 w.0)
nor_iff false b p q = (λ t. (p.0 tt, q.0 t), λ w. q.1 w.1)

pub and_iff : {P Q : Type 0} (a b : Bool) → (T a ↔ P) → (T b ↔ Q) → T (a && b) ↔ (P × Q)
and_iff a b p q = (λ t. (p.0 (and_left a b t), q.0 (and_right a b t)), λ w. and_T a b (p.1 w.0) (q.1 w.1))

module _ {P : Type 0} (t : Bool) (p : T (not t) ↔ P) where
  -- a test that is failed exactly where P holds passes otherwise
  pub otherwise : ¬ P → T t
  otherwise n = ⊎_elim to_T (λ e. absurd (n (p.0 (rw e tt)))) (decide t)

  -- so it decides P
  pub decides : P ⊎ (¬ P)
  decides = ⊎_elim (λ e. inr (λ x. T_not t (p.1 x) (to_T e))) (λ e. inl (p.0 (rw e tt))) (decide t)

-- the way that a test opens
pub cond_true : {A : Type 0} (t : Bool) (x y : A) → T t → cond t x y ≡ x
cond_true true x y p = refl
cond_true false x y p = absurd p

pub cond_false : {A : Type 0} (t : Bool) (x y : A) → T (not t) → cond t x y ≡ y
cond_false true x y p = absurd p
cond_false false x y p = refl
