-- Tests that were passed, and what they say.
use Prim.Native.Nat.{ℕ}
use mathlib.Core.Path.{◌≡◌, refl, sym, subst, ◌∙◌}
use mathlib.Core.Bool.{Bool, true, false, cond, ◌&&◌}
use mathlib.Core.List.{List, [], ◌∷◌}
use mathlib.Core.Logic.{◌⊎◌, inl, inr, ⊎_elim}
use native.Mathlib.Omega.{arith}
use borrow.Author.Tests.{eqb-true, eqb-false, eq-eqb, ne_eqb}
use lib.Dec.{T, eqb, eqb→eq, eqb_refl}
use Rattle.laws.specs.Lists.{same}

-- of what cannot be, anything follows: `cc` finds 0 ≡ 1 where two constructors would be equal
pub never : {A : Type 0} → ◌≡◌ {A = ℕ} 0 1 → A
never e = absurd (omega arith)

pub of_T : (b : Bool) → T b → b ≡ true
of_T true t = refl
of_T false t = absurd t

pub to_T : {b : Bool} → b ≡ true → T b
to_T e = subst T (sym e) tt

pub and_T : (a b : Bool) → T a → T b → T (a && b)
and_T true b s t = t
and_T false b s t = s

pub and_left : (a b : Bool) → T (a && b) → T a
and_left true b t = tt
and_left false b t = t

pub and_right : (a b : Bool) → T (a && b) → T b
and_right true b t = t
and_right false b t = absurd t

-- a test either passes or not
pub decide : (b : Bool) → (b ≡ true) ⊎ (b ≡ false)
decide true = inl refl
decide false = inr refl

pub cond_same : {A : Type 0} (b : Bool) (x : A) → cond b x x ≡ x
cond_same true x = refl
cond_same false x = refl

-- two lists that pass for the same are, and a list passes for the same as itself
pub same→eq : (xs ys : List ℕ) → T (same xs ys) → xs ≡ ys
same→eq [] [] t = refl
same→eq [] (y ∷ ys) t = absurd t
same→eq (x ∷ xs) [] t = absurd t
same→eq (x ∷ xs) (y ∷ ys) t =
    let e : x ≡ y = eqb→eq x y (and_left (eqb x y) (same xs ys) t) in
    let es : xs ≡ ys = same→eq xs ys (and_right (eqb x y) (same xs ys) t) in
    rw (e, es)

pub same_refl : (xs : List ℕ) → T (same xs xs)
same_refl [] = tt
same_refl (x ∷ xs) = and_T (eqb x x) (same xs xs) (eqb_refl x) (same_refl xs)

-- which of two numbers stands first does not matter
pub eqb_sym : (x y : ℕ) → eqb x y ≡ eqb y x
eqb_sym x y =
    ⊎_elim (λ e. e ∙ sym (eq-eqb y x (sym (eqb-true x y e))))
    (λ e. e ∙ sym (ne_eqb y x (λ q. eqb-false x y e (sym q))))
    (decide (eqb x y))
