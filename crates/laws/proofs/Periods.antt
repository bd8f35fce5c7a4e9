-- Numbers counted in periods of t: the last multiple of t up to a number, and what one step on does to it.
use Prim.Native.Nat.{ℕ, zero, suc, ◌+◌, ◌-◌, ◌%◌, ◌≤◌, ◌<◌}
use mathlib.Core.Path.{◌≡◌, sym, ap, ◌∙◌}
use mathlib.Core.Bool.{cond}
use mathlib.Core.Logic.{◌⊎◌, inl, inr, ⊎_elim}
use native.Mathlib.Nat.{suc-mod, mod-lt, mod-le, mod-zero, mod_self, mod-eq_of_lt, eq-or-lt_of_le}
use native.Mathlib.Omega.{arith}
use borrow.Author.Tests.{eq-eqb, ne_eqb}
use lib.Dec.{eqb}

-- the last multiple of t up to x
abbrev pub since : ℕ → ℕ → ℕ
since t x = x - x % t

-- a period ends with the step to suc x: that is a multiple of t, and the one before lies a whole period back
pub record Ends (t x : ℕ) : Type 0 where
  pub whole : suc x % t ≡ 0
  pub back : suc x - t ≡ since t x

-- the period goes on
pub record GoesOn (t x : ℕ) : Type 0 where
  pub part : suc x % t ≡ suc (x % t)
  pub same : since t (suc x) ≡ since t x

goes_on : (t x : ℕ) → suc x % t ≡ suc (x % t) → GoesOn t x
goes_on t x e = record { part = e; same = omega (arith, mod-le x t) }

-- one step on: a period ends or goes on
pub tick : (t x : ℕ) → Ends t x ⊎ GoesOn t x
tick zero x = inr (goes_on 0 x (mod-zero (suc x) ∙ ap suc (sym (mod-zero x))))
tick (suc t) x =
    ⊎_elim (λ e. inl (record { whole = suc-mod x (suc t) ∙ ap (λ (r : ℕ). r % suc t) e ∙ mod_self (suc t); back = omega arith }))
    (λ l. inr (goes_on (suc t) x (suc-mod x (suc t) ∙ mod-eq_of_lt l)))
    (eq-or-lt_of_le (mod-lt x (omega arith)))

-- what is left over of the next number: one more, and none where that makes a whole period
pub mod-next : (t x : ℕ) → 1 ≤ t → suc x % t ≡ cond (eqb (x % t + 1) t) 0 (x % t + 1)
mod-next t x pos =
    ⊎_elim
    (λ (e : suc (x % t) ≡ t).
    suc-mod x t ∙ ap (λ (r : ℕ). r % t) e ∙ mod_self t ∙ rw (eq-eqb (x % t + 1) t (omega arith)))
    (λ (l : suc (x % t) < t). suc-mod x t ∙ mod-eq_of_lt l ∙ rw (ne_eqb (x % t + 1) t (λ q. omega arith)) (omega arith))
    (eq-or-lt_of_le (mod-lt x pos))
