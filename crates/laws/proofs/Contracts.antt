-- When a function's contract permits one outcome alone.
use mathlib.Core.Path.{◌≡◌, sym, ◌∙◌}

-- A contract speaks of lifetimes, arguments, the result and the parameters at exit. Whatever those show, `seen`, is the same for
-- any two outcomes that the contract permits for the same arguments.
abbrev pub One : {K : Type 0} {A R E : K → Type 0} {S : Type 0} → ((κs : K) → A κs → R κs → E κs → Type 0) → ((κs : K) → R κs → E κs → S) → Type 0
One {K} {A} {R} {E} post seen = (κs : K) (a : A κs) (x y : R κs) (s t : E κs) → post κs a x s → post κs a y t → seen κs x s ≡ seen κs y t

-- two outcomes that are both the one that is defined
pub both : {A : Type 0} {x y d : A} → x ≡ d → y ≡ d → x ≡ y
both p q = p ∙ sym q
