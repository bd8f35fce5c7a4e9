-- What was found by steps that may find nothing, and by which of two ways.
use mathlib.Core.Path.{◌≡◌, refl}
use mathlib.Core.Bool.{Bool, true, false, cond, not}
use mathlib.Core.Logic.{◌⊎◌, inl, inr}
use mathlib.Core.Option.{Option, none, some, none-ne-some}
use lib.Dec.{T}
use Rattle.laws.specs.Options.{then}

-- what was found in the end was made of something found first
pub then_some : {A B : Type 0} (x : Option A) {f : A → Option B} {b : B} → then x f ≡ some b → (a : A) × (x ≡ some a) × (f a ≡ some b)
then_some none e = absurd (none-ne-some _ e)
then_some (some a) e = (a, refl, e)

-- what was found under a test was found by the way that the test opens
pub cond_some : {A : Type 0} (t : Bool) {x y : Option A} {a : A} → cond t x y ≡ some a → (T t × (x ≡ some a)) ⊎ (T (not t) × (y ≡ some a))
cond_some true e = inl (tt, e)
cond_some false e = inr (tt, e)

-- where only one way finds anything, the test was passed
pub guard_some : {A : Type 0} (t : Bool) {x : Option A} {a : A} → cond t x none ≡ some a → T t × (x ≡ some a)
guard_some true e = (tt, e)
guard_some false e = absurd (none-ne-some _ e)
