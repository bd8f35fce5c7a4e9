-- What a repeat length that was tested says of the number.
use Rattle.std.proofs.Common.{◌≡◌, refl, ℕ, ◌≤◌, ◌<◌, Bool, true, false, cond, ◌||◌, ltb, arith, Some, None}
use borrow.Author.Tests.{lt-ltb, le-ltb, ltb-true, ltb-false}
use Rattle.laws.proofs.Tests.{never}
use Rattle.rules.specs.Limits.{repeat_max}
use Rattle.rules.specs.Tables.{outside}
use Rattle.rules.specs.Kinds.{repeat_of}
use Rattle.rules.specs.declared.kinds.Repeat.{Repeat}
use Rattle.tables.specs.Repeats.{Reached}

-- a choice that is not the second was the first, and the other way round
chosen : {A : Type 0} (b : Bool) (x y z : A) → cond b x y ≡ z → ¬ (y ≡ z) → b ≡ true
chosen true x y z e n = refl
chosen false x y z e n = absurd (n e)

passed : {A : Type 0} (b : Bool) (x y z : A) → cond b x y ≡ z → ¬ (x ≡ z) → (b ≡ false) × (y ≡ z)
passed true x y z e n = absurd (n e)
passed false x y z e n = (refl, e)

-- a positive number is a repeat length up to the bound
pub repeat_within : (h : ℕ) → 0 < h → h ≤ repeat_max → repeat_of h ≡ Some (record { 0 = h })
repeat_within h low high = rw (le-ltb h 1 low, le-ltb repeat_max h high)

-- and none past it
pub repeat_above : (h : ℕ) → repeat_max < h → repeat_of h ≡ None
repeat_above h high = rw (le-ltb h 1 (omega arith), lt-ltb repeat_max h high)

neither : (a b : Bool) → a || b ≡ false → (a ≡ false) × (b ≡ false)
neither true b e = (e, let z : ◌≡◌ {A = Bool} true false = e in cc)
neither false b e = (refl, e)

-- what an answer says: H is within its bounds
pub repeat-taken : (h : ℕ) (x : Repeat) → repeat_of h ≡ Some x → Reached x × (record { 0 = h } ≡ x)
repeat-taken h x e =
    let p = passed (outside h 1 repeat_max) _ _ _ e (λ q. never cc) in
    let w = p.1 in
    let same : record { 0 = h } ≡ x = cc in
    let in_bounds = neither (ltb h 1) (ltb repeat_max h) p.0 in
    (rw (← same) (record { positive = ltb-false h 1 in_bounds.0; bounded = ltb-false repeat_max h in_bounds.1 }), same)

-- or above its bound
pub repeat-refused : (h : ℕ) → 0 < h → repeat_of h ≡ None → repeat_max < h
repeat-refused h low e =
    let p = chosen (outside h 1 repeat_max) _ _ _ e (λ q. never cc) in
    ltb-true repeat_max h (rw (le-ltb h 1 low) at p)
