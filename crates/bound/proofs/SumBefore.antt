-- Laws of sums of the first terms of a sequence, `sum_before b f` = f 0 + .. + f (b - 1).
use Prim.Native.Nat.{ℕ, zero, suc, ◌+◌, ◌*◌, ◌≤◌, ◌<◌, zero-le}
use mathlib.Core.Path.{◌≡◌, refl, sym}
use mathlib.Core.Logic.{⊎_elim}
use native.Mathlib.Nat.{add-zero, add-suc, mul-zero, le_refl, not-suc-le-zero, le-suc_iff}
use native.Mathlib.Decide.{dec_lt}
use native.Mathlib.Omega.{arith}
use Rattle.rules.specs.Counts.{sum_before}

-- one more term
pub sum-suc : (b : ℕ) (f : ℕ → ℕ) → sum_before (suc b) f ≡ sum_before b f + f b
unfolding sum_before
sum-suc b f = refl

-- the sum of no terms
pub sum-none : (f : ℕ → ℕ) → sum_before 0 f ≡ 0
unfolding sum_before
sum-none f = refl

-- a sum of sums
pub sum-add : (b : ℕ) (f g : ℕ → ℕ) → sum_before b (λ k. f k + g k) ≡ sum_before b f + sum_before b g
unfolding sum_before
sum-add zero f g = refl
sum-add (suc b) f g = omega (arith, sum-add b f g)

-- a common factor
pub sum_scale : (b c : ℕ) (f : ℕ → ℕ) → sum_before b (λ k. c * f k) ≡ c * sum_before b f
unfolding sum_before
sum_scale zero c f = sym (mul-zero c)
sum_scale (suc b) c f = omega (arith, sum_scale b c f)

-- the first h terms and then the j after them
pub sum_split : (h j : ℕ) (f : ℕ → ℕ) → sum_before (h + j) f ≡ sum_before h f + sum_before j (λ i. f (h + i))
unfolding sum_before
sum_split h zero f = rw (add-zero h) (sym (add-zero (sum_before h f)))
sum_split h (suc j) f = rw (add-suc h j) (omega (arith, sum_split h j f))

-- smaller terms have a smaller sum
pub sum-le : (b : ℕ) (f g : ℕ → ℕ) → ((k : ℕ) → k < b → f k ≤ g k) → sum_before b f ≤ sum_before b g
unfolding sum_before
sum-le zero f g h = zero-le
sum-le (suc b) f g h = omega (arith, sum-le b f g (λ k l. h k (omega arith)), h b (le_refl (suc b)))

-- where each term grows from f to g, a longer sum grows by no less than a shorter one
pub sum_gain : (b : ℕ) (f g : ℕ → ℕ) → ((k : ℕ) → f k ≤ g k) → (j : ℕ) → j ≤ b
    → sum_before b f + sum_before j g ≤ sum_before b g + sum_before j f
unfolding sum_before
sum_gain zero f g h zero l = le_refl 0
sum_gain zero f g h (suc j) l = absurd (not-suc-le-zero l)
sum_gain (suc b) f g h j l =
    ⊎_elim (λ k. omega (arith, sum_gain b f g h j k, h b)) (λ e. rw e (omega arith)) (le-suc_iff.0 l)

-- a shorter sum is no greater
pub sum_shorter : (b : ℕ) (f : ℕ → ℕ) (j : ℕ) → j ≤ b → sum_before j f ≤ sum_before b f
unfolding sum_before
sum_shorter zero f zero l = le_refl 0
sum_shorter zero f (suc j) l = absurd (not-suc-le-zero l)
sum_shorter (suc b) f j l = ⊎_elim (λ k. omega (arith, sum_shorter b f j k)) (λ e. rw e (omega arith)) (le-suc_iff.0 l)

-- a smaller sum has a smaller term
pub sum_smaller : (b : ℕ) (f g : ℕ → ℕ) → sum_before b f < sum_before b g → (k : ℕ) × (k < b) × (f k < g k)
unfolding sum_before
sum_smaller zero f g l = absurd (omega arith)
sum_smaller (suc b) f g l =
    elim (dec_lt (f b) (g b)) [
      | yes s ↦ (b, le_refl (suc b), s)
      | no s ↦ let r : (k : ℕ) × (k < b) × (f k < g k) = sum_smaller b f g (omega arith) in (r.0, omega arith, r.2)
    ]

-- a sum of zeros and ones is no greater than their number
pub sum_bits : (b : ℕ) (f : ℕ → ℕ) → ((k : ℕ) → k < b → f k ≤ 1) → sum_before b f ≤ b
unfolding sum_before
sum_bits zero f h = le_refl 0
sum_bits (suc b) f h = omega (arith, sum_bits b f (λ k l. h k (omega arith)), h b (le_refl (suc b)))

-- terms that times q are above d have a sum that times q is above d for each
pub sum_above : (b q d : ℕ) (f : ℕ → ℕ) → ((k : ℕ) → k < b → d < q * f k) → b * suc d ≤ q * sum_before b f
unfolding sum_before
sum_above zero q d f h = omega arith
sum_above (suc b) q d f h = omega (arith, sum_above b q d f (λ k l. h k (omega arith)), h b (le_refl (suc b)))
