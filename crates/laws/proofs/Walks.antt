-- Sums along a list.
use Prim.Native.Nat.{ℕ, suc, ◌*◌, ◌≤◌, ◌<◌, zero-le}
use mathlib.Core.List.{List, [], ◌∷◌}
use native.Mathlib.Omega.{arith}
use lib.ListN.{length, get_or}
use Rattle.laws.specs.Lists.{sum}

-- a sum of entries that are at most k
pub sum-most : (l : List ℕ) (k : ℕ) → ((i : ℕ) → i < length l → get_or l i 0 ≤ k) → sum l ≤ length l * k
sum-most [] k h = zero-le
sum-most (x ∷ xs) k h =
    let one : x ≤ k = h 0 (omega arith) in
    omega (arith, sum-most xs k (λ i more. h (suc i) (omega arith)))
