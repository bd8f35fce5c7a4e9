-- What stands for a number in a place.
use Rattle.std.specs.Prelude.{ℕ, zero, suc, ◌/◌, ◌%◌, ◌<◌, ◌≡◌, List, [], ◌∷◌, ◌++◌}

-- whatever `gives` says of a number below a base is its sign: `sign d` stands for d
abbrev pub Signs : ℕ → (ℕ → ℕ → Type 0) → (ℕ → ℕ) → Type 0
Signs base gives sign = (d r : ℕ) → d < base → gives d r → r ≡ sign d

-- Signs for v in w places to a base, the highest first: in each place one that `gives` says of the number there.
pub data Allowed (base : ℕ) (gives : ℕ → ℕ → Type 0) : ℕ → ℕ → List ℕ → Type 0 where
  none : {v : ℕ} → Allowed base gives zero v []
  more : {w v r : ℕ} {signs : List ℕ} → Allowed base gives w (v / base) signs → gives (v % base) r
      → Allowed base gives (suc w) v (signs ++ (r ∷ []))
