-- Numbers in places to a base.
use Rattle.std.specs.Prelude.{ℕ, zero, suc, ◌/◌, ◌%◌, List, [], ◌∷◌, ◌++◌}

-- v in w places to a base, the highest first: `sign d` stands for d
unfoldable pub places : ℕ → (ℕ → ℕ) → ℕ → ℕ → List ℕ
places base sign zero v = []
places base sign (suc w) v = places base sign w (v / base) ++ (sign (v % base) ∷ [])
