-- What the constructors of the kinds share.
use Prim.Native.Nat.{ℕ}
use mathlib.Core.Bool.{Bool}
use mathlib.Core.Path.{◌≡◌, sym, ◌∙◌}
use Rattle.rules.specs.Tables.{outside}

-- In a branch of the code the answer of the test is known, and so it is of the definition's test. The bounds are those of
-- the definition and are named at each use: where the code has another, the two stand side by side in the refusal.
pub known : {answer branch : Bool} (x low high : ℕ) → answer ≡ outside x low high → answer ≡ branch → outside x low high ≡ branch
known x low high tested taken = sym tested ∙ taken
