-- A text that begins with a frame.
use Rattle.std.specs.Prelude.{ℕ, ◌<◌, ◌^◌, ◌≡◌, List, [], ◌∷◌, ◌++◌}
use Rattle.rules.specs.Frames.{Shape, frame}

-- as many numbers as fields, each below 16 to the width of its field
abbrev pub Fits : List ℕ → List ℕ → Type 0
Fits [] [] = Unit {0}
Fits [] (v ∷ vs) = ⊥
Fits (w ∷ ws) [] = ⊥
Fits (w ∷ ws) (v ∷ vs) = (v < 16 ^ w) × Fits ws vs

-- a frame of the shape, with numbers that fit its fields, and then any bytes
pub record Begins (sh : Shape) (s : List ℕ) : Type 0 where
  pub numbers : List ℕ
  pub rest : List ℕ
  pub fits : Fits sh.widths numbers
  pub text : s ≡ frame sh numbers ++ rest
