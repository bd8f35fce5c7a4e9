-- Frames of two numbers in fields of one width.
use Rattle.std.specs.Prelude.{ℕ, ◌+◌, List, [], ◌∷◌}
use Rattle.laws.specs.Lists.{at}
use Rattle.rules.specs.Frames.{Shape, Read}

-- a type, and two fields of one width
abbrev pub pair_shape : ℕ → ℕ → Shape
pair_shape kind width = record { type = kind; widths = width ∷ width ∷ [] }

-- the length of its line, with the line feed
abbrev pub pair_bytes : ℕ → ℕ
pair_bytes width = 2 + width + width + 1

-- the two numbers that were read
abbrev pub two_of : Read (List ℕ) → ℕ × ℕ
two_of a = (at a.got 1, at a.got 2)
