-- A frame from its type and its fields: of each its width and its number.
use Rattle.std.specs.Prelude.{ℕ, ◌+◌, List, map}
use Rattle.laws.specs.Lists.{sum}
use Rattle.rules.specs.Frames.{frame}

abbrev pub fields_frame : ℕ → List (ℕ × ℕ) → List ℕ
fields_frame type fs = frame (record { type = type; widths = map (λ f. f.0) fs }) (map (λ f. f.1) fs)

-- the length of its line, with the line feed
abbrev pub fields_bytes : List (ℕ × ℕ) → ℕ
fields_bytes fs = 2 + sum (map (λ f. f.0) fs) + 1
