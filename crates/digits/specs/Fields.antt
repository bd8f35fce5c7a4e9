-- What is asked of a stretch of digits.
use Rattle.std.specs.Prelude.{ℕ, ◌+◌, ◌≤◌, List, length}

-- so many digits from a place on lie within the text, and what they stand for fits 64 bits
pub record Within (s : List ℕ) (from width : ℕ) : Type 0 where
  pub narrow : width ≤ 16
  pub inside : from + width ≤ length s
