-- Numbers at places of a byte string.
use Rattle.std.specs.Prelude.{ℕ, ◌+◌, ◌-◌, ◌*◌, ◌^◌, ◌≤◌, ◌<◌, ◌≡◌, List, length, take, drop}
use Rattle.rules.specs.Rows.{Row}
use Rattle.stored.specs.Layout.{value_of}

-- the number that so many bytes from a place on stand for
unfoldable pub number_at : List ℕ → ℕ → ℕ → ℕ
number_at bs from width = value_of (take width (drop from bs))

-- so many bytes from a place on lie within the string, and what they stand for fits 64 bits
pub record Within (bs : List ℕ) (from width : ℕ) : Type 0 where
  pub narrow : width ≤ 8
  pub inside : from + width ≤ length bs

-- what is read there
pub record Read (bs : List ℕ) (from width r : ℕ) : Type 0 where
  pub value : r ≡ number_at bs from width
  pub fits : r < 256 ^ width

-- the row whose bytes begin at a place
abbrev pub row_at : List ℕ → ℕ → Row
row_at bs from = record { c = number_at bs from 4; t = number_at bs (from + 4) 4 }

-- a number of each of n tasks: the place is that of task 1
abbrev pub cell : List ℕ → ℕ → ℕ → ℕ → ℕ
cell bs from width i = number_at bs (from + 34 * (i - 1)) width
