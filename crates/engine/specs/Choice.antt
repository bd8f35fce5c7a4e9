-- What choosing asks and gives.
use Rattle.std.specs.Prelude.{ℕ, ◌≤◌, ◌<◌, ◌≡◌, List, length, get_or, take}
use Rattle.rules.specs.Slots.{choose}

-- every entry is a task number from 1 to n
pub record Named (n : ℕ) (l : List ℕ) : Type 0 where
  pub from : (j : ℕ) → j < length l → 1 ≤ get_or l j 0
  pub to : (j : ℕ) → j < length l → get_or l j 0 ≤ n

-- the first k entries are the choice; what stands after them is left open
pub record Chose (ranks left before after : List ℕ) (k : ℕ) : Type 0 where
  pub places : length after ≡ length before
  pub number : k ≡ length (choose (length before) ranks left)
  pub front : take k after ≡ choose (length before) ranks left
