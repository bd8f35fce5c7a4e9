-- What the work of a slot asks and gives: each chosen task does one unit.
use Rattle.std.specs.Prelude.{ℕ, ◌+◌, ◌-◌, ◌^◌, ◌≤◌, ◌<◌, ◌≡◌, List, eqb, length, get_or, set}
use Rattle.laws.specs.Lists.{count, each, at}
use Rattle.engine.specs.Choice.{Named}

-- One task. It has a unit left, and room for one more done.
pub record Waiting (i : ℕ) (left done : List ℕ) : Type 0 where
  pub low : 1 ≤ i
  pub high : i ≤ length left
  pub done_size : length done ≡ length left
  pub one_left : 1 ≤ get_or left (i - 1) 0
  pub fits : get_or done (i - 1) 0 + 1 < 2 ^ 32

pub record Served (i : ℕ) (left done left' done' : List ℕ) : Type 0 where
  pub lefts : left' ≡ set left (i - 1) (get_or left (i - 1) 0 - 1)
  pub dones : done' ≡ set done (i - 1) (get_or done (i - 1) 0 + 1)

-- All chosen tasks.
pub record Working (chosen left done : List ℕ) : Type 0 where
  pub done_size : length done ≡ length left
  pub named : Named (length left) chosen
  pub pending : (i : ℕ) → 1 ≤ i → i ≤ length left → count (eqb i) chosen ≤ at left i
  pub fits : (i : ℕ) → 1 ≤ i → i ≤ length left → at done i + count (eqb i) chosen < 2 ^ 32

pub record Worked (chosen left done left' done' : List ℕ) : Type 0 where
  pub lefts : left' ≡ each (length left) (λ i. at left i - count (eqb i) chosen)
  pub dones : done' ≡ each (length left) (λ i. at done i + count (eqb i) chosen)
