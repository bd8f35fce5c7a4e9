-- What placing asks and gives.
use Rattle.std.specs.Prelude.{ℕ, ◌+◌, ◌-◌, ◌≤◌, ◌<◌, ◌≡◌, Bool, cond, not, ◌&&◌, List, ◌++◌, eqb, ltb, length, get_or, drop, set, replicate}
use Rattle.laws.specs.Lists.{filter, count, numbers, each, at, position}
use Rattle.rules.specs.Slots.{keep_cores, fill_cores, place, placed, moved}
use Rattle.engine.specs.Choice.{Named}

-- a choice that can be placed: at most as many tasks as there are cores, none twice, none numbered 0; each has a last core, 0 or
-- one of the cores
pub record Placing (chosen last cores : List ℕ) : Type 0 where
  pub few : length chosen ≤ length cores
  pub once : (i : ℕ) → count (eqb i) chosen ≤ 1
  pub real : count (eqb 0) chosen ≡ 0
  pub named : Named (length last) chosen
  pub lasts : (j : ℕ) → j < length last → get_or last j 0 ≤ length cores
  pub small : length cores ≤ 32

-- no core holds a task
abbrev pub Idle : List ℕ → Type 0
Idle cores = cores ≡ replicate (length cores) 0

-- the cores are idle, and there is a place for each of the others
pub record Keeping (chosen last cores others : List ℕ) : Type 0 where
  pub placing : Placing chosen last cores
  pub idle : Idle cores
  pub room : length chosen ≤ length others

-- the chosen tasks that no core holds
abbrev pub unplaced : List ℕ → List ℕ → List ℕ
unplaced cores chosen = filter (λ i. not (placed cores i)) chosen

-- who could keep its core has it; the first n entries are the others, and those after them are as they were
pub record Kept (chosen last cores others cores' others' : List ℕ) (n : ℕ) : Type 0 where
  pub kept : cores' ≡ keep_cores last chosen cores
  pub number : n ≡ length (unplaced cores' chosen)
  pub entries : others' ≡ unplaced cores' chosen ++ drop n others

-- the task moves to the core: it last ran on another one
abbrev pub moves_to : ℕ → ℕ → Bool
moves_to core last = ltb 0 last && not (eqb core last)

-- task i's last core is the one it takes, and its move is counted
pub record Remembered (i core : ℕ) (last last' : List ℕ) (moves : ℕ) : Type 0 where
  pub lasts : last' ≡ set last (i - 1) core
  pub number : moves ≡ cond (moves_to core (at last i)) 1 0

-- each task that a core holds has that core as its last, the others have theirs as it was, and each move is counted
pub record Seated (cores last last' : List ℕ) (moves : ℕ) : Type 0 where
  pub lasts : last' ≡ each (length last) (λ i. cond (placed cores i) (position i cores) (at last i))
  pub number : moves ≡ count (moved last cores) (numbers (length last))

-- the others are tasks that no core holds, none twice; there is a free core for each; whoever has a core already kept its last
pub record Filling (others last cores : List ℕ) : Type 0 where
  pub room : length others ≤ count (eqb 0) cores
  pub named : Named (length last) others
  pub once : (i : ℕ) → 1 ≤ i → count (eqb i) cores + count (eqb i) others ≤ 1
  pub small : length cores ≤ 32
  pub kept : Seated cores last last 0

pub record Filled (others last cores last' cores' : List ℕ) (moves : ℕ) : Type 0 where
  pub filled : cores' ≡ fill_cores others cores
  pub seated : Seated cores' last last' moves

pub record Placed (chosen last cores last' cores' : List ℕ) (moves : ℕ) : Type 0 where
  pub placing : cores' ≡ place (length cores) last chosen
  pub seated : Seated cores' last last' moves
