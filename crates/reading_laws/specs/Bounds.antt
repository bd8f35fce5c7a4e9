-- Numbers, rows and tables in their bounds.
use Rattle.std.specs.Prelude.{ℕ, ◌≤◌, List, [], ◌∷◌}
use Rattle.rules.specs.Limits.{cores_min, cores_max, tasks_min, tasks_max, period_max, repeat_max}
use Rattle.rules.specs.Rows.{Row}
use Rattle.rules.specs.Repeat.{repeat_length}
use Rattle.rules.specs.Tables.{Table, size}

-- low ≤ x ≤ high
pub record Within (low high x : ℕ) : Type 0 where
  pub least : low ≤ x
  pub most : x ≤ high

-- 1 ≤ C ≤ T ≤ 65,535
pub record RowInBounds (r : Row) : Type 0 where
  pub works : 1 ≤ r.c
  pub fits : r.c ≤ r.t
  pub period : r.t ≤ period_max

-- it holds of every element of a list
abbrev pub Every : {A : Type 0} → (A → Type 0) → List A → Type 0
Every P [] = Unit {0}
Every P (x ∷ xs) = P x × Every P xs

-- a table that passes 2 to 5
pub record TableInBounds (tbl : Table) : Type 0 where
  pub cores : Within cores_min cores_max tbl.m
  pub tasks : Within tasks_min tasks_max (size tbl)
  pub fine : Every RowInBounds tbl.rows
  pub repeat : repeat_length tbl.rows ≤ repeat_max
