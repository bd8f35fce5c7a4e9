-- What a file holds, for each answer to it. Lines are counted from 1. Each case says that all before its line was fine, so that
-- its test is the first, in the order of reading, whose condition holds.
use Rattle.std.specs.Prelude.{ℕ, ◌+◌, ◌≤◌, ◌<◌, ◌≡◌, List, [], ◌∷◌, ◌++◌, map, length}
use Rattle.laws.specs.Lists.{join}
use Rattle.rules.specs.Limits.{cores_min, cores_max, tasks_min, tasks_max, repeat_max}
use Rattle.rules.specs.Refusals.{Answer, taken, refused}
use Rattle.rules.specs.Rows.{Row}
use Rattle.rules.specs.Repeat.{repeat_length}
use Rattle.rules.specs.Tables.{Table, size}
use Rattle.rules.specs.Frames.{header, row}
use Rattle.rules.specs.Files.{header_line, row_line}
use Rattle.rules.specs.declared.refusal.Refusal.TheVariants.{BadLine, BadCores, BadTasks, BadRow, BadRepeat, Trailing}
use Rattle.reading_laws.specs.Frames.{Fits, Begins}
use Rattle.reading_laws.specs.Bounds.{Within, RowInBounds, Every}

-- line 1 is a header with m and n; `rest` follows it
pub record Headed (s : List ℕ) (m n : ℕ) (rest : List ℕ) : Type 0 where
  pub fits : Fits header.widths (m ∷ n ∷ [])
  pub text : s ≡ header_line m n ++ rest

-- line 1 is a header with m and n in their bounds, the lines after it are these rows, each in its bounds; `rest` follows them
pub record Begun (s : List ℕ) (m n : ℕ) (rows : List Row) (rest : List ℕ) : Type 0 where
  pub cores : Within cores_min cores_max m
  pub tasks : Within tasks_min tasks_max n
  pub fine : Every RowInBounds rows
  pub text : s ≡ header_line m n ++ join (map row_line rows) ++ rest

-- `Reads s a`: the file s gets the answer a
pub data Reads (s : List ℕ) : Answer Table → Type 0 where
  -- 1: line 1 is no header
  no_header : ¬ Begins header s → Reads s (refused BadLine 1)
  -- 2: line 1 is a header, and m is outside its bounds
  bad_cores : {m n : ℕ} {rest : List ℕ}
      → Headed s m n rest
      → ¬ Within cores_min cores_max m
      → Reads s (refused BadCores 1)
  -- 3: m is in its bounds, and n is not
  bad_tasks : {m n : ℕ} {rest : List ℕ}
      → Headed s m n rest
      → Within cores_min cores_max m
      → ¬ Within tasks_min tasks_max n
      → Reads s (refused BadTasks 1)
  -- 1: after fewer than n rows no row follows
  no_row : {m n : ℕ} {rows : List Row} {rest : List ℕ}
      → Begun s m n rows rest
      → length rows < n
      → ¬ Begins row rest
      → Reads s (refused BadLine (length rows + 2))
  -- 4: after fewer than n rows a row follows, and it is outside its bounds
  bad_row : {m n : ℕ} {rows : List Row} (r : Row) (rest : List ℕ)
      → Begun s m n rows (row_line r ++ rest)
      → length rows < n
      → Fits row.widths (r.c ∷ r.t ∷ [])
      → ¬ RowInBounds r
      → Reads s (refused BadRow (length rows + 2))
  -- 6: after n rows bytes follow
  trailing : (tbl : Table) {b : ℕ} {bs : List ℕ}
      → Begun s tbl.m (size tbl) tbl.rows (b ∷ bs)
      → Reads s (refused Trailing (size tbl + 2))
  -- 5: after n rows nothing follows, and H is above its bound
  bad_repeat : (tbl : Table)
      → Begun s tbl.m (size tbl) tbl.rows []
      → repeat_max < repeat_length tbl.rows
      → Reads s (refused BadRepeat 0)
  -- after n rows nothing follows, and H is in its bound
  accepted : (tbl : Table)
      → Begun s tbl.m (size tbl) tbl.rows []
      → repeat_length tbl.rows ≤ repeat_max
      → Reads s (taken tbl)
