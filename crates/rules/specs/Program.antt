-- The program's whole text for its input.
use Rattle.std.specs.Prelude.{ℕ, min, List, [], ◌∷◌, ◌++◌, take}
use Rattle.rules.specs.Limits.{input_max, slots_max}
use Rattle.rules.specs.Refusals.{Answer, taken, refused, number_of}
use Rattle.rules.specs.Repeat.{repeat_length}
use Rattle.rules.specs.Tables.{Table}
use Rattle.rules.specs.Verdicts.{order}
use Rattle.rules.specs.Frames.{refusal, frame}
use Rattle.rules.specs.Files.{read_file}
use Rattle.rules.specs.States.{fresh}
use Rattle.rules.specs.Runs.{after, verdict_line, order_line, slot_lines, totals_line}

-- for a table: `11`, `12`, one `13` a slot for the smaller of H and 4,096 slots, `14`
unfoldable pub report : Table → List ℕ
report tbl =
    let k : ℕ = min (repeat_length tbl.rows) slots_max in
    verdict_line tbl ++ order_line (order tbl) ++ slot_lines k (fresh tbl) ++ totals_line (after k (fresh tbl))

-- for a table that is refused, the one line `1f`, refusal, line
unfoldable pub reply : Answer Table → List ℕ
reply (taken tbl) = report tbl
reply (refused r l) = frame refusal (number_of r ∷ l ∷ [])

-- longer input gets the answer of its start
unfoldable pub program : List ℕ → List ℕ
program input = reply (read_file (take input_max input))
