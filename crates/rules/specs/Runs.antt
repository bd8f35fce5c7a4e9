-- Runs of several slots, the lead and the totals, and their frames.
use Rattle.std.specs.Prelude.{ℕ, zero, suc, ◌*◌, List, [], ◌∷◌, ◌++◌, map, length, ℤ, pos, ◌-ℤ◌}
use Rattle.laws.specs.Lists.{sum, at, join}
use Rattle.rules.specs.Rows.{Row}
use Rattle.rules.specs.Tables.{Table, row_of}
use Rattle.rules.specs.Repeat.{repeat_length}
use Rattle.rules.specs.Verdicts.{verdict, verdict_byte, heavy_count}
use Rattle.rules.specs.States.{State}
use Rattle.rules.specs.Slots.{Shown, slot}
use Rattle.rules.specs.Frames as Frames
use Rattle.rules.specs.Frames.{frame}

-- the state after k slots
unfoldable pub after : ℕ → State → State
after zero st = st
after (suc k) st = after k (slot st).next

-- what k slots show
unfoldable pub shows : ℕ → State → List Shown
shows zero st = []
shows (suc k) st = (slot st).shown ∷ shows k (slot st).next

-- done × T - t × C
unfoldable pub lead : State → ℕ → ℤ
lead st i =
    let r : Row = row_of st.table i in
    pos (at st.done i * r.t) -ℤ pos (st.clock * r.c)

-- verdict, number of heavy tasks, H
abbrev pub verdict_numbers : Table → List ℕ
verdict_numbers tbl = verdict_byte (verdict tbl) ∷ heavy_count tbl ∷ repeat_length tbl.rows ∷ []

unfoldable pub verdict_line : Table → List ℕ
verdict_line tbl = frame Frames.verdict (verdict_numbers tbl)

-- the task numbers, highest priority first
unfoldable pub order_line : List ℕ → List ℕ
order_line ranks = frame (Frames.order (length ranks)) ranks

-- slot, the task on core 1 to core m, moves, misses
abbrev pub slot_numbers : Shown → List ℕ
slot_numbers s = s.slot ∷ s.cores ++ (s.moves ∷ s.misses ∷ [])

unfoldable pub slot_line : Shown → List ℕ
slot_line s = frame (Frames.slot (length s.cores)) (slot_numbers s)

-- the frames of k slots, each right after the last
unfoldable pub slot_lines : ℕ → State → List ℕ
slot_lines k st = join (map slot_line (shows k st))

-- total moves, misses and dropped units
abbrev pub totals_numbers : State → List ℕ
totals_numbers st = st.moves ∷ st.misses ∷ sum st.dropped ∷ []

unfoldable pub totals_line : State → List ℕ
totals_line st = frame Frames.totals (totals_numbers st)
