-- What is asked of the library, with its refusals in their order. Output goes into a lent buffer from a place on; a refusal
-- leaves the buffer and the state as they were.
use Rattle.std.specs.Prelude.{ℕ, ◌+◌, not, List, [], ◌∷◌, ◌++◌, ltb, length, take, drop, ℤ}
use Rattle.rules.specs.Limits.{clock_max}
use Rattle.rules.specs.Refusals.{Test, test, Answer, settle}
use Rattle.rules.specs.Rows.{Row}
use Rattle.rules.specs.Tables.{size, outside, list_tests}
use Rattle.rules.specs.Files.{text}
use Rattle.rules.specs.States.{State}
use Rattle.rules.specs.Forms.{well_formed}
use Rattle.rules.specs.Runs.{after, slot_lines, totals_line, lead}
use Rattle.rules.specs.declared.refusal.Refusal.TheVariants.{BadTasks, NoRoom, PastClock, BadState}

-- a buffer with a text laid into it from a place on
unfoldable pub lay : List ℕ → ℕ → List ℕ → List ℕ
lay out place txt = take place out ++ txt ++ drop (place + length txt) out

-- the part of the buffer from the place on is too short for so many bytes, or the place lies past the buffer's end
unfoldable pub room_test : List ℕ → ℕ → ℕ → Test
room_test out place bytes = test (ltb (length out) (place + bytes)) NoRoom

unfoldable pub state_test : State → Test
state_test st = test (not (well_formed st)) BadState

-- the buffer after a list of rows was written out as a file: 2, 3, 4, 5, then 7
unfoldable pub write_list : ℕ → List Row → List ℕ → ℕ → Answer (List ℕ)
write_list m rows out place =
    let file : List ℕ = text (record { m = m; rows = rows }) in
    settle (list_tests m rows ++ (room_test out place (length file) ∷ [])) (lay out place file)

-- the state and the buffer after a run
pub record Ran : Type 0 where
  pub state : State
  pub out : List ℕ

-- stepping or running a count of slots: 9, 8, then 7, all tested before the first slot
unfoldable pub run_slots : State → ℕ → List ℕ → ℕ → Answer Ran
run_slots st k out place =
    settle (state_test st ∷ test (ltb clock_max (st.clock + k)) PastClock ∷ room_test out place (length (slot_lines k st)) ∷ [])
    (record { state = after k st; out = lay out place (slot_lines k st) })

-- the totals: 9, then 7
unfoldable pub write_totals : State → List ℕ → ℕ → Answer (List ℕ)
write_totals st out place =
    settle (state_test st ∷ room_test out place (length (totals_line st)) ∷ []) (lay out place (totals_line st))

-- a task's lead: 9, then 3
unfoldable pub ask_lead : State → ℕ → Answer ℤ
ask_lead st i = settle (state_test st ∷ test (outside i 1 (size st.table)) BadTasks ∷ []) (lead st i)
