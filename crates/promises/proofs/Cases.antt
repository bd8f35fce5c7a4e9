-- Frames that are read back from bytes and counted, computed by the definitions: the text of case M, and the first slots of case H.
use Prim.Native.Nat.{ℕ}
use mathlib.Core.Path.{◌≡◌, refl}
use mathlib.Core.List.{List, [], ◌∷◌}
use mathlib.Core.Option.{none}
use Rattle.laws.specs.Digits.{digit_value, value_after, value}
use Rattle.rules.specs.Rows.{due, demand}
use Rattle.rules.specs.Frames as Frames
use Rattle.rules.specs.Frames.{read_field, read_fields, read_end, read_frame}
use Rattle.rules.specs.Counts.{sum_before, work_of, work_of_all, last_core, moved_to, moves_before, short_at, dropped_by, misses_by}
use Rattle.rules.proofs.Cases.{bytes, Case, case, first_failing, table_h, table_m, output_m}
use Rattle.promises.specs.Buffers.{numbers_at, frames_at, moves_of, misses_of, frame_of, placing}
use Rattle.promises.specs.Frames.{totals_of}

-- case M: frames `11` and `12`, six frames `13` from place 24 on, frame `14`
abbrev text_m : List ℕ
text_m = bytes output_m

abbrev frames_m : List (List ℕ)
frames_m = frames_at 2 text_m 24 6

-- case H: three frames `13` behind two bytes that are none of theirs
abbrev frames_h : List (List ℕ)
frames_h = frames_at 2 (bytes "zz130000000001020000\n130000000101020000\n130000000203000001\n") 2 3

abbrev cases : List Case
cases =
    case "M: frame 11" (numbers_at Frames.verdict text_m 0) (0 ∷ 0 ∷ 6 ∷ [])
    ∷ case "M: frame 12" (numbers_at (Frames.order 3) text_m 15) (1 ∷ 2 ∷ 3 ∷ [])
    ∷ case "M: no frame 14 where 11 stands" (numbers_at Frames.totals text_m 0) []
    ∷ case "M: slot 2, its frame" (frame_of frames_m 2) (2 ∷ 1 ∷ 3 ∷ 1 ∷ 0 ∷ [])
    ∷ case "M: slot 2, the tasks on its cores" (placing 2 frames_m 2) (1 ∷ 3 ∷ [])
    ∷ case "M: slot 2, moves and misses" (moves_of 2 (frame_of frames_m 2) ∷ misses_of 2 (frame_of frames_m 2) ∷ []) (1 ∷ 0 ∷ [])
    ∷ case "M: units done" (work_of (placing 2 frames_m) 1 6 ∷ work_of (placing 2 frames_m) 2 6 ∷ work_of (placing 2 frames_m) 3 6 ∷ []) (3 ∷ 2 ∷ 3 ∷ [])
    ∷ case "M: work of tasks 2 and 3 at boundary 4" (work_of_all (placing 2 frames_m) (2 ∷ 3 ∷ []) 4 ∷ []) (5 ∷ [])
    ∷ case "M: totals, counted" (totals_of table_m 6 frames_m) (2 ∷ 0 ∷ 0 ∷ [])
    ∷ case "M: frame 14" (numbers_at Frames.totals text_m 138) (2 ∷ 0 ∷ 0 ∷ [])
    ∷ case "H: slot 2, moves and misses" (moves_of 2 (frame_of frames_h 2) ∷ misses_of 2 (frame_of frames_h 2) ∷ []) (0 ∷ 1 ∷ [])
    ∷ case "H: totals, counted" (totals_of table_h 3 frames_h) (0 ∷ 1 ∷ 1 ∷ [])
    ∷ []

pub all_hold : first_failing cases ≡ none
unfolding digit_value value_after value due demand read_field read_fields read_end read_frame sum_before work_of work_of_all last_core moved_to moves_before short_at dropped_by misses_by numbers_at frames_at
all_hold = refl {a = none}
