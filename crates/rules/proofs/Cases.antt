-- The worked cases of the paper, and some that tell a wrong rule from the right one where those do not: one list, computed
-- by the definitions.
use Prim.Native.Nat.{ℕ, suc, ◌*◌}
use Prim.Native.Char.{code}
use Prim.Native.String as Str
use Prim.Native.String.{String}
use mathlib.Core.Bool.{Bool, true, false, cond}
use mathlib.Core.List.{List, [], ◌∷◌, ◌++◌}
use mathlib.Core.Option.{Option, none, some}
use mathlib.Core.Path.{◌≡◌, refl}
use lib.IntN.{ℤ, pos, negsuc}
use Rattle.laws.specs.Lists.{sum, at, same}
use Rattle.laws.specs.Digits.{digit, digit_value, field, value_after, value}
use Rattle.rules.specs.Refusals.{Answer, taken, refused, number_of}
use Rattle.rules.specs.Rows.{Row, releases, due, demand, releases_before, released}
use Rattle.rules.specs.Repeat.{lcm, repeat_length}
use Rattle.rules.specs.Tables.{Table, header_tests, row_tests, whole_tests, list_tests, accepts, take_list}
use Rattle.rules.specs.Frames.{fields, frame, read_field, read_fields, read_end, read_frame}
use Rattle.rules.specs.Files.{header_line, row_line, text, read_header, read_row, read_rows, read_lines, read_file}
use Rattle.rules.specs.Verdicts.{fraction, heavy_at, heavy, light, heavy_count, share, scaled_sum, admitted, verdict, verdict_byte, insert, by_period, order}
use Rattle.rules.specs.States.{State, fresh}
use Rattle.rules.specs.Slots.{Shown, release, choose, free, seat, keep_cores, fill_cores, placed, place, given, moved, missed, effect, slot}
use Rattle.rules.specs.Runs.{after, shows, lead, verdict_line, order_line, slot_line, slot_lines, totals_line}
use Rattle.rules.specs.Forms.{sized, task_formed, well_formed}
use Rattle.rules.specs.Program.{report, reply, program}

abbrev pub row : ℕ → ℕ → Row
row c t = record { c = c; t = t }

abbrev pub table : ℕ → List Row → Table
table m rows = record { m = m; rows = rows }

-- the bytes of a text
abbrev pub bytes : String → List ℕ
bytes Str.[] = []
bytes (Str.◌∷◌ c s) = code c ∷ bytes s

-- A case: numbers that the definitions compute, and those that are expected.
pub record Case : Type 0 where
  pub name : String
  pub computed : List ℕ
  pub expected : List ℕ

abbrev pub case : String → List ℕ → List ℕ → Case
case name computed expected = record { name = name; computed = computed; expected = expected }

-- the first case whose numbers differ
abbrev pub first_failing : List Case → Option Case
first_failing [] = none
first_failing (c ∷ cs) = cond (same c.computed c.expected) (first_failing cs) (some c)

-- 1 for true
abbrev flag : Bool → List ℕ
flag b = cond b 1 0 ∷ []

-- 0 where something was taken; else the refusal's number and line
abbrev answer : {A : Type 0} → Answer A → List ℕ
answer (taken a) = 0 ∷ []
answer (refused r l) = number_of r ∷ l ∷ []

-- a whole number: 1 where it is below zero, and its size
abbrev signed : ℤ → List ℕ
signed (pos a) = 0 ∷ a ∷ []
signed (negsuc a) = 1 ∷ suc a ∷ []

-- the two sides of the test for admission
abbrev load : Table → ℕ
load tbl = (fraction tbl.m).den * scaled_sum tbl

abbrev limit : Table → ℕ
limit tbl = tbl.m * (fraction tbl.m).num * repeat_length tbl.rows

-- how many tasks are heavy, the two sides of the test, the verdict
abbrev judged : Table → List ℕ
judged tbl = heavy_count tbl ∷ load tbl ∷ limit tbl ∷ verdict_byte (verdict tbl) ∷ []

-- what slot s of the run from the fresh state shows: its cores, moves and misses
abbrev shown : Table → ℕ → List ℕ
shown tbl s =
    let it : Shown = (slot (after s (fresh tbl))).shown in
    it.cores ++ (it.moves ∷ it.misses ∷ [])

-- the misses counted and the units dropped up to boundary b
abbrev lost : Table → ℕ → List ℕ
lost tbl b =
    let st : State = after b (fresh tbl) in
    st.misses ∷ sum st.dropped ∷ []

-- a task's lead at boundary b
abbrev lead_at : Table → ℕ → ℕ → List ℕ
lead_at tbl i b = signed (lead (after b (fresh tbl)) i)

abbrev table_a : Table
table_a = table 3 (row 1 7 ∷ row 2 10 ∷ row 9 20 ∷ row 11 22 ∷ row 2 25 ∷ [])

abbrev table_e : Table
table_e = table 3 (row 3 7 ∷ row 3 7 ∷ row 4 7 ∷ [])

abbrev table_f : Table
table_f = table 3 (row 1 10 ∷ row 1 10 ∷ row 1 10 ∷ row 10 11 ∷ [])

abbrev pub table_h : Table
table_h = table 2 (row 2 3 ∷ row 2 3 ∷ row 2 3 ∷ [])

abbrev rows_i : List Row
rows_i = row 1 31_622 ∷ row 1 31_623 ∷ []

abbrev rows_j : List Row
rows_j = row 1 31_623 ∷ row 1 31_624 ∷ []

abbrev pub table_m : Table
table_m = table 2 (row 1 2 ∷ row 1 3 ∷ row 3 6 ∷ [])

-- a state of three tasks
abbrev state_of : Table → List ℕ → ℕ → List ℕ → List ℕ → List ℕ → List ℕ → ℕ → ℕ → State
state_of tbl ranks clock left last done dropped moves misses =
    record {
      table = tbl;
      ranks = ranks;
      clock = clock;
      left = left;
      last = last;
      done = done;
      dropped = dropped;
      moves = moves;
      misses = misses;
    }

abbrev three : ℕ → ℕ → ℕ → List ℕ
three a b c = a ∷ b ∷ c ∷ []

abbrev input_m : String
input_m = "010203\n0200010002\n0200010003\n0200030006\n"

abbrev pub output_m : String
output_m = "11000000000006\n12010203\n130000000001020000\n130000000103000000\n130000000201030100\n130000000303020100\n130000000401000000\n130000000500000000\n14000000000000000200000000000000000000000000000000\n"

-- Those that take many steps to compute stand last: of a list that fails, the prover shows the case only if it gets there
-- within its limit of steps.
abbrev pub cases : List Case
cases =
    -- order and verdict
    case "A: repeat length and scaled sum" (repeat_length table_a.rows ∷ scaled_sum table_a ∷ []) (7_700 ∷ 10_571 ∷ [])
    ∷ case "A: order" (order table_a) (3 ∷ 4 ∷ 1 ∷ 2 ∷ 5 ∷ [])
    ∷ case "A: verdict" (judged table_a) (2 ∷ 73_997 ∷ 69_300 ∷ 0 ∷ [])
    ∷ case "B: verdict" (judged (table 2 (row 1 2 ∷ row 1 2 ∷ []))) (0 ∷ 8 ∷ 8 ∷ 1 ∷ [])
    ∷ case "C: verdict" (judged (table 2 (row 1 2 ∷ row 1 2 ∷ row 1 100 ∷ []))) (0 ∷ 404 ∷ 400 ∷ 0 ∷ [])
    ∷ case "D: verdict" (judged (table 3 (row 3 7 ∷ row 3 7 ∷ row 3 7 ∷ []))) (0 ∷ 63 ∷ 63 ∷ 1 ∷ [])
    ∷ case "E: verdict" (judged table_e) (1 ∷ 70 ∷ 63 ∷ 0 ∷ [])
    ∷ case "E: the last task is heavy" (flag (heavy table_e 3)) (flag true)
    ∷ case "F: order" (order table_f) (4 ∷ 1 ∷ 2 ∷ 3 ∷ [])
    ∷ case "F: verdict" (judged table_f) (1 ∷ 931 ∷ 990 ∷ 1 ∷ [])
    ∷ case "G: verdict" (judged (table 2 (row 3 5 ∷ row 1 5 ∷ row 1 5 ∷ []))) (1 ∷ 20 ∷ 20 ∷ 1 ∷ [])
    ∷ case "H: verdict" (judged table_h) (3 ∷ 24 ∷ 12 ∷ 0 ∷ [])
    ∷ case "K: one core" (answer (take_list 1 (row 2 4 ∷ row 3 6 ∷ []))) (2 ∷ 0 ∷ [])
    ∷ case "heavy tasks in falling periods: order" (order (table 2 (row 5 6 ∷ row 3 4 ∷ row 1 3 ∷ row 1 2 ∷ []))) (1 ∷ 2 ∷ 4 ∷ 3 ∷ [])
    -- slots and leads
    ∷ case "H: misses and dropped units at boundary 3" (lost table_h 3) (1 ∷ 1 ∷ [])
    ∷ case "H: misses and dropped units at boundary 6" (lost table_h 6) (2 ∷ 2 ∷ [])
    ∷ case "three dropped units of one task are one miss" (lost (table 2 (row 3 3 ∷ row 3 3 ∷ row 3 3 ∷ [])) 3) (1 ∷ 3 ∷ [])
    ∷ case "F: slot 0" (shown table_f 0) (4 ∷ 1 ∷ 2 ∷ 0 ∷ 0 ∷ [])
    ∷ case "F: slot 1" (shown table_f 1) (4 ∷ 3 ∷ 0 ∷ 0 ∷ 0 ∷ [])
    ∷ case "placing in two passes: slot 2" (shown (table 3 (row 1 2 ∷ row 1 3 ∷ row 1 3 ∷ row 2 5 ∷ row 2 5 ∷ [])) 2) (1 ∷ 5 ∷ 4 ∷ 1 ∷ 0 ∷ [])
    ∷ case "M: lead of task 3 at boundary 1" (lead_at table_m 3 1) (signed (negsuc 2))
    ∷ case "M: lead of task 3 at boundary 2" (lead_at table_m 3 2) (signed (pos 0))
    ∷ case "M: lead of task 3 at boundary 4" (lead_at table_m 3 4) (signed (pos 6))
    -- states of table M: one that is well formed, and others that break one conjunct each and keep the rest
    ∷ case "well formed" (flag (well_formed (state_of table_m (three 1 2 3) 1 (three 0 0 3) (three 1 2 0) (three 1 1 0) (three 0 0 0) 2 64))) (flag true)
    ∷ case "not well formed: one core" (flag (well_formed (state_of (table 1 table_m.rows) (three 1 2 3) 1 (three 0 0 3) (three 1 1 0) (three 1 1 0) (three 0 0 0) 0 0))) (flag false)
    ∷ case "not well formed: another order" (flag (well_formed (state_of table_m (three 1 3 2) 1 (three 0 0 3) (three 1 2 0) (three 1 1 0) (three 0 0 0) 0 0))) (flag false)
    ∷ case "not well formed: clock past its bound" (flag (well_formed (state_of table_m (three 1 2 3) 1_000_000_001 (three 0 0 0) (three 1 2 1) (three 500_000_001 333_333_334 500_000_001) (three 0 0 0) 0 0))) (flag false)
    ∷ case "not well formed: an entry too many" (flag (well_formed (state_of table_m (three 1 2 3) 1 (0 ∷ three 0 3 0) (three 1 2 0) (three 1 1 0) (three 0 0 0) 0 0))) (flag false)
    ∷ case "not well formed: left work above C" (flag (well_formed (state_of table_m (three 1 2 3) 7 (three 0 0 6) (three 1 2 0) (three 4 3 0) (three 0 0 0) 0 0))) (flag false)
    ∷ case "not well formed: left work at a deadline" (flag (well_formed (state_of table_m (three 1 2 3) 6 (three 0 0 3) (three 1 2 0) (three 3 2 0) (three 0 0 0) 0 0))) (flag false)
    ∷ case "not well formed: last core above m" (flag (well_formed (state_of table_m (three 1 2 3) 1 (three 0 0 3) (three 1 3 0) (three 1 1 0) (three 0 0 0) 0 0))) (flag false)
    ∷ case "not well formed: done above released" (flag (well_formed (state_of table_m (three 1 2 3) 1 (three 0 0 3) (three 1 2 0) (three 1 2 0) (three 0 0 0) 0 0))) (flag false)
    ∷ case "not well formed: moves above m times the clock" (flag (well_formed (state_of table_m (three 1 2 3) 1 (three 0 0 3) (three 1 2 0) (three 1 1 0) (three 0 0 0) 3 0))) (flag false)
    ∷ case "not well formed: misses above 64 times the clock" (flag (well_formed (state_of table_m (three 1 2 3) 1 (three 0 0 3) (three 1 2 0) (three 1 1 0) (three 0 0 0) 0 65))) (flag false)
    -- long runs, texts, and repeat lengths at their bound
    ∷ case "F: slot 10" (shown table_f 10) (3 ∷ 1 ∷ 2 ∷ 1 ∷ 0 ∷ [])
    ∷ case "F: core 1 in slot 11" (at (slot (after 11 (fresh table_f))).shown.cores 1 ∷ []) (4 ∷ [])
    ∷ case "empty input: text" (program []) (bytes "1f010001\n")
    ∷ case "M: text" (program (bytes input_m)) (bytes output_m)
    ∷ case "I: repeat length" (repeat_length rows_i ∷ []) (999_982_506 ∷ [])
    ∷ case "I: answer" (answer (take_list 2 rows_i)) (0 ∷ [])
    ∷ case "J: repeat length" (repeat_length rows_j ∷ []) (1_000_045_752 ∷ [])
    ∷ case "J: answer" (answer (take_list 2 rows_j)) (5 ∷ 0 ∷ [])
    ∷ case "H of 999,999,997: answer" (answer (take_list 2 (row 1 71 ∷ row 1 2_251 ∷ row 1 6_257 ∷ []))) (0 ∷ [])
    ∷ case "H of 1,000,000,001: answer" (answer (take_list 2 (row 1 19_019 ∷ row 1 52_579 ∷ []))) (5 ∷ 0 ∷ [])
    ∷ []

-- Given `none`, the prover computes the list once and, where a case fails, shows its name and both lists of numbers.
pub all_hold : first_failing cases ≡ none
unfolding digit digit_value field value_after value releases due demand releases_before released lcm repeat_length header_tests row_tests whole_tests list_tests accepts take_list fields frame read_field read_fields read_end read_frame header_line row_line text read_header read_row read_rows read_lines read_file fraction heavy_at heavy light heavy_count share scaled_sum admitted verdict insert by_period order fresh release choose free seat keep_cores fill_cores placed place given moved missed effect slot after shows lead verdict_line order_line slot_line slot_lines totals_line sized task_formed well_formed report reply program
all_hold = refl {a = none}
