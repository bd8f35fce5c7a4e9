-- What each call of the C interface returns and leaves: the answer of the rules, and what becomes of the values that were lent.
use Rattle.std.specs.Prelude.{ℕ, List, [], ◌∷◌, ◌++◌, length, ℤ}
use Rattle.rules.specs.Refusals.{number_of, Answer, taken, refused, settle, and_then}
use Rattle.rules.specs.Rows.{Row}
use Rattle.rules.specs.Tables.{Table, take_list}
use Rattle.rules.specs.Files.{text, read_file}
use Rattle.rules.specs.States.{fresh}
use Rattle.rules.specs.Verdicts.{order}
use Rattle.rules.specs.Runs.{verdict_line, order_line, slot_lines, totals_line}
use Rattle.rules.specs.Answers.{lay, room_test, write_list, run_slots, write_totals, ask_lead}
use Rattle.rules.specs.Program.{program}
use Rattle.stored.specs.Layout.{store, load}

-- ---- a number, and what was lent

-- the number that a call returns, and the values that it leaves in what was lent
pub record Reply (A : Type 0) : Type 0 where
  pub number : ℕ
  pub left : A

abbrev pub reply : {A : Type 0} → ℕ → A → Reply A
reply n a = record { number = n; left = a }

-- taken: 0, and the new values; refused: the refusal's number, and the values as they were
unfoldable pub replied : {A : Type 0} → A → Answer A → Reply A
replied old (taken new) = reply 0 new
replied old (refused r l) = reply (number_of r) old

-- a buffer, and the number of bytes written into it
pub record Filled : Type 0 where
  pub buffer : List ℕ
  pub size : ℕ

abbrev pub filled : List ℕ → ℕ → Filled
filled buffer size = record { buffer = buffer; size = size }

-- the buffer of an answer with its size
unfoldable pub sized : ℕ → Answer (List ℕ) → Answer Filled
sized size a = and_then a (λ buffer. taken (filled buffer size))

-- a text laid into a buffer from a place on: 7
unfoldable pub laid : List ℕ → ℕ → List ℕ → Answer Filled
laid out place txt = sized (length txt) (settle (room_test out place (length txt) ∷ []) (lay out place txt))

-- ---- tables

-- the bytes of a table's fresh state, from the front of a buffer on
unfoldable pub open_table : Table → List ℕ → Answer Filled
open_table tbl state = laid state 0 (store (fresh tbl))

-- opening a file: the tests of reading it in their order, then 7
unfoldable pub open_file : List ℕ → List ℕ → Answer Filled
open_file file state = and_then (read_file file) (λ tbl. open_table tbl state)

-- opening a list of rows: 2, 3, 4, 5, then 7
unfoldable pub open_list : ℕ → List Row → List ℕ → Answer Filled
open_list m rows state = and_then (take_list m rows) (λ tbl. open_table tbl state)

-- a list of rows as a file: 2, 3, 4, 5, then 7
unfoldable pub write_rows : ℕ → List Row → List ℕ → ℕ → Answer Filled
write_rows m rows out place = sized (length (text (record { m = m; rows = rows }))) (write_list m rows out place)

-- the line of a refusal, 0 where a file is taken
unfoldable pub line_of : {A : Type 0} → Answer A → ℕ
line_of (taken a) = 0
line_of (refused r l) = l

-- what reading a file leaves: the line besides
pub record Read : Type 0 where
  pub answer : Reply Filled
  pub line : ℕ

abbrev pub read : Reply Filled → ℕ → Read
read answer line = record { answer = answer; line = line }

unfoldable pub opened : Filled → Answer Filled → Read
opened old a = read (replied old a) (line_of a)

-- ---- stored states

-- verdict and order of the table, frames `11` and `12`: 9, then 7
unfoldable pub give_verdict : List ℕ → List ℕ → ℕ → Answer Filled
give_verdict state out place = and_then (load state) (λ st. laid out place (verdict_line st.table ++ order_line (order st.table)))

-- what a run leaves: the bytes of the state after it, and its frames with their length
pub record Run : Type 0 where
  pub state : List ℕ
  pub frames : Filled

abbrev pub run : List ℕ → List ℕ → ℕ → Run
run state out size = record { state = state; frames = filled out size }

-- running a count of slots: 9, 8, then 7
unfoldable pub run_stored : List ℕ → ℕ → List ℕ → ℕ → Answer Run
run_stored state count out place =
    and_then (load state) (λ st.
    and_then (run_slots st count out place) (λ ran.
    taken (run (store ran.state) ran.out (length (slot_lines count st)))))

-- the totals: 9, then 7
unfoldable pub give_totals : List ℕ → List ℕ → ℕ → Answer Filled
give_totals state out place = and_then (load state) (λ st. sized (length (totals_line st)) (write_totals st out place))

-- a task's lead: 9, then 3
unfoldable pub give_lead : List ℕ → ℕ → Answer ℤ
give_lead state task = and_then (load state) (λ st. ask_lead st task)

-- ---- the program

-- its text for an input: 7
unfoldable pub give_report : List ℕ → List ℕ → ℕ → Answer Filled
give_report input out place = laid out place (program input)
