-- The program's text for any input, in a lent buffer.
use Rattle.std.specs.Prelude.{ℕ, ◌≤◌, ◌≡◌, List, ◌++◌, length, drop, Result, Ok, Err}
use Rattle.rules.specs.Refusals.{Answer, taken, refused}
use Rattle.rules.specs.Tables as Rules
use Rattle.rules.specs.Files.{read_file}
use Rattle.rules.specs.Program.{reply, program}
use Rattle.rules.specs.declared.refusal.Refused.{Refused}
use Rattle.tables.specs.Views.{view, table_answer}
use Rattle.tables.specs.Writes.{Wrote, wrote_text}
use Rattle.tables.specs.declared.table.Table.{Table}

-- no text is longer: 146 bytes before the slots of 64 tasks, 4,096 frames of 32 cores with 79 bytes each, 51 for the totals
abbrev pub text_max : ℕ
text_max = 323_781

-- the text in the buffer from a place on
unfoldable pub report_of : List ℕ → List ℕ → ℕ → Wrote
report_of input out place = wrote_text out place (program input)

-- the text at the front of a buffer, all of it, and how many bytes it has
pub record Printed (input out : List ℕ) (n : ℕ) (out' : List ℕ) : Type 0 where
  pub count : n ≡ length (program input)
  pub text : out' ≡ program input ++ drop (length (program input)) out

-- what the reader's answer says
abbrev pub said : Result Table Refused → Answer Rules.Table
said (Ok t) = taken (view t)
said (Err e) = refused e.refusal e.line

-- the text for it
unfoldable pub reply_to : Result Table Refused → List ℕ
reply_to a = reply (said a)

-- an answer of the reader
pub record Answered (a : Result Table Refused) : Type 0 where
  pub file : List ℕ
  pub is : a ≡ table_answer (read_file file)

-- and a buffer with room for its text
pub record ReplyRoom (a : Result Table Refused) (out : List ℕ) : Type 0 where
  pub answered : Answered a
  pub room : length (reply_to a) ≤ length out
