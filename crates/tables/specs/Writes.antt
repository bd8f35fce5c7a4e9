-- What writing into a buffer answers, and leaves in it.
use Rattle.std.specs.Prelude.{ℕ, List, [], ◌∷◌, length, Result, Ok, Err}
use Rattle.rules.specs.Refusals.{Answer, taken, refused, settle}
use Rattle.rules.specs.Rows.{Row}
use Rattle.rules.specs.Files.{text}
use Rattle.rules.specs.Answers.{lay, room_test, write_list}
use Rattle.rules.specs.declared.refusal.Refusal.{Refusal}

-- the answer, and the buffer after the call
pub record Wrote : Type 0 where
  pub answer : Result ℕ Refusal
  pub out : List ℕ

-- both together
abbrev pub made : Result ℕ Refusal → List ℕ → Wrote
made a out = record { answer = a; out = out }

-- how many bytes were written with the buffer that has them, or why none were with the buffer as it was
unfoldable pub wrote : ℕ → List ℕ → Answer (List ℕ) → Wrote
wrote size out (taken buffer) = made (Ok size) buffer
wrote size out (refused r l) = made (Err r) out

-- writing a text into a buffer from a place on, where there is room for all of it
unfoldable pub wrote_text : List ℕ → ℕ → List ℕ → Wrote
wrote_text out place txt = wrote (length txt) out (settle (room_test out place (length txt) ∷ []) (lay out place txt))

-- writing a list of rows
unfoldable pub written_list : ℕ → List Row → List ℕ → ℕ → Wrote
written_list m rows out place = wrote (length (text (record { m = m; rows = rows }))) out (write_list m rows out place)
