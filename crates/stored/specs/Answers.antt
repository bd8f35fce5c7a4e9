-- What reading and writing a state answers, and leaves in the buffer.
use Rattle.std.specs.Prelude.{ℕ, List, [], ◌∷◌, length, Result}
use Rattle.rules.specs.Refusals.{Answer, settle}
use Rattle.rules.specs.Results.{plain_reply}
use Rattle.rules.specs.declared.refusal.Refusal.{Refusal}
use Rattle.rules.specs.States as States
use Rattle.rules.specs.Answers.{lay, room_test, state_test}
use Rattle.tables.specs.Writes.{Wrote, wrote}
use Rattle.machine.specs.Views.{view, pack}
use Rattle.machine.specs.Answers.{asked}
use Rattle.machine.specs.declared.state.State.{State}
use Rattle.stored.specs.Layout.{store}

-- what is returned for a state
abbrev pub state_answer : Answer States.State → Result State Refusal
state_answer a = plain_reply pack a

-- the buffer after a state was stored: 9, then 7
unfoldable pub store_state : States.State → List ℕ → ℕ → Answer (List ℕ)
store_state st out place = settle (state_test st ∷ room_test out place (length (store st)) ∷ []) (lay out place (store st))

-- how many bytes were written with the buffer that has them, or why none were with the buffer as it was
unfoldable pub stored_state : State → List ℕ → ℕ → Wrote
stored_state s out place = wrote (length (store (view s))) out (asked s (λ st. store_state st out place))
