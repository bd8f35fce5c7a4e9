-- The answer to a run, as the structs give it.
use Rattle.std.specs.Prelude.{ℕ, ◌+◌, ◌*◌, ◌≤◌, ◌≡◌, List, ◌++◌, length, drop, Result, Ok, Err}
use Rattle.rules.specs.Limits.{clock_max}
use Rattle.rules.specs.Refusals.{Answer, taken, refused}
use Rattle.rules.specs.Runs.{after, slot_lines}
use Rattle.rules.specs.Answers.{Ran, run_slots}
use Rattle.rules.specs.declared.refusal.Refusal.{Refusal}
use Rattle.machine.specs.Views.{view, pack}
use Rattle.machine.specs.Answers.{asked}
use Rattle.machine.specs.declared.state.State.{State}
use Rattle.runs.specs.Slots.{frame_length}

-- what a run asks that is not refused
pub record Open (s : State) (count : ℕ) (out : List ℕ) : Type 0 where
  pub in_time : s.clock.0 + count ≤ clock_max
  pub room : count * frame_length s.table.m.0 ≤ length out

-- what it leaves
pub record RunFormed (s : State) (count : ℕ) (out : List ℕ) (s' : State) (out' : List ℕ) : Type 0 where
  pub state : s' ≡ pack (after count (view s))
  pub lines : out' ≡ slot_lines count (view s) ++ drop (count * frame_length s.table.m.0) out

-- the state at the end or the refusal, and the buffer
pub record RunEnd : Type 0 where
  pub answer : Result State Refusal
  pub out : List ℕ

abbrev pub run_end : Result State Refusal → List ℕ → RunEnd
run_end a out = record { answer = a; out = out }

-- where the run is refused, the buffer is as it was
abbrev pub ended : List ℕ → Answer Ran → RunEnd
ended out (taken ran) = run_end (Ok (pack ran.state)) ran.out
ended out (refused r l) = run_end (Err r) out

-- what the rules answer of the state that the struct says
unfoldable pub run_answer : State → ℕ → List ℕ → ℕ → RunEnd
run_answer s count out place = ended out (asked s (λ st. run_slots st count out place))
