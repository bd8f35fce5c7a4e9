-- What the functions behind the calls answer, as the calls return and leave it.
use Rattle.std.specs.Prelude.{ℕ, ◌≡◌, List, Result, Ok, Err}
use Rattle.rules.specs.Refusals.{number_of, Answer, taken, refused}
use Rattle.rules.specs.States as States
use Rattle.rules.specs.States.{fresh}
use Rattle.rules.specs.declared.refusal.Refusal.{Refusal}
use Rattle.rules.specs.declared.refusal.Refused.{Refused}
use Rattle.tables.specs.Views.{view}
use Rattle.tables.specs.Writes.{Wrote, made, wrote_text}
use Rattle.tables.specs.declared.table.Table.{Table}
use Rattle.machine.specs.Tables.{Opened}
use Rattle.stored.specs.Layout.{store}
use Rattle.reports.specs.Heads.{head}
use Rattle.capi.specs.Calls.{Reply, reply, Run, run}

-- the number of an answer, and what stands in its place after it
abbrev pub numbered : {A : Type 0} → A → Result A Refusal → Reply A
numbered before (Ok value) = reply 0 value
numbered before (Err r) = reply (number_of r) before

-- the line of a refusal
abbrev pub line_in : Result Table Refused → ℕ
line_in (Ok t) = 0
line_in (Err e) = e.line

-- where a table was taken, a run can start with it
abbrev pub Startable : Result Table Refused → Type 0
Startable a = (t : Table) → a ≡ Ok t → Opened t

-- the bytes of the fresh state of a table that was taken
unfoldable pub fresh_of : Result Table Refused → List ℕ → Wrote
fresh_of (Ok t) state = wrote_text state 0 (store (fresh (view t)))
fresh_of (Err e) state = made (Err e.refusal) state

-- frames `11` and `12` of the table of a state that was loaded
unfoldable pub head_of : Answer States.State → List ℕ → ℕ → Wrote
head_of (taken st) out place = wrote_text out place (head st.table)
head_of (refused r l) out place = made (Err r) out

-- the number of a run's answer, and the bytes, the frames and their length after it
abbrev pub ran_as : ℕ → Result ℕ Refusal → List ℕ → List ℕ → Reply Run
ran_as before (Ok size) state out = reply 0 (run state out size)
ran_as before (Err r) state out = reply (number_of r) (run state out before)
