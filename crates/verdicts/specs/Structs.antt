-- What is answered of a table that is given as a struct.
use Rattle.std.specs.Prelude.{ℕ, ◌-◌, ◌≤◌, ◌≡◌, List, ◌++◌, map, length, replicate, Result}
use Rattle.std.proofs.Math.Option.{Option}
use Rattle.laws.specs.Lists.{join}
use Rattle.rules.specs.Limits.{tasks_max}
use Rattle.rules.specs.Refusals.{Test, Answer, answered}
use Rattle.rules.specs.Results.{reply}
use Rattle.rules.specs.Repeat.{repeat_length}
use Rattle.rules.specs.Tables as Rules
use Rattle.rules.specs.Tables.{header_tests, row_tests, whole_tests}
use Rattle.rules.specs.Verdicts.{verdict, heavy_count}
use Rattle.rules.specs.declared.refusal.Refusal.{Refusal}
use Rattle.rules.specs.declared.refusal.Refused.{Refused}
use Rattle.rules.specs.declared.kinds.Repeat.{Repeat}
use Rattle.rules.specs.declared.kinds.TaskNumber.{TaskNumber}
use Rattle.reading_laws.specs.Bounds.{TableInBounds}
use Rattle.tables.specs.Views.{view}
use Rattle.tables.specs.declared.table.Table.{Table}
use Rattle.verdicts.specs.declared.table.Judgement.{Judgement}

-- taken, or the refusal of the first test that fails
abbrev pub outcome_of : Option Refusal → Result (Unit {0}) Refused
outcome_of o = reply (λ u. u) (answered o tt)

-- the tests of m and n, and then of the rows that count
unfoldable pub lines_tests : Table → List Test
lines_tests t = header_tests t.m.0 t.n.0 ++ join (map row_tests (view t).rows)

-- the tests of a list of rows, with the struct's own n
unfoldable pub struct_tests : Table → List Test
struct_tests t = lines_tests t ++ whole_tests (view t).rows

-- the repeat length of a table
abbrev pub repeat_of : Rules.Table → Repeat
repeat_of tbl = record { 0 = repeat_length tbl.rows }

-- what is returned of it
abbrev pub test_answer : Answer Repeat → Result Repeat Refused
test_answer a = reply (λ h. h) a

-- what frame `11` says of a table
abbrev pub judgement_of : Rules.Table → Judgement
judgement_of tbl = record { verdict = verdict tbl; heavy = heavy_count tbl; repeat = repeat_of tbl }

abbrev pub verdict_answer : Answer Judgement → Result Judgement Refused
verdict_answer a = reply (λ j. j) a

-- a task number
abbrev pub number_of : ℕ → TaskNumber
number_of i = record { 0 = i }

-- task numbers, and zeros up to 64
unfoldable pub pack_ranks : List ℕ → List TaskNumber
pack_ranks ranks = map number_of ranks ++ replicate (tasks_max - length ranks) (number_of 0)

abbrev pub priority_answer : Answer (List ℕ) → Result (List TaskNumber) Refused
priority_answer a = reply pack_ranks a

-- a struct that passes all tests
pub record Sound (t : Table) : Type 0 where
  pub few : t.n.0 ≤ tasks_max
  pub bounds : TableInBounds (view t)

-- and its repeat length
pub record Known (t : Table) (h : Repeat) : Type 0 where
  pub sound : Sound t
  pub length : h.0 ≡ repeat_length (view t).rows
