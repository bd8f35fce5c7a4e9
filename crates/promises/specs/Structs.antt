-- What "admitted" means for whoever calls the functions in Rattle: a table that was read or taken, judged, opened and run.
use Rattle.std.specs.Prelude.{ℕ, ◌≤◌, ◌≡◌, T, replicate, Ok}
use Rattle.rules.specs.Limits.{tasks_max, clock_max}
use Rattle.rules.specs.Tables as Rules
use Rattle.rules.specs.Verdicts.{admitted}
use Rattle.rules.specs.States.{fresh}
use Rattle.rules.specs.Runs.{after}
use Rattle.rules.specs.declared.verdict.Verdict.TheVariants.{Admitted}
use Rattle.tables.specs.Views as Tables
use Rattle.tables.specs.declared.table.Table.{Table}
use Rattle.tables.proofs.file.read_file.Reads as read-file
use Rattle.tables.proofs.list.take_list.Reads as take-list
use Rattle.verdicts.specs.declared.table.Judgement.{Judgement}
use Rattle.verdicts.proofs.table.verdict.Reads as verdict-of
use Rattle.machine.specs.Views.{units, view, pack}
use Rattle.machine.specs.declared.state.State.{State}
use Rattle.machine.proofs.fresh.fresh.Reads as fresh-of
use Rattle.runs.proofs.run.run.Reads as run_of
use Rattle.promises.specs.Frames.{Counted, FramesOnTime}
use Rattle.promises.specs.Runs.{Way, Runs, frames_of, Came}
use Rattle.promises.specs.Calls.{Call}

-- a table struct that came from a reader
pub data Taking : Table → Type 0 where
  by_file : (c : Call read-file.Post) {t : Table} → c.result ≡ Ok t → Taking t
  by_list : (c : Call take-list.Post) {t : Table} → c.result ≡ Ok t → Taking t

-- and whose verdict is admitted
pub record AdmittedStruct (t : Table) : Type 0 where
  pub taking : Taking t
  pub call : Call verdict-of.Post
  pub of_it : call.args.0 ≡ t
  pub judgement : Judgement
  pub judged : call.result ≡ Ok judgement
  pub says : judgement.verdict ≡ Admitted

-- the struct says the state at boundary b of a table's run from the fresh state
pub record Reached (tbl : Rules.Table) (b : ℕ) (s : State) : Type 0 where
  pub in_time : b ≤ clock_max
  pub says : s ≡ pack (after b (fresh tbl))

-- calls of `run` that were taken, and the states that they returned
abbrev pub RunTaken : Type 0
RunTaken = (r : Call run_of.Post) × (s : State) × (r.result ≡ Ok s)

abbrev pub structs : Way State RunTaken
structs =
    record {
      from = λ r. r.0.args.0;
      slots = λ r. r.0.args.1.0;
      lent = λ r. r.0.args.1.1.0.now;
      place = λ r. r.0.args.1.1.1.0;
      buffer = λ r. r.0.exits.1.1.0.now;
      to = λ r. r.1;
    }

-- no deadline was missed, and no unit of any task dropped
pub record Lossless (s : State) : Type 0 where
  pub no_miss : s.misses ≡ 0
  pub no_drop : s.dropped ≡ replicate tasks_max (units 0)

-- what the runs of any table come to that begin at what `fresh` returned
pub record StructAccount (tbl : Rules.Table) {start end : State} {b : ℕ} (runs : Runs structs start end b) : Type 0 where
  pub came : Came (Reached tbl) tbl runs
  pub counted : Counted tbl b (frames_of tbl.m runs) (view end)

-- and those of an admitted one
pub record StructPromise (tbl : Rules.Table) {start end : State} {b : ℕ} (runs : Runs structs start end b) : Type 0 where
  pub accepted : T (Rules.accepts tbl)
  pub admitted : T (admitted tbl)
  pub account : StructAccount tbl runs
  pub on_time : FramesOnTime tbl b (frames_of tbl.m runs)
  pub lossless : Lossless end

-- what is proved
abbrev pub StructsMean : Type 0
StructsMean =
    (t : Table) (f : Call fresh-of.Post) (end : State) (b : ℕ) → AdmittedStruct t → f.args.0 ≡ t
    → (runs : Runs structs f.result end b) → StructPromise (Tables.view t) runs
