-- What "admitted" means for whoever calls the library from C, proved by the contracts of the calls alone.
use Prim.Native.Nat.{ℕ, ◌*◌, ◌≤◌}
use mathlib.Core.Path.{◌≡◌, ap, subst, ◌∙◌}
use mathlib.Core.List.{List}
use native.Mathlib.Omega.{arith}
use lib.Dec.{T}
use lib.IntN.{pos, ◌-ℤ◌}
use Rattle.laws.specs.Lists.{at}
use Rattle.rules.specs.Refusals.{taken}
use Rattle.rules.specs.Tables.{Table, size, row_of, accepts}
use Rattle.rules.specs.Verdicts.{admitted}
use Rattle.rules.specs.States.{State, fresh}
use Rattle.rules.specs.Runs.{after, lead}
use Rattle.rules.specs.Counts.{work_of}
use Rattle.slot_laws.proofs.Boundaries.{table_at, clock-at}
use Rattle.stored.specs.Layout.{load}
use Rattle.promises.specs.Buffers.{placing}
use Rattle.promises.specs.Frames.{HeadOf, Counted}
use Rattle.promises.specs.Runs.{Runs, frames_of, Came}
use Rattle.promises.specs.Calls.{Opening, Held, calls, VerdictCall}
use Rattle.promises.specs.Admitted.{AdmittedMeans, Accounted}
use Rattle.promises.proofs.Verdicts.{says-admitted}
use Rattle.promises.proofs.Counting.{scheduled-counted, scheduled_on_time, scheduled-totals, scheduled-lossless}
use Rattle.promises.proofs.Running.{came}
use Rattle.promises.proofs.Opening.{opening-accepted, opening-held}
use Rattle.promises.proofs.Calls.{held_loads, run_step, verdict_told, totals_told, lead_told}

-- ---- every table that is opened

-- the verdict's frames are those of the table
pub verdict_tells : {tbl : Table} {start : List ℕ} → Opening tbl start → (v : VerdictCall start) → HeadOf tbl v.0.exits.1.0.now v.0.args.1.1.0
verdict_tells o v = verdict_told (opening-accepted o) (opening-held o) v

module _ {tbl : Table} {start end : List ℕ} {b : ℕ} (o : Opening tbl start) (runs : Runs calls start end b) where
  ok : T (accepts tbl)
  ok = opening-accepted o

  calls-came : Came (Held tbl) tbl runs
  calls-came = came tbl ok (run_step ok) (opening-held o) runs

  abbrev frames : List (List ℕ)
  frames = frames_of tbl.m runs

  counted : Counted tbl b frames (after b (fresh tbl))
  counted = scheduled-counted calls-came.scheduled

  -- the state that the bytes are loaded as
  loaded : (st : State) → load end ≡ taken st → after b (fresh tbl) ≡ st
  loaded st e = let told : load end ≡ taken (after b (fresh tbl)) = held_loads ok calls-came.reached in cc

  -- a task's lead goes by the cores that held it, as the frames show them
  lead-read : (i : ℕ) → 1 ≤ i → i ≤ size tbl → lead (after b (fresh tbl)) i ≡ pos (work_of (placing tbl.m frames) i b * (row_of tbl i).t) -ℤ pos (b * (row_of tbl i).c)
  unfolding lead
  lead-read i low high = rw (table_at tbl b, clock-at tbl b, counted.done i low high)

pub account : Accounted
account tbl start end b o runs =
    let w : Came (Held tbl) tbl runs = calls-came o runs in
    record {
      came = w;
      counted = λ st e. subst (Counted tbl b (frames o runs)) (loaded o runs st e) (counted o runs);
      totals = λ t. totals_told (ok o runs) w.reached t ∙ scheduled-totals w.scheduled;
      lead =
          λ i l.
          let told = lead_told (ok o runs) w.reached i l in
          told.2 ∙ lead-read o runs i told.0 told.1;
    }

-- ---- a table that is admitted

pub admitted_means : AdmittedMeans
admitted_means tbl start end b a runs =
    let o : Opening tbl start = a.opening in
    let t : T (accepts tbl) = opening-accepted o in
    let w : Came (Held tbl) tbl runs = calls-came o runs in
    let u : T (admitted tbl) = says-admitted tbl (omega (arith, ap (λ (l : List ℕ). at l 1) (verdict_tells o a.verdict).verdict, a.says)) in
    record {
      accepted = t;
      admitted = u;
      account = account tbl start end b o runs;
      on_time = scheduled_on_time w.scheduled t u;
      totals = λ c. totals_told t w.reached c ∙ scheduled-lossless w.scheduled t u;
    }
