-- What "admitted" means for whoever calls the library from C.
use Rattle.std.specs.Prelude.{ℕ, ◌*◌, ◌≡◌, List, T, pos, ◌-ℤ◌}
use Rattle.laws.specs.Lists.{at}
use Rattle.rules.specs.Refusals.{taken}
use Rattle.rules.specs.Tables.{Table, row_of, accepts}
use Rattle.rules.specs.Verdicts.{admitted}
use Rattle.rules.specs.States.{State}
use Rattle.rules.specs.Counts.{work_of}
use Rattle.stored.specs.Layout.{load}
use Rattle.promises.specs.Buffers.{placing}
use Rattle.promises.specs.Frames.{Counted, FramesOnTime, totals_of, lossless_of}
use Rattle.promises.specs.Runs.{Runs, frames_of, Came}
use Rattle.promises.specs.Calls.{Opening, Held, calls, VerdictCall, verdict_read, TotalsCall, totals_read, LeadCall, lead_read}

-- A caller opened a table and got the bytes `start`. He asked for the verdict, and frame `11` says 01.
pub record Admitted (tbl : Table) (start : List ℕ) : Type 0 where
  pub opening : Opening tbl start
  pub verdict : VerdictCall start
  pub says : at (verdict_read verdict) 1 ≡ 1

-- Then he ran it: any calls of `zq_run` one after the other, of any counts, each from the bytes that the last one left. Together
-- they ran the slots before boundary b, and he has the bytes `end`. Of every table, admitted or not:
pub record Account (tbl : Table) {start end : List ℕ} {b : ℕ} (runs : Runs calls start end b) : Type 0 where
  -- the bytes are the state at boundary b, and the buffers have exactly the frames of slots 0 to b - 1
  pub came : Came (Held tbl) tbl runs
  -- all that the bytes count is counted over the frames
  pub counted : (st : State) → load end ≡ taken st → Counted tbl b (frames_of tbl.m runs) st
  -- whenever he asks for the totals, frame `14` says what the frames `13` add up to
  pub totals : (t : TotalsCall end) → totals_read t ≡ totals_of tbl b (frames_of tbl.m runs)
  -- and a task's lead goes by the cores that held it
  pub lead : (i : ℕ) (l : LeadCall end i)
      → lead_read l ≡ pos (work_of (placing tbl.m (frames_of tbl.m runs)) i b * (row_of tbl i).t) -ℤ pos (b * (row_of tbl i).c)

-- Of an admitted one:
pub record Promise (tbl : Table) {start end : List ℕ} {b : ℕ} (runs : Runs calls start end b) : Type 0 where
  -- it is one that the rules accept and admit
  pub accepted : T (accepts tbl)
  pub admitted : T (admitted tbl)
  pub account : Account tbl runs
  -- no frame shows a miss, and at every boundary up to b the first light tasks were given at least their shares, by the tasks on
  -- the cores as the frames show them
  pub on_time : FramesOnTime tbl b (frames_of tbl.m runs)
  -- whenever he asks for the totals, frame `14` says 0 misses and 0 dropped units
  pub totals : (t : TotalsCall end) → totals_read t ≡ lossless_of tbl b (frames_of tbl.m runs)

-- what is proved
abbrev pub AdmittedMeans : Type 0
AdmittedMeans = (tbl : Table) (start end : List ℕ) (b : ℕ) → Admitted tbl start → (runs : Runs calls start end b) → Promise tbl runs

abbrev pub Accounted : Type 0
Accounted = (tbl : Table) (start end : List ℕ) (b : ℕ) → Opening tbl start → (runs : Runs calls start end b) → Account tbl runs
