-- What "admitted" means in the program's text, as it stands in a buffer from a place on.
use Rattle.std.specs.Prelude.{ℕ, ◌+◌, ◌*◌, ◌≡◌, List, T, take, drop, Ok}
use Rattle.laws.specs.Lists.{at}
use Rattle.rules.specs.Limits.{input_max}
use Rattle.rules.specs.Refusals.{taken}
use Rattle.rules.specs.Frames as Frames
use Rattle.rules.specs.Tables.{Table, accepts}
use Rattle.rules.specs.Files.{read_file}
use Rattle.rules.specs.Verdicts.{admitted}
use Rattle.rules.specs.States.{fresh}
use Rattle.rules.specs.Runs.{after}
use Rattle.rules.specs.Program.{report}
use Rattle.runs.specs.Slots.{frame_length}
use Rattle.reports.specs.Heads.{head_length}
use Rattle.reports.specs.Texts.{slots_of}
use Rattle.reports.specs.Reports.{Printed}
use Rattle.reports.proofs.report.report.Reads as report-of
use Rattle.capi.proofs.program.zq_report.Reads as zq-report
use Rattle.promises.specs.Buffers.{numbers_at, frames_at}
use Rattle.promises.specs.Calls.{Call}
use Rattle.promises.specs.Frames.{HeadOf, Scheduled, Counted, FramesOnTime, totals_of, lossless_of}

-- the text for an input: the buffer that it stands in, its place there and its length
pub data Told (input : List ℕ) : List ℕ → ℕ → ℕ → Type 0 where
  -- `zq_report`: input, out, at, size; it returned 0
  by_call : (c : Call zq-report.Post) → c.result ≡ 0 → c.args.0.now ≡ input
      → Told input c.exits.1.0.now c.args.1.1.0 c.exits.1.1.1.0.now
  -- `report`: input, out, at
  by_function : (c : Call report-of.Post) {n : ℕ} → c.result ≡ Ok n → c.args.0.now ≡ input → Told input c.exits.1.0.now c.args.1.1.0 n
  -- what the program prints, by the contract of its own function
  by_program : {out out' : List ℕ} {n : ℕ} → Printed input out n out' → Told input out' 0 n

module _ (tbl : Table) (out : List ℕ) (place : ℕ) where
  -- the frames `13` of a table's text, and frame `14`
  abbrev pub text_frames : List (List ℕ)
  text_frames = frames_at tbl.m out (place + head_length tbl) (slots_of tbl)

  abbrev pub text_totals : List ℕ
  text_totals = numbers_at Frames.totals out (place + head_length tbl + slots_of tbl * frame_length tbl.m)

-- the text of an accepted table, admitted or not: its frames are those of the table, and the totals are what the slots' frames add
-- up to
pub record TextAccount (tbl : Table) (out : List ℕ) (place : ℕ) : Type 0 where
  pub head : HeadOf tbl out place
  pub scheduled : Scheduled tbl (slots_of tbl) (text_frames tbl out place)
  pub counted : Counted tbl (slots_of tbl) (text_frames tbl out place) (after (slots_of tbl) (fresh tbl))
  pub totals : text_totals tbl out place ≡ totals_of tbl (slots_of tbl) (text_frames tbl out place)

-- the text of an admitted table: no frame `13` shows a miss, the light tasks keep up, and frame `14` says 0 misses and 0 dropped
-- units
pub record TextPromise (tbl : Table) (out : List ℕ) (place : ℕ) : Type 0 where
  pub accepted : T (accepts tbl)
  pub admitted : T (admitted tbl)
  pub account : TextAccount tbl out place
  pub on_time : FramesOnTime tbl (slots_of tbl) (text_frames tbl out place)
  pub lossless : text_totals tbl out place ≡ lossless_of tbl (slots_of tbl) (text_frames tbl out place)

-- what a text means that begins with a frame `11` that says 01: the input is a file of an admitted table, and the text keeps what
-- that promises
pub record TextMeans (input out : List ℕ) (place n : ℕ) : Type 0 where
  pub tbl : Table
  pub read : read_file (take input_max input) ≡ taken tbl
  -- frames `11` and `12`, the frames `13` and frame `14` are all of it
  pub text : take n (drop place out) ≡ report tbl
  pub promise : TextPromise tbl out place

-- what is proved
abbrev pub TextsMean : Type 0
TextsMean = (input out : List ℕ) (place n : ℕ) → Told input out place n → at (numbers_at Frames.verdict out place) 1 ≡ 1 → TextMeans input out place n
