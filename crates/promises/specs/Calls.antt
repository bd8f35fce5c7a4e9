-- The calls from C that a caller makes to have a table judged and run. Each ended as its contract permits, and returned 0.
use Rattle.std.specs.Prelude.{ℕ, ◌+◌, ◌*◌, ◌≤◌, ◌≡◌, List, T, length, take, ℤ}
use Rattle.rules.specs.Limits.{clock_max}
use Rattle.rules.specs.Refusals.{Answer, taken}
use Rattle.rules.specs.Tables.{Table, accepts, take_list}
use Rattle.rules.specs.Frames as Frames
use Rattle.rules.specs.Files.{read_file}
use Rattle.rules.specs.States.{fresh}
use Rattle.rules.specs.Runs.{after}
use Rattle.tables.specs.Lists.{list_rows}
use Rattle.runs.specs.Slots.{frame_length}
use Rattle.stored.specs.Layout.{store}
use Rattle.capi.proofs.table.zq_open.Reads as zq-open
use Rattle.capi.proofs.table.zq_open_list.Reads as zq-open-list
use Rattle.capi.proofs.verdict.zq_verdict.Reads as zq-verdict
use Rattle.capi.proofs.state.zq_run.Reads as zq-run
use Rattle.capi.proofs.state.zq_totals.Reads as zq-totals
use Rattle.capi.proofs.state.zq_lead.Reads as zq-lead
use Rattle.promises.specs.Buffers.{numbers_at}
use Rattle.promises.specs.Runs.{Way}

-- a call of a function: arguments, result and what it left in the lent values, as the function's contract permits
pub record Call {K : Type 0} {A R E : K → Type 0} (post : (κs : K) → A κs → R κs → E κs → Type 0) : Type 0 where
  pub lifetimes : K
  pub args : A lifetimes
  pub result : R lifetimes
  pub exits : E lifetimes
  pub permitted : post lifetimes args result exits

-- ---- a table that was opened, and the bytes that the caller got: the front of his buffer, as long as the size that was set

pub data Opening : Table → List ℕ → Type 0 where
  -- `zq_open`: file, state, size, line
  by_file : {tbl : Table} (o : Call zq-open.Post) → o.result ≡ 0 → read_file o.args.0.now ≡ taken tbl
      → Opening tbl (take o.exits.1.1.0.now o.exits.1.0.now)
  -- `zq_open_list`: m, rows, state, size
  by_list : {tbl : Table} (o : Call zq-open-list.Post) → o.result ≡ 0 → take_list o.args.0 (list_rows o.args.1.0.now) ≡ taken tbl
      → Opening tbl (take o.exits.1.1.1.0.now o.exits.1.1.0.now)

-- the bytes are those of the state at boundary b of the table's run from the fresh state
pub record Held (tbl : Table) (b : ℕ) (bytes : List ℕ) : Type 0 where
  pub in_time : b ≤ clock_max
  pub says : bytes ≡ store (after b (fresh tbl))

-- what it comes to: the reader's answer was taken, the table is accepted, and the bytes are those of its fresh state
pub record OpenedAs (answer : Answer Table) (bytes : List ℕ) : Type 0 where
  pub tbl : Table
  pub is : answer ≡ taken tbl
  pub accepted : T (accepts tbl)
  pub held : Held tbl 0 bytes

-- ---- `zq_run`: state, count, out, at, size

abbrev pub RunCall : Type 0
RunCall = (r : Call zq-run.Post) × (r.result ≡ 0)

abbrev pub calls : Way (List ℕ) RunCall
calls =
    record {
      from = λ r. r.0.args.0.now;
      slots = λ r. r.0.args.1.0;
      lent = λ r. r.0.args.1.1.0.now;
      place = λ r. r.0.args.1.1.1.0;
      buffer = λ r. r.0.exits.1.1.0.now;
      to = λ r. r.0.exits.0.now;
    }

-- a run from boundary b on has time for its slots and room for their frames
pub record TimeAndRoom (tbl : Table) (b : ℕ) (r : Call zq-run.Post) : Type 0 where
  pub held : Held tbl b r.args.0.now
  pub time : b + r.args.1.0 ≤ clock_max
  pub room : r.args.1.1.1.0 + r.args.1.0 * frame_length tbl.m ≤ length r.args.1.1.0.now

-- ---- what is asked of some bytes, and the answer as it is read from what the call left

-- `zq_verdict`: state, out, at, size; the numbers of frame `11`
abbrev pub VerdictCall : List ℕ → Type 0
VerdictCall bytes = (v : Call zq-verdict.Post) × (v.result ≡ 0) × (v.args.0.now ≡ bytes)

abbrev pub verdict_read : {bytes : List ℕ} → VerdictCall bytes → List ℕ
verdict_read v = numbers_at Frames.verdict v.0.exits.1.0.now v.0.args.1.1.0

-- `zq_totals`: state, out, at, size; the numbers of frame `14`
abbrev pub TotalsCall : List ℕ → Type 0
TotalsCall bytes = (t : Call zq-totals.Post) × (t.result ≡ 0) × (t.args.0.now ≡ bytes)

abbrev pub totals_read : {bytes : List ℕ} → TotalsCall bytes → List ℕ
totals_read t = numbers_at Frames.totals t.0.exits.1.0.now t.0.args.1.1.0

-- `zq_lead`: state, task, lead
abbrev pub LeadCall : List ℕ → ℕ → Type 0
LeadCall bytes i = (l : Call zq-lead.Post) × (l.result ≡ 0) × (l.args.0.now ≡ bytes) × (l.args.1.0 ≡ i)

abbrev pub lead_read : {bytes : List ℕ} {i : ℕ} → LeadCall bytes i → ℤ
lead_read l = l.0.exits.1.1.0.now
