-- The promises of the functions in Rattle, by their contracts alone.
use Rattle.std.proofs.Common.{Result, Ok}
use Prim.Native.Nat.{ℕ, ◌+◌, ◌-◌, ◌*◌, ◌≤◌}
use mathlib.Core.Path.{◌≡◌, sym, ap, ◌∙◌}
use mathlib.Core.List.{List}
use native.Mathlib.Omega.{arith}
use lib.Dec.{T}
use lib.ListN.{length, replicate, replicate-append-replicate, length-replicate}
use Rattle.laws.proofs.Copying.{map-replicate}
use Rattle.rules.specs.Limits.{tasks_max, clock_max}
use Rattle.rules.specs.Refusals.{Answer, taken, settle}
use Rattle.rules.specs.Tables as Rules
use Rattle.rules.specs.Tables.{size, accepts, take_list}
use Rattle.rules.specs.Files.{read_file}
use Rattle.rules.specs.Verdicts.{verdict_byte, admitted}
use Rattle.rules.specs.States as States
use Rattle.rules.specs.States.{fresh}
use Rattle.rules.specs.Forms.{well_formed}
use Rattle.rules.specs.Runs.{after}
use Rattle.rules.specs.Answers.{Ran, run_slots}
use Rattle.reading_laws.proofs.Tests.{accepts-iff}
use Rattle.slot_laws.proofs.Forms.{accepted}
use Rattle.slot_laws.proofs.Books.{run-kept, run-formed}
use Rattle.slot_laws.proofs.Boundaries.{table_at, clock-at}
use Rattle.bound.specs.Demand3.{Demand3}
use Rattle.bound.proofs.Demand3.{demand_3}
use Rattle.tables.specs.Lists.{list_rows}
use Rattle.tables.specs.Views as Tables
use Rattle.tables.specs.declared.table.Table.{Table}
use Rattle.verdicts.specs.Structs.{struct_tests, judgement_of, verdict_answer}
use Rattle.verdicts.specs.declared.table.Judgement.{Judgement}
use Rattle.machine.specs.Tables.{Opened}
use Rattle.machine.specs.Views.{units, packed, view, pack}
use Rattle.machine.proofs.Packing.{view-pack}
use Rattle.machine.proofs.Packed.{kept-sized}
use Rattle.machine.specs.Answers.{asked}
use Rattle.machine.specs.declared.state.State.{State}
use Rattle.machine.proofs.fresh.fresh.Reads as fresh-of
use Rattle.runs.specs.Slots.{frame_length}
use Rattle.runs.specs.Answers.{RunEnd, run_end, run_answer}
use Rattle.rules.specs.declared.refusal.Refusal.{Refusal}
use Rattle.runs.proofs.run.run.Reads as run_of
use Rattle.runs.proofs.run.step.Reads as step_of_lem
use Rattle.reports.proofs.Taking as Taken
use Rattle.reports.proofs.Heads.{judged_is}
use Rattle.capi.proofs.Opening.{file_takes, list_takes, takes_startable}
use Rattle.capi.proofs.Loading.{asked-packed}
use Rattle.capi.proofs.Running.{of_taken}
use Rattle.promises.specs.Runs.{Runs, Came}
use Rattle.promises.specs.Calls.{Call}
use Rattle.promises.specs.Structs.{Taking, by_file, by_list, AdmittedStruct, Reached, RunTaken, structs, Lossless, StructAccount, StructsMean}
use Rattle.promises.proofs.Verdicts.{says-admitted}
use Rattle.promises.proofs.Counting.{scheduled-counted, scheduled_on_time}
use Rattle.promises.proofs.Running as Running
use Rattle.promises.proofs.Running.{came}

-- ---- a table that came from a reader can be opened

pub taking-opened : {t : Table} → Taking t → Opened t
taking-opened (by_file c e) = takes_startable (read_file c.args.0.now) (file_takes c.args.0.now) c.permitted _ e
taking-opened (by_list c e) =
    takes_startable (take_list c.args.0 (list_rows c.args.1.0.now)) (list_takes c.args.0 (list_rows c.args.1.0.now)) c.permitted _ e

pub taking-accepted : {t : Table} → Taking t → T (accepts (Tables.view t))
taking-accepted {t} h = (accepts-iff (Tables.view t)).1 (taking-opened h).sound.bounds

-- ---- runs

module _ {tbl : Rules.Table} (t : T (accepts tbl)) (r : Call run_of.Post) {b : ℕ} (g : Reached tbl b r.args.0) where
  abbrev count : ℕ
  count = r.args.1.0

  abbrev out : List ℕ
  out = r.args.1.1.0.now

  abbrev place : ℕ
  place = r.args.1.1.1.0

  abbrev from : States.State
  from = after b (fresh tbl)

  formed : T (well_formed from)
  formed = run-formed tbl t b g.in_time

  -- a run with time and room is taken
  pub run_is_taken : b + count ≤ clock_max → place + count * frame_length tbl.m ≤ length out → (s : State) × (r.result ≡ Ok s)
  run_is_taken soon room =
      let m : from.table.m ≡ tbl.m = ap (λ (x : Rules.Table). x.m) (table_at tbl b) in (
        _,
        ap (λ (x : RunEnd). x.answer)
            (r.permitted
            ∙ ap (λ (s : State). run_answer s count out place) g.says
            ∙ Taken.run-taken from formed out place count (omega (arith, clock-at tbl b)) (rw m room)),
      )

  -- one that was taken leaves the state at the boundary after its slots, and their lines
  run_leaves : (s : State) (told : r.result ≡ Ok s) → Running.Ran structs (Reached tbl) tbl b (r, s, told)
  unfolding run_answer
  run_leaves s told =
      let ask : States.State → Answer Ran = λ st. run_slots st count out place in
      let w = of_taken out (asked r.args.0 ask) (ap (λ (x : Result State Refusal). run_end x r.exits.1.1.0.now) (sym told) ∙ r.permitted) in
      let e : ask from ≡ taken w.0 = sym (asked-packed from formed ask) ∙ ap (λ (s : State). asked s ask) (sym g.says) ∙ w.1 in
      Running.by_rules tbl t (r, s, told) b formed e w.3 (λ soon f. record { in_time = soon; says = w.2 ∙ ap pack f })

run_step : {tbl : Rules.Table} → T (accepts tbl) → (c : RunTaken) (b : ℕ) → Reached tbl b (structs.from c) → Running.Ran structs (Reached tbl) tbl b c
run_step t c b g = run_leaves t c.0 g c.1 c.2

-- a step is a run of one slot: what is said of runs holds of steps among them
pub step_as_run : Call step_of_lem.Post → Call run_of.Post
step_as_run c =
    record {
      lifetimes = c.lifetimes;
      args = (c.args.0, (1, c.args.1));
      result = c.result;
      exits = (c.exits.0, (1, c.exits.1));
      permitted = c.permitted;
    }

-- ---- from what `fresh` returned

fresh-reached : (t : Table) (f : Call fresh-of.Post) → f.args.0 ≡ t → Reached (Tables.view t) 0 f.result
unfolding after
fresh-reached t f e = record { in_time = omega arith; says = f.permitted ∙ ap (λ (x : Table). pack (fresh (Tables.view x))) e }

-- any table, admitted or not
module _ {t : Table} (h : Taking t) (f : Call fresh-of.Post) (e : f.args.0 ≡ t) {end : State} {b : ℕ} (runs : Runs structs f.result end b) where
  abbrev tbl : Rules.Table
  tbl = Tables.view t

  ok : T (accepts tbl)
  ok = taking-accepted h

  structs-came : Came (Reached tbl) tbl runs
  structs-came = came tbl ok (run_step ok) (fresh-reached t f e) runs

  -- what the struct says
  says-state : view end ≡ after b (fresh tbl)
  says-state = ap view structs-came.reached.says ∙ view-pack (after b (fresh tbl)) (kept-sized (run-kept tbl ok b))

  pub struct_account : StructAccount tbl runs
  struct_account = record { came = structs-came; counted = rw says-state (scheduled-counted structs-came.scheduled) }

-- ---- an admitted table

-- nothing for each task, in an array
none-packed : (n : ℕ) → n ≤ tasks_max → packed units (replicate n 0) ≡ replicate tasks_max (units 0)
unfolding packed
none-packed n h =
    let all : n + (tasks_max - n) ≡ tasks_max = omega arith in
    rw (map-replicate units n 0, length-replicate {A = ℕ} n 0, replicate-append-replicate n (tasks_max - n) (units 0), all)

lossless : {tbl : Rules.Table} → T (accepts tbl) → T (admitted tbl) → {b : ℕ} {s : State} → Reached tbl b s → Lossless s
unfolding pack
lossless {tbl} t u {b} g =
    let d : Demand3 tbl b = demand_3 tbl t u b in
    record {
      no_miss = ap (λ (x : State). x.misses) g.says ∙ d.no_miss;
      no_drop = ap (λ (x : State). x.dropped) g.says ∙ ap (packed units) d.no_drop ∙ none-packed (size tbl) (accepted tbl t).tasks_high;
    }

judged-admitted : {t : Table} → AdmittedStruct t → T (admitted (Tables.view t))
judged-admitted {t} a =
    let given : a.judgement ≡ judgement_of (Tables.view t) =
    judged_is t (taking-opened a.taking) (a.call.permitted ∙ ap (λ (x : Table). verdict_answer (settle (struct_tests x) (judgement_of (Tables.view x)))) a.of_it) a.judged
    in
    says-admitted (Tables.view t) (sym (ap (λ (x : Judgement). verdict_byte x.verdict) given) ∙ ap verdict_byte a.says)

pub struct_means : StructsMean
struct_means t f end b a e runs =
    let w : Came (Reached (Tables.view t)) (Tables.view t) runs = structs-came a.taking f e runs in
    let u : T (admitted (Tables.view t)) = judged-admitted a in
    record {
      accepted = taking-accepted a.taking;
      admitted = u;
      account = struct_account a.taking f e runs;
      on_time = scheduled_on_time w.scheduled (taking-accepted a.taking) u;
      lossless = lossless (taking-accepted a.taking) u w.reached;
    }
