-- What is asked from C of bytes that are the state at a boundary of a table's run: by the contracts, what each call leaves where it
-- returns 0, and that it returns 0 where it has the time and the room that it asks for.
use Prim.Native.Nat.{ℕ, ◌+◌, ◌*◌, ◌≤◌}
use mathlib.Core.Path.{◌≡◌, refl, sym, ap, subst, ◌∙◌}
use mathlib.Core.Bool.{true, not}
use mathlib.Core.List.{List, [], ◌∷◌}
use native.Mathlib.Omega.{arith}
use lib.Dec.{T}
use lib.ListN.{length}
use Rattle.laws.proofs.Tests.{never, and_T, and_left}
use Rattle.rules.specs.Refusals.{test, Answer, taken, refused, settle, and_then}
use Rattle.rules.specs.Tables.{Table, size, outside, accepts}
use Rattle.rules.specs.States.{State, fresh}
use Rattle.rules.specs.Forms.{well_formed}
use Rattle.rules.specs.Runs.{after, slot_lines, totals_numbers, totals_line, lead}
use Rattle.rules.specs.Answers.{Ran, run_slots, write_totals, ask_lead}
use Rattle.rules.specs.declared.refusal.Refusal.TheVariants.{BadTasks}
use Rattle.reading_laws.proofs.Tests.{settle-passes, settle-taken, number-iff}
use Rattle.slot_laws.proofs.Forms.{accepted}
use Rattle.slot_laws.proofs.Books.{run-kept, run-formed}
use Rattle.slot_laws.proofs.Boundaries.{table_at, clock-at}
use Rattle.slot_laws.proofs.Lengths.{length-slot_lines, length-totals_line}
use Rattle.slot_laws.proofs.Answers.{well_first, run-taken}
use Rattle.runs.specs.Slots.{frame_length}
use Rattle.stored.specs.Layout.{store, load}
use Rattle.stored.proofs.Round.{stored_loads}
use Rattle.reports.specs.Heads.{head, head_length}
use Rattle.reports.proofs.Heads.{length-head}
use Rattle.capi.specs.Calls.{sized, laid, Run, run, run_stored, give_verdict, give_totals, give_lead}
use Rattle.capi.proofs.verdict.zq_verdict.Reads as zq-verdict
use Rattle.capi.proofs.state.zq_run.Reads as zq-run
use Rattle.capi.proofs.state.zq_totals.Reads as zq-totals
use Rattle.capi.proofs.state.zq_lead.Reads as zq-lead
use Rattle.promises.specs.Buffers.{totals_length, Holds}
use Rattle.promises.specs.Frames.{HeadOf}
use Rattle.promises.specs.Calls.{Call, Held, RunCall, calls, TimeAndRoom, VerdictCall, TotalsCall, totals_read, LeadCall, lead_read}
use Rattle.promises.proofs.Holding.{held-head, held-totals}
use Rattle.promises.proofs.Replies.{zero-taken, taken-zero, laid-taken, laid-holds, totals-laid}
use Rattle.promises.proofs.Running as Running

module _ {tbl : Table} (t : T (accepts tbl)) {b : ℕ} {bytes : List ℕ} (g : Held tbl b bytes) where
  formed : T (well_formed (after b (fresh tbl)))
  formed = run-formed tbl t b g.in_time

  -- the bytes are loaded as the state, and what is asked of them is asked of it
  pub held_loads : load bytes ≡ taken (after b (fresh tbl))
  held_loads = ap load g.says ∙ stored_loads (after b (fresh tbl)) formed

  asked_of : {A : Type 0} (ask : State → Answer A) → and_then (load bytes) ask ≡ ask (after b (fresh tbl))
  asked_of ask = ap (λ (x : Answer State). and_then x ask) held_loads

-- ---- `zq_run`

-- how long the frames of so many slots are
lines_long : (tbl : Table) (b k : ℕ) → length (slot_lines k (after b (fresh tbl))) ≡ k * frame_length tbl.m
lines_long tbl b k = length-slot_lines k (after b (fresh tbl)) ∙ ap (λ (x : Table). k * frame_length x.m) (table_at tbl b)

module _ {tbl : Table} (t : T (accepts tbl)) (r : Call zq-run.Post) {b : ℕ} (g : Held tbl b r.args.0.now) where
  abbrev count : ℕ
  count = r.args.1.0

  abbrev out : List ℕ
  out = r.args.1.1.0.now

  abbrev place : ℕ
  place = r.args.1.1.1.0

  abbrev from : State
  from = after b (fresh tbl)

  -- what the contract has of the rules' answer
  abbrev made : Ran → Run
  made x = run (store x.state) x.out (length (slot_lines count from))

  run-answer : run_stored r.args.0.now count out place ≡ and_then (run_slots from count out place) (λ x. taken (made x))
  unfolding run_stored
  run-answer =
      asked_of t g (λ st. and_then (run_slots st count out place) (λ x. taken (run (store x.state) x.out (length (slot_lines count st)))))

  was_ran : (a : Answer Ran) {x : Run} → and_then a (λ y. taken (made y)) ≡ taken x → (ran : Ran) × (a ≡ taken ran) × (made ran ≡ x)
  was_ran (taken ran) e = (ran, refl, cc)
  was_ran (refused q l) e = never cc

  -- one that returns 0 leaves the state at the boundary after its slots, and their lines
  run_leaves : (zero : r.result ≡ 0) → Running.Ran calls (Held tbl) tbl b (r, zero)
  run_leaves zero =
      let w = was_ran (run_slots from count out place) (sym run-answer ∙ zero-taken _ (run_stored r.args.0.now count out place) r.permitted zero) in
      Running.by_rules tbl t (r, zero) b (formed t g) w.1 (sym (ap (λ (x : Run). x.frames.buffer) w.2)) (λ soon e.
      record { in_time = soon; says = sym (ap (λ (x : Run). x.state) w.2) ∙ ap store e })

-- a run with time and room returns 0
pub run_returns : {tbl : Table} → T (accepts tbl) → (r : Call zq-run.Post) {b : ℕ} → TimeAndRoom tbl b r → r.result ≡ 0
run_returns {tbl} t r {b} w =
    let st : State = after b (fresh tbl) in
    let k : ℕ = count t r w.held in
    taken-zero _ (run_stored r.args.0.now k _ _) r.permitted
    (run-answer t r w.held
    ∙ ap (λ (a : Answer Ran). and_then a (λ x. taken (made t r w.held x))) (run-taken k _ _ st (formed t w.held) (omega (arith, w.time, clock-at tbl b)) (omega (arith, w.room, lines_long tbl b k))))

-- and one that returns 0 sets the size to that of its frames
pub run-size : {tbl : Table} → T (accepts tbl) → (c : RunCall) {b : ℕ} → Held tbl b (calls.from c) → c.0.exits.1.1.1.1.0.now ≡ calls.slots c * frame_length tbl.m
run-size {tbl} t c {b} g =
    let r : Call zq-run.Post = c.0 in
    let w = was_ran t r g (run_slots (from t r g) (count t r g) (out t r g) (place t r g)) (sym (run-answer t r g) ∙ zero-taken _ (run_stored r.args.0.now (count t r g) (out t r g) (place t r g)) r.permitted c.1) in
    sym (ap (λ (x : Run). x.frames.size) w.2) ∙ lines_long tbl b (calls.slots c)

pub run_step : {tbl : Table} → T (accepts tbl) → (c : RunCall) (b : ℕ) → Held tbl b (calls.from c) → Running.Ran calls (Held tbl) tbl b c
run_step t c b g = run_leaves t c.0 g c.1

-- ---- `zq_verdict`

module _ {tbl : Table} (t : T (accepts tbl)) (v : Call zq-verdict.Post) {b : ℕ} (g : Held tbl b v.args.0.now) where
  abbrev verdict-out : List ℕ
  verdict-out = v.args.1.0.now

  abbrev verdict-place : ℕ
  verdict-place = v.args.1.1.0

  verdict-answer : give_verdict v.args.0.now verdict-out verdict-place ≡ laid verdict-out verdict-place (head tbl)
  unfolding give_verdict
  verdict-answer =
      asked_of t g (λ st. laid verdict-out verdict-place (head st.table)) ∙ ap (λ (x : Table). laid verdict-out verdict-place (head x)) (table_at tbl b)

  pub verdict_returns : verdict-place + head_length tbl ≤ length verdict-out → v.result ≡ 0
  verdict_returns room =
      taken-zero _ (give_verdict v.args.0.now verdict-out verdict-place) v.permitted
      (verdict-answer ∙ laid-taken verdict-out verdict-place (head tbl) (omega (arith, length-head tbl)))

  verdict-holds : v.result ≡ 0 → Holds v.exits.1.0.now verdict-place (head tbl)
  verdict-holds zero =
      laid-holds verdict-out verdict-place (head tbl) (sym verdict-answer ∙ zero-taken _ (give_verdict v.args.0.now verdict-out verdict-place) v.permitted zero)

-- frames `11` and `12` are those of the table
pub verdict_told : {tbl : Table} → T (accepts tbl) → {b : ℕ} {bytes : List ℕ} → Held tbl b bytes → (v : VerdictCall bytes) → HeadOf tbl v.0.exits.1.0.now v.0.args.1.1.0
verdict_told {tbl} t {b} g v = held-head (accepted tbl t) (verdict-holds t v.0 (subst (Held tbl b) (sym v.2) g) v.1)

-- ---- `zq_totals`

module _ {tbl : Table} (t : T (accepts tbl)) (c : Call zq-totals.Post) {b : ℕ} (g : Held tbl b c.args.0.now) where
  abbrev totals-out : List ℕ
  totals-out = c.args.1.0.now

  abbrev totals-place : ℕ
  totals-place = c.args.1.1.0

  totals-answer : give_totals c.args.0.now totals-out totals-place ≡ laid totals-out totals-place (totals_line (after b (fresh tbl)))
  unfolding give_totals
  totals-answer =
      asked_of t g (λ st. sized (length (totals_line st)) (write_totals st totals-out totals-place)) ∙ totals-laid (after b (fresh tbl)) (formed t g) totals-out totals-place

  pub totals_returns : totals-place + totals_length ≤ length totals-out → c.result ≡ 0
  totals_returns room =
      taken-zero _ (give_totals c.args.0.now totals-out totals-place) c.permitted
      (totals-answer ∙ laid-taken totals-out totals-place (totals_line (after b (fresh tbl))) (omega (arith, length-totals_line (after b (fresh tbl)))))

  totals-holds : c.result ≡ 0 → Holds c.exits.1.0.now totals-place (totals_line (after b (fresh tbl)))
  totals-holds zero =
      laid-holds totals-out totals-place (totals_line (after b (fresh tbl)))
      (sym totals-answer ∙ zero-taken _ (give_totals c.args.0.now totals-out totals-place) c.permitted zero)

-- frame `14` is read as the totals of the state
pub totals_told : {tbl : Table} → T (accepts tbl) → {b : ℕ} {bytes : List ℕ} → Held tbl b bytes → (c : TotalsCall bytes) → totals_read c ≡ totals_numbers (after b (fresh tbl))
totals_told {tbl} t {b} g c =
    held-totals (run-kept tbl t b) (omega (arith, clock-at tbl b, g.in_time)) (totals-holds t c.0 (subst (Held tbl b) (sym c.2) g) c.1)

-- ---- `zq_lead`

module _ {tbl : Table} (t : T (accepts tbl)) (l : Call zq-lead.Post) {b : ℕ} (g : Held tbl b l.args.0.now) where
  abbrev task : ℕ
  task = l.args.1.0

  lead-answer : give_lead l.args.0.now task ≡ settle (test (outside task 1 (size tbl)) BadTasks ∷ []) (lead (after b (fresh tbl)) task)
  unfolding give_lead ask_lead
  lead-answer =
      asked_of t g (λ st. ask_lead st task)
      ∙ well_first (after b (fresh tbl)) (formed t g) (test (outside task 1 (size (after b (fresh tbl)).table)) BadTasks ∷ []) (lead (after b (fresh tbl)) task)
      ∙ ap (λ (x : Table). settle (test (outside task 1 (size x)) BadTasks ∷ []) (lead (after b (fresh tbl)) task)) (table_at tbl b)

  pub lead_returns : 1 ≤ task → task ≤ size tbl → l.result ≡ 0
  lead_returns low high =
      taken-zero _ (give_lead l.args.0.now task) l.permitted
      (lead-answer ∙ settle-passes (test (outside task 1 (size tbl)) BadTasks ∷ []) (lead (after b (fresh tbl)) task) (and_T (not (outside task 1 (size tbl))) true ((number-iff 1 (size tbl) task).1 (record { least = low; most = high })) tt))

  lead_leaves : l.result ≡ 0 → (1 ≤ task) × (task ≤ size tbl) × (l.exits.1.1.0.now ≡ lead (after b (fresh tbl)) task)
  lead_leaves zero =
      let w = settle-taken (test (outside task 1 (size tbl)) BadTasks ∷ []) (lead (after b (fresh tbl)) task) _
      (sym lead-answer ∙ zero-taken _ (give_lead l.args.0.now task) l.permitted zero) in
      let within = (number-iff 1 (size tbl) task).0 (and_left (not (outside task 1 (size tbl))) _ w.0) in
      (within.least, within.most, sym w.1)

-- the lead is that of the state
pub lead_told : {tbl : Table} → T (accepts tbl) → {b : ℕ} {bytes : List ℕ} → Held tbl b bytes → (i : ℕ) (l : LeadCall bytes i)
    → (1 ≤ i) × (i ≤ size tbl) × (lead_read l ≡ lead (after b (fresh tbl)) i)
lead_told {tbl} t {b} g i l =
    let w = lead_leaves t l.0 (subst (Held tbl b) (sym l.2) g) l.1 in
    (rw l.3 at w.0, rw l.3 at w.1, w.2 ∙ ap (lead (after b (fresh tbl))) l.3)
