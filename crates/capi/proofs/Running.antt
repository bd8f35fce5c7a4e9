-- A run of a stored state: what it leaves, and the reply.
use Rattle.std.proofs.Common.{◌≡◌, refl, sym, ap, ◌∙◌, ℕ, ◌*◌, ◌≤◌, List, length, arith, Result, Ok, Err}
use Rattle.std.proofs.Math.Seq.{drop-length}
use mathlib.Core.List.{append-nil}
use lib.Dec.{T}
use Rattle.laws.proofs.Tests.{never}
use Rattle.rules.specs.Limits.{cores_max}
use Rattle.rules.specs.Refusals.{number_of, Answer, taken, refused}
use Rattle.rules.specs.Tables.{Table, size}
use Rattle.rules.specs.States.{State}
use Rattle.rules.specs.Forms.{well_formed}
use Rattle.rules.specs.Runs.{after, slot_lines}
use Rattle.rules.specs.Answers.{Ran, lay, run_slots}
use Rattle.rules.specs.declared.refusal.Refusal.{Refusal}
use Rattle.rules.proofs.Results.{plain_err}
use Rattle.reading_laws.proofs.Lays.{lay-front}
use Rattle.slot_laws.proofs.Forms.{formed-kept}
use Rattle.slot_laws.proofs.Books.{after-formed}
use Rattle.slot_laws.proofs.After.{after_table}
use Rattle.slot_laws.proofs.Lengths.{length-slot_lines}
use Rattle.slot_laws.proofs.Answers.{ran_so, taken_ran}
use Rattle.tables.specs.Views as Tables
use Rattle.tables.proofs.Written.{text-laid}
use Rattle.tables.specs.Writes.{Wrote, made}
use Rattle.machine.specs.Views.{pack}
use Rattle.machine.specs.declared.state.State as Code
use Rattle.runs.specs.Slots.{frame_length}
use Rattle.runs.specs.Answers.{RunEnd, run_end, ended, run_answer}
use Rattle.stored.specs.Layout.{length_of, store, load}
use Rattle.stored.specs.Answers.{state_answer, stored_state}
use Rattle.stored.proofs.Round.{length-store}
use Rattle.capi.specs.Calls.{reply, replied, run, run_stored}
use Rattle.capi.specs.Answers.{numbered, ran_as}
use Rattle.capi.proofs.Loading.{stored_packed, Loaded, asked_loaded}

-- ---- bytes stored over bytes of the same length

module _ (st : State) (w : T (well_formed st)) (bs : List ℕ) (len : length (store st) ≡ length bs) where
  all_laid : lay bs 0 (store st) ≡ store st
  all_laid = lay-front bs (store st) ∙ rw (len, drop-length bs) (append-nil (store st))

  -- storing is not refused, and nothing of what stood there is left
  stored_over : stored_state (pack st) bs 0 ≡ made (Ok (length (store st))) (store st)
  stored_over = stored_packed st w bs 0 ∙ text-laid bs 0 (store st) (length (store st)) refl (omega arith) ∙ ap (made (Ok (length (store st)))) all_laid

packed-m : (st : State) → (pack st).table.m.0 ≡ st.table.m
unfolding pack Tables.pack
packed-m st = refl

-- ---- what a run answered

of_refused : (out : List ℕ) {out' : List ℕ} {r : Refusal} (b : Answer Ran) → run_end (Err r) out' ≡ ended out b → (l : ℕ) × (b ≡ refused r l) × (out' ≡ out)
of_refused out {r = r} (taken ran) e =
    let o : ◌≡◌ {A = Result Code.State Refusal} (Err r) (Ok (pack ran.state)) = ap (λ (x : RunEnd). x.answer) e in
    never cc
of_refused out {r = r} (refused q l) e =
    let o : ◌≡◌ {A = Result Code.State Refusal} (Err r) (Err q) = ap (λ (x : RunEnd). x.answer) e in
    (l, cc, ap (λ (x : RunEnd). x.out) e)

pub of_taken : (out : List ℕ) {out' : List ℕ} {s : Code.State} (b : Answer Ran) → run_end (Ok s) out' ≡ ended out b
    → (ran : Ran) × (b ≡ taken ran) × (s ≡ pack ran.state) × (out' ≡ ran.out)
of_taken out {s = s} (taken ran) e =
    let o : ◌≡◌ {A = Result Code.State Refusal} (Ok s) (Ok (pack ran.state)) = ap (λ (x : RunEnd). x.answer) e in
    (ran, refl, cc, ap (λ (x : RunEnd). x.out) e)
of_taken out {s = s} (refused q l) e =
    let o : ◌≡◌ {A = Result Code.State Refusal} (Ok s) (Err q) = ap (λ (x : RunEnd). x.answer) e in
    never cc

-- ---- a run of a stored state

module _ (bs : List ℕ) (count : ℕ) (out : List ℕ) (place : ℕ) where
  -- the bytes are no state
  pub run-missing : {r : Refusal} → state_answer (load bs) ≡ Err r → (before : ℕ) → reply (number_of r) (run bs out before) ≡ replied (run bs out before) (run_stored bs count out place)
  unfolding run_stored replied
  run-missing e before = rw (plain_err pack (load bs) e).1

  module _ {s : Code.State} (l : Loaded bs s) {x : Result Code.State Refusal} {out' : List ℕ} (e : run_end x out' ≡ run_answer s count out place) where
    by_state : run_end x out' ≡ ended out (run_slots l.st count out place)
    unfolding run_answer
    by_state = e ∙ ap (ended out) (asked_loaded l (λ st. run_slots st count out place))

    -- the run is refused
    pub run-refused : {r : Refusal} → x ≡ Err r → (before : ℕ) → reply (number_of r) (run bs out' before) ≡ replied (run bs out before) (run_stored bs count out place)
    unfolding run_stored replied
    run-refused told before =
        let found = of_refused out (run_slots l.st count out place) (ap (λ (y : Result Code.State Refusal). run_end y out') (sym told) ∙ by_state) in
        rw (l.read, found.1, found.2)

    -- it is taken
    module _ {next : Code.State} (told : x ≡ Ok next) where
      found : (ran : Ran) × (run_slots l.st count out place ≡ taken ran) × (next ≡ pack ran.state) × (out' ≡ ran.out)
      found = of_taken out (run_slots l.st count out place) (ap (λ (y : Result Code.State Refusal). run_end y out') (sym told) ∙ by_state)

      abbrev end : State
      end = after count l.st

      same : found.0 ≡ ran_so count out place l.st
      same = (taken_ran count out place l.st l.good found.1).2

      good : T (well_formed end)
      good = after-formed count l.st l.good (taken_ran count out place l.st l.good found.1).0

      as_long : length (store end) ≡ length bs
      as_long = length-store end ∙ ap (λ (t : Table). length_of (size t)) (after_table count l.st) ∙ sym l.long

      stored_so : stored_state next bs 0 ≡ made (Ok (length (store end))) (store end)
      stored_so = ap (λ (y : Code.State). stored_state y bs 0) (found.2 ∙ ap (λ (y : Ran). pack y.state) same) ∙ stored_over end good bs as_long

      m-is : s.table.m.0 ≡ l.st.table.m
      m-is = ap (λ (y : Code.State). y.table.m.0) (sym l.packed) ∙ packed-m l.st

      pub cores-few : s.table.m.0 ≤ cores_max
      cores-few = omega (arith, m-is, (formed-kept l.st l.good).taken.cores_high)

      module _ {kept : Result ℕ Refusal} {state' : List ℕ} (stored : made kept state' ≡ stored_state next bs 0) where
        -- storing the state after it is not refused
        pub kept-ok : kept ≡ Ok (length (store end))
        kept-ok = ap (λ (w : Wrote). w.answer) (stored ∙ stored_so)

        pub run-taken : {size : ℕ} → size ≡ count * frame_length s.table.m.0 → (before : ℕ)
            → reply 0 (run state' out' size) ≡ replied (run bs out before) (run_stored bs count out place)
        unfolding run_stored replied
        run-taken {size} long before =
            let bytes : state' ≡ store end = ap (λ (w : Wrote). w.out) (stored ∙ stored_so) in
            let lines : out' ≡ lay out place (slot_lines count l.st) = found.3 ∙ ap (λ (y : Ran). y.out) same in
            let sized : size ≡ length (slot_lines count l.st) = long ∙ ap (λ (m : ℕ). count * frame_length m) m-is ∙ sym (length-slot_lines count l.st) in
            rw (l.read, found.1, same) (λ j. reply 0 (run (bytes j) (lines j) (sized j)))

-- the reply of a run, with the number and the length of its answer
pub ran-replied : (x : Result ℕ Refusal) (before : ℕ) {number size : ℕ} {state out : List ℕ} → reply number size ≡ numbered before x
    → reply number (run state out size) ≡ ran_as before x state out
ran-replied (Ok n) before {state = state} {out = out} e = λ j. reply (e j).number (run state out (e j).left)
ran-replied (Err r) before {state = state} {out = out} e = λ j. reply (e j).number (run state out (e j).left)
