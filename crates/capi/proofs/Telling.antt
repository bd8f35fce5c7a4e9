-- What is asked of a stored state, and the reply: the totals, and a task's lead.
use Rattle.std.proofs.Common.{◌≡◌, refl, sym, ap, ◌∙◌, ℕ, List, length, Result, Err}
use Rattle.rules.specs.Refusals.{Answer, taken, refused, and_then}
use Rattle.rules.specs.Results.{plain_reply}
use Rattle.rules.specs.States.{State}
use Rattle.rules.specs.Runs.{totals_line}
use Rattle.rules.specs.Answers.{write_totals, ask_lead}
use Rattle.rules.specs.declared.refusal.Refusal.{Refusal}
use Rattle.rules.proofs.Results.{plain_err}
use Rattle.slot_laws.proofs.Lengths.{length-totals_line}
use Rattle.tables.specs.Writes.{made, wrote}
use Rattle.machine.specs.Views.{pack}
use Rattle.machine.specs.Answers.{asked, lead_answer}
use Rattle.machine.specs.declared.state.State as Code
use Rattle.stored.specs.Layout.{load}
use Rattle.stored.specs.Answers.{state_answer}
use Rattle.capi.specs.Calls.{reply, replied, filled, sized, give_totals, give_lead}
use Rattle.capi.specs.Answers.{numbered}
use Rattle.capi.proofs.Replying.{wrote-replied}
use Rattle.capi.proofs.Loading.{Loaded, asked_loaded}

-- ---- the totals

module _ (bs : List ℕ) (out : List ℕ) (place : ℕ) where
  abbrev totals_in : Answer (List ℕ)
  totals_in = and_then (load bs) (λ st. write_totals st out place)

  -- of a state that was loaded
  pub totals_loaded : {s : Code.State} → Loaded bs s → wrote 51 out (asked s (λ st. write_totals st out place)) ≡ wrote 51 out totals_in
  totals_loaded l = ap (wrote 51 out) (asked_loaded l (λ st. write_totals st out place) ∙ sym (ap (λ (a : Answer State). and_then a (λ st. write_totals st out place)) l.read))

  -- of bytes that are no state
  pub totals_missing : {r : Refusal} → state_answer (load bs) ≡ Err r → made (Err r) out ≡ wrote 51 out totals_in
  unfolding wrote
  totals_missing e = rw (plain_err pack (load bs) e).1

  -- every frame `14` is as long
  size_given : (a : Answer State) → sized 51 (and_then a (λ st. write_totals st out place)) ≡ and_then a (λ st. sized (length (totals_line st)) (write_totals st out place))
  unfolding sized
  size_given (taken st) = rw (length-totals_line st)
  size_given (refused r l) = refl

  pub totals-replied : (before : ℕ) {w : Result ℕ Refusal} {out' : List ℕ} {number size : ℕ} → reply number size ≡ numbered before w → made w out' ≡ wrote 51 out totals_in
      → reply number (filled out' size) ≡ replied (filled out before) (give_totals bs out place)
  unfolding give_totals
  totals-replied before settled e = wrote-replied out before settled 51 totals_in e ∙ ap (replied (filled out before)) (size_given (load bs))

-- ---- the lead

module _ (bs : List ℕ) (task : ℕ) where
  -- of a state that was loaded
  pub lead_loaded : {s : Code.State} → Loaded bs s → lead_answer (asked s (λ st. ask_lead st task)) ≡ plain_reply (λ z. z) (give_lead bs task)
  unfolding give_lead
  lead_loaded l = ap lead_answer (asked_loaded l (λ st. ask_lead st task) ∙ sym (ap (λ (a : Answer State). and_then a (λ st. ask_lead st task)) l.read))

  -- of bytes that are no state
  pub lead_missing : {r : Refusal} → state_answer (load bs) ≡ Err r → Err r ≡ plain_reply (λ z. z) (give_lead bs task)
  unfolding give_lead
  lead_missing e = rw (plain_err pack (load bs) e).1

-- the number and the value of an answer without its line
pub plain-replied : {A : Type 0} (before : A) (a : Answer A) → numbered before (plain_reply (λ v. v) a) ≡ replied before a
unfolding replied
plain-replied before (taken v) = refl
plain-replied before (refused r l) = refl
