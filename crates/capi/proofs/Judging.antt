-- Frames `11` and `12` of a stored state's table, and the reply.
use Rattle.std.proofs.Common.{◌≡◌, ℕ, List, Result}
use Rattle.rules.specs.Refusals.{Answer, taken, refused, and_then}
use Rattle.rules.specs.States.{State}
use Rattle.rules.specs.declared.refusal.Refusal.{Refusal}
use Rattle.tables.specs.Writes.{made}
use Rattle.stored.specs.Layout.{load}
use Rattle.reports.specs.Heads.{head}
use Rattle.capi.specs.Calls.{reply, replied, filled, laid, give_verdict}
use Rattle.capi.specs.Answers.{numbered, head_of}
use Rattle.capi.proofs.Replying.{text-replied, refusal-replied}

module _ (out : List ℕ) (place before : ℕ) {w : Result ℕ Refusal} {out' : List ℕ} {number size : ℕ} (settled : reply number size ≡ numbered before w) where
  replied-head : (a : Answer State) → made w out' ≡ head_of a out place
      → reply number (filled out' size) ≡ replied (filled out before) (and_then a (λ st. laid out place (head st.table)))
  unfolding head_of
  replied-head (taken st) f = text-replied out before settled place (head st.table) f
  replied-head (refused r l) f = refusal-replied out before settled r l f

  pub verdict-replied : (bs : List ℕ) → made w out' ≡ head_of (load bs) out place → reply number (filled out' size) ≡ replied (filled out before) (give_verdict bs out place)
  unfolding give_verdict
  verdict-replied bs f = replied-head (load bs) f
