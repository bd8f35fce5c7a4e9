-- The answer of `write_totals`.
use Rattle.std.proofs.Common.{Ok, Err}
use Prim.Native.Nat.{ℕ, ◌-◌}
use mathlib.Core.Path.{◌≡◌, ◌∙◌}
use mathlib.Core.Bool.{false}
use mathlib.Core.List.{List, [], ◌∷◌, ◌++◌}
use borrow.Rule.Slice.PartMut.{mid_of, put_mid}
use lib.ListN.{length, drop}
use Rattle.laws.specs.Lists.{sum}
use Rattle.rules.specs.Frames.{totals, frame}
use Rattle.rules.specs.Runs.{totals_line}
use Rattle.rules.specs.Answers.{write_totals}
use Rattle.rules.specs.Results.{room_reply}
use Rattle.rules.specs.declared.refusal.Refusal.{Refusal}
use Rattle.rules.specs.declared.refusal.Refusal.TheVariants.{BadState}
use Rattle.slot_laws.proofs.Lengths.{length-totals_line}
use Rattle.tables.specs.Writes.{made, wrote, wrote_text}
use Rattle.tables.proofs.Written.{text_short, text-written}
use Rattle.machine.specs.Answers.{asked}
use Rattle.machine.specs.declared.state.State.{State}
use Rattle.machine.specs.declared.formed.Formed.{Formed}
use Rattle.machine.specs.Views.{view, formed}
use Rattle.machine.proofs.Asking.{text_ill, text_well}

-- the state is not well formed
pub totals_ill : (s : State) (out : List ℕ) (place : ℕ) → formed s ≡ false → made (Err BadState) out ≡ wrote 51 out (asked s (λ st. write_totals st out place))
unfolding write_totals
totals_ill s out place e = text_ill s totals_line out place 51 e

module _ (f : Formed) {s : State} (same : f.state.now ≡ s) (out : List ℕ) (place : ℕ) where
  -- the line is written, where there is room
  line_for : wrote_text out place (totals_line (view f.state.now)) ≡ wrote 51 out (asked s (λ st. write_totals st out place))
  unfolding write_totals
  line_for = rw (← same) (text_well f.state.now totals_line out place 51 (length-totals_line (view f.state.now)) f.good)

  -- it has no room
  pub totals_short : {r : Refusal} → room_reply (length out) place 51 ≡ Err r → made (Err r) out ≡ wrote 51 out (asked s (λ st. write_totals st out place))
  totals_short e = text_short out place (totals_line (view f.state.now)) 51 (length-totals_line (view f.state.now)) e ∙ line_for

  -- it has, and the frame is written through the lent tail
  pub totals-written : {u : Unit {0}} → room_reply (length out) place 51 ≡ Ok u → (dropped : ℕ) → dropped ≡ sum (view f.state.now).dropped → (tail : List ℕ)
      → tail ≡ frame totals (s.moves ∷ s.misses ∷ dropped ∷ []) ++ drop 51 (mid_of place (length out - place) out)
      → made (Ok 51) (put_mid place (length out - place) out tail) ≡ wrote 51 out (asked s (λ st. write_totals st out place))
  totals-written room dropped ed tail e =
      let line : frame totals (s.moves ∷ s.misses ∷ dropped ∷ []) ≡ totals_line (view f.state.now) = unfold totals_line view in (rw (← same, ed)) in
      text-written out place (totals_line (view f.state.now)) 51 (length-totals_line (view f.state.now)) room tail (rw (← line) e) ∙ line_for
