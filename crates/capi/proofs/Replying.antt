-- What a function answered that writes into a buffer, as the call returns and leaves it.
use Rattle.std.proofs.Common.{Result, Err}
use Prim.Native.Nat.{ℕ}
use mathlib.Core.Path.{◌≡◌, ap, ◌∙◌}
use mathlib.Core.List.{List, [], ◌∷◌}
use lib.ListN.{length}
use Rattle.rules.specs.Refusals.{Answer, taken, refused, settle}
use Rattle.rules.specs.Answers.{lay, room_test}
use Rattle.rules.specs.declared.refusal.Refusal.{Refusal}
use Rattle.tables.specs.Writes.{Wrote, made, wrote, wrote_text}
use Rattle.capi.specs.Calls.{reply, replied, Filled, filled, sized, laid}
use Rattle.capi.specs.Answers.{numbered}

-- the answer and the buffer, then the number and the size
module _ (out : List ℕ) (before : ℕ) {w : Result ℕ Refusal} {out' : List ℕ} {number size : ℕ} (settled : reply number size ≡ numbered before w) where
  -- what was written is one value
  joined : {v : Result ℕ Refusal} {b : List ℕ} → made w out' ≡ made v b → reply number (filled out' size) ≡ reply (numbered before v).number (filled b (numbered before v).left)
  joined {v} e =
      let both : reply number size ≡ numbered before v = settled ∙ ap (λ (x : Wrote). numbered before x.answer) e in
      λ j. reply (both j).number (filled (e j).out (both j).left)

  pub wrote-replied : (n : ℕ) (a : Answer (List ℕ)) → made w out' ≡ wrote n out a → reply number (filled out' size) ≡ replied (filled out before) (sized n a)
  unfolding wrote sized replied
  wrote-replied n (taken b) e = joined e
  wrote-replied n (refused r l) e = joined e

  pub text-replied : (place : ℕ) (txt : List ℕ) → made w out' ≡ wrote_text out place txt → reply number (filled out' size) ≡ replied (filled out before) (laid out place txt)
  unfolding wrote_text laid
  text-replied place txt e = wrote-replied (length txt) (settle (room_test out place (length txt) ∷ []) (lay out place txt)) e

  -- nothing was written
  pub refusal-replied : (r : Refusal) (l : ℕ) → made w out' ≡ made (Err r) out → reply number (filled out' size) ≡ replied {A = Filled} (filled out before) (refused r l)
  unfolding replied
  refusal-replied r l e = joined e
