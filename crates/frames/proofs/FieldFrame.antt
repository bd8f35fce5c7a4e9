-- The line of a frame is its type, its fields one after the other, and the line feed.
use Prim.Native.Nat.{ℕ, ◌+◌, ◌≤◌}
use mathlib.Core.Path.{◌≡◌, refl, ap, ◌∙◌}
use mathlib.Core.List.{List, [], ◌∷◌, ◌++◌, map}
use native.Mathlib.Omega.{arith}
use lib.ListN.{length, drop, set}
use Rattle.laws.specs.Digits.{field}
use Rattle.rules.specs.Frames.{line_feed, fields, frame}
use Rattle.reading_laws.proofs.Laying.{Laid, fed}
use Rattle.frames.specs.Fields.{fields_frame, fields_bytes}
use Rattle.frames.proofs.FieldLoop.{pieces_of, wide}

fields_pieces : (fs : List (ℕ × ℕ)) → pieces_of field fs ≡ fields (map (λ f. f.0) fs) (map (λ f. f.1) fs)
unfolding fields
fields_pieces [] = refl
fields_pieces (f ∷ fs) = ap (λ (l : List ℕ). field f.0 f.1 ++ l) (fields_pieces fs)

pub framed : (out : List ℕ) (kind : ℕ) (fs : List (ℕ × ℕ)) {now : List ℕ} {end feed : ℕ} → fields_bytes fs ≤ length out
    → Laid out (field 2 kind ++ pieces_of field fs) now end → end ≡ 2 + wide fs → feed ≡ end → set now feed line_feed ≡ fields_frame kind fs ++ drop (fields_bytes fs) out
unfolding frame
framed out kind fs {now} room laid there after =
    ap (λ (k : ℕ). set now k line_feed) after
    ∙ fed out laid (fields_bytes fs) (omega (arith, there)) room
    ∙ ap (λ (l : List ℕ). (field 2 kind ++ l) ++ (line_feed ∷ []) ++ drop (fields_bytes fs) out) (fields_pieces fs)
