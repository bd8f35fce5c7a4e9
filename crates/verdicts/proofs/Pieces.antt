-- How long the lines `11` and `12` of a table are.
use Prim.Native.Nat.{ℕ, ◌+◌, ◌*◌}
use mathlib.Core.Path.{◌≡◌, refl, ◌∙◌}
use mathlib.Core.List.{List, [], ◌∷◌, ◌++◌}
use native.Mathlib.Omega.{arith}
use lib.ListN.{length, length-append}
use Rattle.laws.specs.Digits.{field}
use Rattle.laws.proofs.Digits.{length-field}
use Rattle.rules.specs.Frames as Frames
use Rattle.rules.specs.Frames.{line_feed, frame}
use Rattle.rules.specs.Runs.{order_line}
use Rattle.reading_laws.proofs.Frames.{length-frame}
use Rattle.frames.specs.Pairs.{pairs}
use Rattle.frames.proofs.PairLoop.{length_pairs}

pub length-verdict : (b heavy h : ℕ) → length (frame Frames.verdict (b ∷ heavy ∷ h ∷ [])) ≡ 15
length-verdict b heavy h = length-frame Frames.verdict (b ∷ heavy ∷ h ∷ []) refl

pub length-order_line : (ranks : List ℕ) → length (order_line ranks) ≡ 2 * length ranks + 3
unfolding order_line frame pairs
length-order_line ranks =
    length-append (field 2 0x12 ++ pairs ranks) (line_feed ∷ [])
    ∙ omega (arith, length-append (field 2 0x12) (pairs ranks), length-field 2 0x12, length_pairs ranks)
