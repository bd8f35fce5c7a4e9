-- The loop of `write_pairs`: after i values their digits stand at the front of the buffer.
use Prim.Native.Nat.{ℕ, ◌+◌, ◌*◌, ◌/◌, ◌%◌, ◌≤◌, ◌<◌}
use mathlib.Core.Path.{◌≡◌, refl, sym, ap, ◌∙◌}
use mathlib.Core.List.{List, [], ◌∷◌, ◌++◌, append_assoc}
use native.Mathlib.Nat.{mod-eq_of_lt}
use native.Mathlib.Numerals.{add-one}
use native.Mathlib.Omega.{arith}
use lib.ListN.{length, get_or, take, drop, set, length-append, length-set}
use lib.Seq.{take-suc, take_all, length-take-le}
use Rattle.laws.specs.Digits.{digit, field}
use Rattle.laws.proofs.Digits.{length-field}
use Rattle.rules.specs.Frames.{fields}
use Rattle.rules.specs.Answers.{lay}
use Rattle.reading_laws.proofs.Lays.{lay-front, laid_byte}
use Rattle.frames.specs.Pairs.{pairs}

pub length_pairs : (vs : List ℕ) → length (pairs vs) ≡ 2 * length vs
unfolding pairs fields
length_pairs [] = refl
length_pairs (v ∷ vs) = length-append (field 2 v) (pairs vs) ∙ omega (arith, length-field 2 v, length_pairs vs)

pub pairs-append : (us vs : List ℕ) → pairs (us ++ vs) ≡ pairs us ++ pairs vs
unfolding pairs fields
pairs-append [] vs = refl
pairs-append (u ∷ us) vs = ap (λ (l : List ℕ). field 2 u ++ l) (pairs-append us vs) ∙ sym (append_assoc (field 2 u) (pairs us) (pairs vs))

pub two_digits : (v : ℕ) → v < 256 → pairs (v ∷ []) ≡ digit (v / 16) ∷ digit (v % 16) ∷ []
unfolding pairs fields field
two_digits v h =
    let high : v / 16 % 16 ≡ v / 16 = mod-eq_of_lt (omega arith) in
    ap (λ (d : ℕ). digit d ∷ digit (v % 16) ∷ []) high

-- after i values
pub record Going (out values out' : List ℕ) (i : ℕ) : Type 0 where
  pub long : length out' ≡ length out
  pub laid : out' ≡ lay out 0 (pairs (take i values))

module _ (out values : List ℕ) (room : 2 * length values ≤ length out) where
  pub start : Going out values out 0
  unfolding lay pairs fields
  start = record { long = refl; laid = refl }

  pub turn : {out' : List ℕ} {i : ℕ} → Going out values out' i → i < length values → get_or values i 0 < 256
      → Going out values (set (set out' (2 * i) (digit (get_or values i 0 / 16))) (2 * i + 1) (digit (get_or values i 0 % 16))) (i + 1)
  turn {out'} {i} g more byte =
      let v = get_or values i 0 in
      let text = pairs (take i values) in
      let len : length text ≡ 2 * i = length_pairs (take i values) ∙ omega (arith, length-take-le i values (omega arith)) in
      let high = laid_byte out 0 text out' g.laid (2 * i) (omega (arith, len)) (digit (v / 16)) (omega arith) in
      let text₁ = text ++ (digit (v / 16) ∷ []) in
      let len₁ : length text₁ ≡ 2 * i + 1 = length-append text (digit (v / 16) ∷ []) ∙ omega (arith, len) in
      let low = laid_byte out 0 text₁ (set out' (2 * i) (digit (v / 16))) high (2 * i + 1) (omega (arith, len₁)) (digit (v % 16)) (omega arith) in
      let whole : text₁ ++ (digit (v % 16) ∷ []) ≡ pairs (take (i + 1) values) =
      append_assoc text (digit (v / 16) ∷ []) (digit (v % 16) ∷ [])
      ∙ ap (λ (l : List ℕ). text ++ l) (sym (two_digits v byte))
      ∙ sym (pairs-append (take i values) (v ∷ []))
      ∙ ap pairs (sym (take-suc values i 0 more) ∙ ap (λ (n : ℕ). take n values) (sym (add-one i)))
      in
      record {
        long = length-set (set out' (2 * i) (digit (v / 16))) (2 * i + 1) (digit (v % 16)) ∙ length-set out' (2 * i) (digit (v / 16)) ∙ g.long;
        laid = low ∙ ap (lay out 0) whole;
      }

  pub ended : {out' : List ℕ} {i : ℕ} → Going out values out' i → length values ≤ i → out' ≡ pairs values ++ drop (2 * length values) out
  ended {out'} {i} g h =
      g.laid
      ∙ ap (λ (l : List ℕ). lay out 0 (pairs l)) (take_all i values h)
      ∙ lay-front out (pairs values)
      ∙ ap (λ (n : ℕ). pairs values ++ drop n out) (length_pairs values)
