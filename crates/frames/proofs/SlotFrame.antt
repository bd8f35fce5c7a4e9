-- The frame of a slot by its fields.
use Prim.Native.Nat.{ℕ, ◌/◌}
use mathlib.Core.Path.{◌≡◌, refl, sym, ap, ◌∙◌}
use mathlib.Core.List.{List, [], ◌∷◌, ◌++◌, append_assoc, append-nil}
use native.Mathlib.Omega.{arith}
use lib.ListN.{length, replicate, length-append}
use Rattle.laws.specs.Digits.{field}
use Rattle.laws.proofs.Digits.{length-field, field-last}
use Rattle.rules.specs.Frames.{line_feed, fields, frame}
use Rattle.rules.specs.Runs.{slot_line}
use Rattle.frames.specs.Pairs.{pairs}
use Rattle.frames.specs.Slots.{shown_as}

fields-after : (cores rest : List ℕ) → fields (replicate (length cores) 2 ++ (2 ∷ 2 ∷ [])) (cores ++ rest) ≡ pairs cores ++ fields (2 ∷ 2 ∷ []) rest
unfolding fields pairs
fields-after [] rest = refl
fields-after (i ∷ is) rest =
    ap (λ (l : List ℕ). field 2 i ++ l) (fields-after is rest) ∙ sym (append_assoc (field 2 i) (pairs is) (fields (2 ∷ 2 ∷ []) rest))

regroup : (a b c d e f : List ℕ) → a ++ b ++ c ++ d ++ e ++ f ≡ a ++ (b ++ (c ++ (d ++ (e ++ [])))) ++ f
regroup a b c d e f = simp (append_assoc, append-nil)

pub slot_parts : (s : ℕ) (cores : List ℕ) (moves misses : ℕ)
    → slot_line (shown_as s cores moves misses) ≡ field 2 0x13 ++ field 8 s ++ pairs cores ++ field 2 moves ++ field 2 misses ++ (line_feed ∷ [])
unfolding slot_line frame fields
slot_parts s cores moves misses =
    ap (λ (l : List ℕ). field 2 0x13 ++ (field 8 s ++ l) ++ (line_feed ∷ [])) (fields-after cores (moves ∷ misses ∷ []))
    ∙ sym (regroup (field 2 0x13) (field 8 s) (pairs cores) (field 2 moves) (field 2 misses) (line_feed ∷ []))

pub number-long : (s : ℕ) → length (field 2 0x13 ++ field 8 s) ≡ 10
number-long s = length-append (field 2 0x13) (field 8 s) ∙ omega (arith, length-field 2 0x13, length-field 8 s)

-- the type and the slot's number by their bytes
pub number_bytes : (s : ℕ) → field 2 0x13 ++ field 8 s ≡ field 2 0x13 ++ field 2 (s / 256 / 256 / 256) ++ field 2 (s / 256 / 256) ++ field 2 (s / 256) ++ field 2 s
number_bytes s =
    let a : List ℕ = field 2 (s / 256 / 256 / 256) in
    let b : List ℕ = field 2 (s / 256 / 256) in
    let c : List ℕ = field 2 (s / 256) in
    let d : List ℕ = field 2 s in
    let number : field 8 s ≡ a ++ b ++ c ++ d =
    field-last s 6 ∙ ap (λ (l : List ℕ). l ++ d) (field-last (s / 256) 4) ∙ ap (λ (l : List ℕ). l ++ c ++ d) (field-last (s / 256 / 256) 2) in
    ap (λ (l : List ℕ). field 2 0x13 ++ l) number ∙ regroup_bytes (field 2 0x13) a b c d
  where
    regroup_bytes : (t a b c d : List ℕ) → t ++ (a ++ b ++ c ++ d) ≡ t ++ a ++ b ++ c ++ d
    regroup_bytes t a b c d = simp append_assoc
