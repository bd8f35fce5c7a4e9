-- Bytes read by the library's method.
use Prim.Native.Nat.{ℕ, zero, suc, ◌+◌, ◌-◌, ◌*◌, ◌≤◌, ◌<◌}
use mathlib.Core.Path.{◌≡◌, refl, ap, ◌∙◌}
use mathlib.Core.List.{List, [], ◌++◌, append-nil}
use native.Mathlib.Omega.{arith}
use borrow.Rule.Slice.PartMut.{put_mid}
use lib.ListN.{length, get_or, take, drop, replicate, length-append, length-replicate, length-drop}
use lib.Seq.{take-suc, take_all, length-take-le}
use Rattle.std.proofs.lemmas.List.{take-replicate, drop_all}
use Rattle.std.specs.Int.{w64, from_be_bytes}
use Rattle.stored.specs.Layout.{value_of}
use Rattle.stored.specs.Places.{number_at, Within, Read}
use Rattle.stored.proofs.Numbers.{Bytes, value_of_snoc, value-fits}
use Rattle.stored.proofs.Fields.{bytes_drop}

-- one more byte
value_more : (bs : List ℕ) (j : ℕ) → j < length bs → value_of (take (suc j) bs) ≡ value_of (take j bs) * 256 + get_or bs j 0
value_more bs j h = ap value_of (take-suc bs j 0 h) ∙ value_of_snoc (take j bs) (get_or bs j 0)

-- what the library makes of eight bytes is the number that they stand for
eight_bytes : (bs : List ℕ) → length bs ≡ 8 → from_be_bytes w64 bs ≡ value_of bs
eight_bytes bs e =
    let none : value_of (take 0 bs) ≡ 0 = unfold value_of in refl in
    let whole : value_of (take 8 bs) ≡ value_of bs = ap value_of (take_all 8 bs (omega arith)) in
    let more : (j : ℕ) → j < 8 → value_of (take (suc j) bs) ≡ value_of (take j bs) * 256 + get_or bs j 0 = λ j l. value_more bs j (omega arith) in
    omega (
      arith,
      none,
      whole,
      more 0 (omega arith),
      more 1 (omega arith),
      more 2 (omega arith),
      more 3 (omega arith),
      more 4 (omega arith),
      more 5 (omega arith),
      more 6 (omega arith),
      more 7 (omega arith),
    )

-- zeros before a number change nothing
value_zeros : (k : ℕ) (bs : List ℕ) → value_of (replicate k 0 ++ bs) ≡ value_of bs
unfolding value_of
value_zeros zero bs = refl
value_zeros (suc k) bs = value_zeros k bs

-- a number in the last of eight bytes, and zeros before it
last_bytes : (bs : List ℕ) (w : ℕ) → w ≤ 8 → length bs ≡ w → from_be_bytes w64 (put_mid (8 - w) (8 - (8 - w)) (replicate 8 0) bs) ≡ value_of bs
last_bytes bs w h e =
    let zeros : List ℕ = replicate 8 0 in
    let after : List ℕ = drop (8 - (8 - w)) (drop (8 - w) zeros) in
    let before : take (8 - w) zeros ≡ replicate (8 - w) 0 = take-replicate (8 - w) 8 0 (omega arith) in
    let none : after ≡ [] = drop_all (8 - (8 - w)) (drop (8 - w) zeros) (omega (arith, length-drop (8 - w) zeros, length-replicate {A = ℕ} 8 0)) in
    let whole : put_mid (8 - w) (8 - (8 - w)) zeros bs ≡ replicate (8 - w) 0 ++ bs =
    ap (λ (l : List ℕ). l ++ (bs ++ after)) before
    ∙ ap (λ (l : List ℕ). replicate (8 - w) 0 ++ (bs ++ l)) none
    ∙ ap (λ (l : List ℕ). replicate (8 - w) 0 ++ l) (append-nil bs)
    in
    eight_bytes _ (ap length whole ∙ length-append (replicate (8 - w) 0) bs ∙ omega (arith, length-replicate {A = ℕ} (8 - w) 0))
    ∙ ap value_of whole
    ∙ value_zeros (8 - w) bs

-- bytes of a string that were copied there
pub copied_reads : {s : List ℕ} {from w : ℕ} {part : List ℕ} {r : ℕ} → Within s from w → Bytes s → part ≡ take (from + w - from) (drop from s)
    → r ≡ from_be_bytes w64 (put_mid (8 - w) (8 - (8 - w)) (replicate 8 0) part) → Read s from w r
unfolding number_at
copied_reads {s} {from} {w} {part} {r} there small copied made =
    let bs : List ℕ = take w (drop from s) in
    let width : from + w - from ≡ w = omega arith in
    let same : part ≡ bs = rw width at copied in
    let long : length bs ≡ w = length-take-le w (drop from s) (omega (arith, length-drop from s, there)) in
    let value : r ≡ value_of bs = made ∙ last_bytes part w there.narrow (ap length same ∙ long) ∙ ap value_of same in
    record {
      value = value;
      fits = rw value (value-fits (drop from s) (bytes_drop from s small) w (omega (arith, length-drop from s, there)));
    }
