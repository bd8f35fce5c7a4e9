-- Digits read one at a time from the front: what one more digit does to the number that is read.
use Prim.Native.Nat.{ℕ, ◌+◌, ◌*◌, ◌^◌, ◌≤◌, ◌<◌}
use mathlib.Core.Path.{◌≡◌, refl, sym, ap, ◌∙◌}
use mathlib.Core.List.{List, ◌∷◌}
use mathlib.Core.Option.{none, some}
use native.Mathlib.Nat.{pow-suc, lt_of_lt_of_le, pow-le-pow_right}
use native.Mathlib.Numerals.{add-one}
use native.Mathlib.Omega.{arith}
use lib.Dec.{lit<}
use lib.ListN.{length, get_or, drop, drop_of_length-le}
use lib.Seq.{drop-cons}
use Rattle.laws.specs.Digits.{digit_value, value_after, value}
use Rattle.laws.proofs.Digits.{digit_value_some}

module _ (v b : ℕ) (bs : List ℕ) where
  -- one more digit
  value-digit : {d : ℕ} → digit_value b ≡ some d → value_after v (b ∷ bs) ≡ value_after (v * 16 + d) bs
  unfolding value_after
  value-digit e = rw e

  -- a byte that is no digit
  value_stray : digit_value b ≡ none → value_after v (b ∷ bs) ≡ none
  unfolding value_after
  value_stray e = rw e

-- i digits stand for a number below 16 ^ i
below_more : (i : ℕ) {v d : ℕ} → v < 16 ^ i → d < 16 → v * 16 + d < 16 ^ (i + 1)
below_more i h k = rw (add-one i, pow-suc 16 i) (omega arith)

-- up to 16 digits fit 64 bits
below_fits : (i : ℕ) {v : ℕ} → i ≤ 16 → v < 16 ^ i → v < 2 ^ 64
below_fits i h k = lt_of_lt_of_le k (pow-le-pow_right {n = 16} (lit< tt) h)

-- i digits of a stretch have been read, and stand for v
pub record Reading (bs : List ℕ) (v i : ℕ) : Type 0 where
  pub below : v < 16 ^ i
  pub same : value_after v (drop i bs) ≡ value bs

module _ (bs : List ℕ) where
  -- nothing is read yet
  pub reading_starts : Reading bs 0 0
  unfolding value
  reading_starts = record { below = lit< tt; same = refl }

  module _ (v i : ℕ) (r : Reading bs v i) (h : i < length bs) where
    next : drop i bs ≡ get_or bs i 0 ∷ drop (i + 1) bs
    next = rw add-one (drop-cons bs i 0 h)

    -- one more digit is read
    pub reading_goes_on : {d : ℕ} → digit_value (get_or bs i 0) ≡ some d → Reading bs (v * 16 + d) (i + 1)
    reading_goes_on {d} e =
        record {
          below = below_more i r.below (digit_value_some (get_or bs i 0) d e).0;
          same = sym (ap (value_after v) next ∙ value-digit v (get_or bs i 0) (drop (i + 1) bs) e) ∙ r.same;
        }

    -- a byte that is no digit ends it, and the stretch stands for nothing
    pub reading_breaks_off : digit_value (get_or bs i 0) ≡ none → value bs ≡ none
    reading_breaks_off e = sym r.same ∙ ap (value_after v) next ∙ value_stray v (get_or bs i 0) (drop (i + 1) bs) e

    -- the number fits 64 bits after one more digit
    pub reading_fits : length bs ≤ 16 → {d : ℕ} → d < 16 → v * 16 + d < 2 ^ 64
    reading_fits small k = below_fits (i + 1) (omega arith) (below_more i r.below k)

  -- all digits are read, and the stretch stands for v
  pub reading_ends : (v i : ℕ) → Reading bs v i → length bs ≤ i → value bs ≡ some v
  unfolding value_after
  reading_ends v i r h = sym r.same ∙ rw (drop_of_length-le bs h)
