-- Numbers as big-endian bytes: what is written is read back, and only what is written is read.
use Prim.Native.Nat.{ℕ, zero, suc, ◌+◌, ◌*◌, ◌/◌, ◌%◌, ◌^◌, ◌≤◌, ◌<◌}
use mathlib.Core.Path.{◌≡◌, refl, ap, ◌∙◌}
use mathlib.Core.List.{List, [], ◌∷◌, ◌++◌}
use native.Mathlib.Nat.{pow-suc, div-add-mod', div-lt_iff_lt-mul}
use native.Mathlib.Omega.{arith}
use lib.Arith.{digits_lt, digits_div, digits_mod}
use lib.Dec.{lit<}
use lib.ListN.{length, get_or, take}
use lib.Seq.{take-suc}
use Rattle.laws.specs.Lists.{foldl}
use Rattle.laws.specs.Places.{places}
use Rattle.laws.proofs.Backwards.{length-places}
use Rattle.stored.specs.Layout.{bytes_of, value_of}

-- every entry of a list is a byte
abbrev pub Bytes : List ℕ → Type 0
Bytes bs = (i : ℕ) → get_or bs i 0 < 256

-- one more byte after others that stand for u
after_snoc : (u : ℕ) (bs : List ℕ) (b : ℕ) → foldl (λ v x. v * 256 + x) u (bs ++ (b ∷ [])) ≡ foldl (λ v x. v * 256 + x) u bs * 256 + b
after_snoc u [] b = refl
after_snoc u (x ∷ xs) b = after_snoc (u * 256 + x) xs b

-- one more byte
pub value_of_snoc : (bs : List ℕ) (b : ℕ) → value_of (bs ++ (b ∷ [])) ≡ value_of bs * 256 + b
unfolding value_of
value_of_snoc bs b = after_snoc 0 bs b

-- a number in bytes is one in places
pub bytes_places : (w v : ℕ) → bytes_of w v ≡ places 256 (λ d. d) w v
unfolding bytes_of places
bytes_places zero v = refl
bytes_places (suc w) v = ap (λ (bs : List ℕ). bs ++ (v % 256 ∷ [])) (bytes_places w (v / 256))

-- w bytes
pub length-bytes_of : (w v : ℕ) → length (bytes_of w v) ≡ w
length-bytes_of w v = rw bytes_places (length-places 256 (λ d. d) w v)

-- a number that fits its bytes is read back
pub value_written : (w v : ℕ) → v < 256 ^ w → value_of (bytes_of w v) ≡ v
unfolding bytes_of
value_written zero v h = unfold value_of in omega arith
value_written (suc w) v h =
    let front : v / 256 < 256 ^ w = (div-lt_iff_lt-mul {k = 256} (lit< tt)).1 (rw pow-suc at h) in
    value_of_snoc (bytes_of w (v / 256)) (v % 256) ∙ rw (value_written w (v / 256) front) (div-add-mod' v 256)

module _ (bs : List ℕ) (small : Bytes bs) where
  -- w bytes stand for a number that fits them
  pub value-fits : (w : ℕ) → w ≤ length bs → value_of (take w bs) < 256 ^ w
  value-fits zero h = unfold value_of in lit< tt
  value-fits (suc w) h =
      rw (take-suc bs w 0 h, value_of_snoc (take w bs) (get_or bs w 0), pow-suc 256 w) (digits_lt (value-fits w (omega arith)) (small w))

  -- and are the very bytes that are written for it
  pub written-value : (w : ℕ) → w ≤ length bs → bytes_of w (value_of (take w bs)) ≡ take w bs
  unfolding bytes_of
  written-value zero h = refl
  written-value (suc w) h =
      let v : ℕ = value_of (take w bs) in
      rw (take-suc bs w 0 h, value_of_snoc (take w bs) (get_or bs w 0), digits_div v (small w), digits_mod v (small w), written-value w (omega arith))
