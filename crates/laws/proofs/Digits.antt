-- Hexadecimal digits and fields of them: what is written is read back, and only what is written is read.
use Prim.Native.Nat.{ℕ, zero, suc, ◌+◌, ◌-◌, ◌*◌, ◌/◌, ◌%◌, ◌^◌, ◌≤◌, ◌<◌}
use mathlib.Core.Path.{◌≡◌, refl, sym, ap, ◌∙◌}
use mathlib.Core.Bool.{true, false, cond, not, ◌&&◌}
use mathlib.Core.Logic.{⊎_elim}
use mathlib.Core.List.{List, [], ◌∷◌, ◌++◌, append_assoc, append-nil}
use mathlib.Core.Option.{none, some, some-injective}
use native.Mathlib.Nat.{add-zero, add-suc, pow-suc, pow-succ', mod-lt, mod-eq_of_lt, div-one, div-lt_iff_lt-mul, div-div-eq-div-mul, mul-add-div_right, mul-add-mod_self_right, one-le-pow}
use native.Mathlib.Omega.{arith}
use lib.Dec.{T, leb, ltb, leb→le, lit<}
use lib.ListN.{length, get_or}
use lib.Arith.{digits_lt, digits_div, mod-mul}
use borrow.Author.Tests.{ltb-true, ltb-false, lt-ltb, le-ltb, le-leb, lt-leb}
use Rattle.laws.specs.Digits.{digit, digit_value, field, value_after, value}
use Rattle.laws.specs.Places.{places}
use Rattle.laws.proofs.Backwards.{length-places}
use Rattle.laws.proofs.Tests.{decide, and_left, and_right}
use Rattle.laws.proofs.Options.{then_some, cond_some, guard_some}

-- ---- one digit

-- 0 to 9
digit_low : (v : ℕ) → v < 10 → digit v ≡ 48 + v
unfolding digit
digit_low v h = rw (lt-ltb v 10 h)

-- a to f
digit-high : (v : ℕ) → 10 ≤ v → digit v ≡ 87 + v
unfolding digit
digit-high v h = rw (le-ltb v 10 h)

-- the digit of a number below 16 is read as that number
pub digit_value-digit : (v : ℕ) → v < 16 → digit_value (digit v) ≡ some v
unfolding digit_value
digit_value-digit v small = ⊎_elim low high (decide (ltb v 10))
  where
    low : ltb v 10 ≡ true → digit_value (digit v) ≡ some v
    low e =
        let h : v < 10 = ltb-true v 10 e in
        rw (digit_low v h, le-leb 48 (48 + v) (omega arith), le-leb (48 + v) 57 (omega arith)) (ap some (omega arith))

    high : ltb v 10 ≡ false → digit_value (digit v) ≡ some v
    high e =
        let h : 10 ≤ v = ltb-false v 10 e in
        rw (digit-high v h, le-leb 48 (87 + v) (omega arith), lt-leb (87 + v) 57 (omega arith), le-leb 97 (87 + v) (omega arith), le-leb (87 + v) 102 (omega arith)) (ap some (omega arith))

-- a byte that is read as a number is the digit of that number
pub digit_value_some : (b d : ℕ) → digit_value b ≡ some d → (d < 16) × (b ≡ digit d)
unfolding digit_value
digit_value_some b d e = ⊎_elim low high (cond_some (leb 48 b && leb b 57) e)
  where
    low : T (leb 48 b && leb b 57) × (some (b - 48) ≡ some d) → (d < 16) × (b ≡ digit d)
    low w =
        let from : 48 ≤ b = leb→le 48 b (and_left (leb 48 b) (leb b 57) w.0) in
        let to : b ≤ 57 = leb→le b 57 (and_right (leb 48 b) (leb b 57) w.0) in
        let f : b - 48 ≡ d = some-injective _ _ w.1 in
        (omega arith, omega (arith, digit_low d (omega arith)))

    high : T (not (leb 48 b && leb b 57)) × (cond (leb 97 b && leb b 102) (some (b - 87)) none ≡ some d) → (d < 16) × (b ≡ digit d)
    high w =
        let v : T (leb 97 b && leb b 102) × (some (b - 87) ≡ some d) = guard_some (leb 97 b && leb b 102) w.1 in
        let from : 97 ≤ b = leb→le 97 b (and_left (leb 97 b) (leb b 102) v.0) in
        let to : b ≤ 102 = leb→le b 102 (and_right (leb 97 b) (leb b 102) v.0) in
        let f : b - 87 ≡ d = some-injective _ _ v.1 in
        (omega arith, omega (arith, digit-high d (omega arith)))

-- ---- fields

-- a field is a number in places
pub field_places : (w v : ℕ) → field w v ≡ places 16 digit w v
unfolding field places
field_places zero v = refl
field_places (suc w) v = ap (λ (ds : List ℕ). ds ++ (digit (v % 16) ∷ [])) (field_places w (v / 16))

-- a field of w digits is w bytes long
pub length-field : (w v : ℕ) → length (field w v) ≡ w
length-field w v = rw field_places (length-places 16 digit w v)

-- a field of w digits goes by what its number leaves of 16 ^ w
pub field-low : (w u v : ℕ) → field w (u * 16 ^ w + v) ≡ field w v
unfolding field
field-low zero u v = refl
field-low (suc w) u v =
    let e : u * 16 ^ suc w + v ≡ u * 16 ^ w * 16 + v = rw (pow-suc 16 w) (omega arith) in
    rw (e, mul-add-div_right {m = 16} (lit< tt), mul-add-mod_self_right, field-low w u (v / 16))

-- the digits of u, and then those of v, are the digits of one number
pub field-join : (a b u v : ℕ) → v < 16 ^ b → field (a + b) (u * 16 ^ b + v) ≡ field a u ++ field b v
unfolding field
field-join a zero u v h =
    let e : u * 16 ^ 0 + v ≡ u = omega arith in
    rw (add-zero, e) (sym (append-nil (field a u)))
field-join a (suc b) u v h =
    let e : u * 16 ^ suc b + v ≡ u * 16 ^ b * 16 + v = rw (pow-suc 16 b) (omega arith) in
    let low : v / 16 < 16 ^ b = (div-lt_iff_lt-mul (lit< tt)).1 (rw pow-suc at h) in
    rw (add-suc, e, mul-add-div_right {m = 16} (lit< tt), mul-add-mod_self_right, field-join a b u (v / 16) low)
    (append_assoc (field a u) (field b (v / 16)) (digit (v % 16) ∷ []))

-- two digits are those of the last byte, and before them stands the field of what is before it
module _ (v : ℕ) where
  last_byte : v ≡ v / 256 * 256 + v % 256
  last_byte = omega arith

  pub field_byte : field 2 v ≡ field 2 (v % 256)
  unfolding field
  field_byte = ap (field 2) last_byte ∙ field-join 0 2 (v / 256) (v % 256) (omega arith)

  pub field-last : (w : ℕ) → field (w + 2) v ≡ field w (v / 256) ++ field 2 v
  field-last w =
      ap (field (w + 2)) last_byte ∙ field-join w 2 (v / 256) (v % 256) (omega arith) ∙ ap (λ (l : List ℕ). field w (v / 256) ++ l) (sym field_byte)

-- the leading digit, and the field of the others
pub field-suc : (w v : ℕ) → field (suc w) v ≡ digit (v / 16 ^ w % 16) ∷ field w v
unfolding field
field-suc zero v = rw div-one
field-suc (suc w) v =
    rw (pow-succ' 16 w, ← div-div-eq-div-mul v 16 (16 ^ w)) (ap (λ (ds : List ℕ). ds ++ (digit (v % 16) ∷ [])) (field-suc w (v / 16)))

-- the digit at a place of a field
pub field_at : (w v i : ℕ) → i < w → get_or (field w v) i 0 ≡ digit (v / 16 ^ (w - 1 - i) % 16)
field_at zero v i h = absurd (omega arith)
field_at (suc w) v zero h =
    let e : suc w - 1 - 0 ≡ w = omega arith in
    rw (field-suc w v, e)
field_at (suc w) v (suc i) h =
    let e : suc w - 1 - suc i ≡ w - 1 - i = omega arith in
    rw (field-suc w v, e) (field_at w v i (omega arith))

-- what is read of a field after digits that stand for u
pub value_after-field : (u w v : ℕ) → value_after u (field w v) ≡ some (u * 16 ^ w + v % 16 ^ w)
unfolding value_after field
value_after-field u zero v = ap some (omega arith)
value_after-field u (suc w) v =
    let d : ℕ = v / 16 ^ w % 16 in
    let e : v % 16 ^ suc w ≡ d * 16 ^ w + v % 16 ^ w = rw (pow-succ' 16 w) (mod-mul v (lit< tt) (one-le-pow w 16 (lit< tt))) in
    rw (field-suc w v, digit_value-digit d (mod-lt (v / 16 ^ w) (lit< tt)), value_after-field (u * 16 + d) w v, e, pow-succ' 16 w)
    (ap some (omega arith))

-- a number that fits its field is read back
pub value-field : (w v : ℕ) → v < 16 ^ w → value (field w v) ≡ some v
unfolding value
value-field w v h = value_after-field 0 w v ∙ ap some (omega (arith, mod-eq_of_lt h))

-- digits after others that stand for u: x is what they stand for themselves
record After (u : ℕ) (bs : List ℕ) (v : ℕ) : Type 0 where
  x : ℕ
  fits : x < 16 ^ length bs
  whole : v ≡ u * 16 ^ length bs + x
  digits : bs ≡ field (length bs) x

value_after_some : (u : ℕ) (bs : List ℕ) (v : ℕ) → value_after u bs ≡ some v → After u bs v
unfolding value_after
value_after_some u [] v e =
    let f : u ≡ v = some-injective u v e in
    record { x = 0; fits = lit< tt; whole = omega arith; digits = unfold field in refl }
value_after_some u (b ∷ bs) v e =
    let w : ℕ = 16 ^ length bs in
    let s : (d : ℕ) × (digit_value b ≡ some d) × (value_after (u * 16 + d) bs ≡ some v) = then_some (digit_value b) e in
    let d : ℕ = s.0 in
    let first : (d < 16) × (b ≡ digit d) = digit_value_some b d s.1 in
    let rest : After (u * 16 + d) bs v = value_after_some (u * 16 + d) bs v s.2 in
    record {
      x = d * w + rest.x;
      fits = rw (pow-succ' 16 (length bs)) (digits_lt first.0 rest.fits);
      whole = rw (pow-succ' 16 (length bs)) (omega arith);
      digits =
          rw (field-suc (length bs) (d * w + rest.x), digits_div d rest.fits, mod-eq_of_lt first.0, field-low (length bs) d rest.x, ← first.1, ← rest.digits);
    }

-- digits that are read are the very digits that are written for what is read
pub value_some : (bs : List ℕ) (v : ℕ) → value bs ≡ some v → (v < 16 ^ length bs) × (bs ≡ field (length bs) v)
unfolding value
value_some bs v e =
    let own : After 0 bs v = value_after_some 0 bs v e in
    let same : v ≡ own.x = omega arith in
    rw same (own.fits, own.digits)
