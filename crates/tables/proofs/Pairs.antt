-- Reading the frame of two numbers, test by test: each test that fails ends it, and where none does it gives both numbers.
use Prim.Native.Nat.{ℕ, suc, ◌+◌, ◌^◌, ◌≤◌, ◌<◌}
use mathlib.Core.Path.{◌≡◌, refl, sym, ap, ◌∙◌}
use mathlib.Core.List.{List, [], ◌∷◌}
use mathlib.Core.Option.{Option, none, some}
use native.Mathlib.Nat.{lt_of_lt_of_le, pow-le-pow_right}
use native.Mathlib.Omega.{arith}
use lib.Dec.{leb, lit<}
use lib.ListN.{length, get_or, take, drop, length-append, length-take, length-drop}
use lib.Seq.{drop-drop, drop-cons, drop_at}
use borrow.Author.Tests.{le-leb, eq-eqb, ne_eqb}
use Rattle.laws.specs.Digits.{value}
use Rattle.laws.proofs.Tests.{cond_same}
use Rattle.laws.proofs.Digits.{value_some}
use Rattle.rules.specs.Frames.{Read, line_feed, frame, read_field, read_fields, read_end, read_frame}
use Rattle.reading_laws.specs.Frames.{Fits, Begins}
use Rattle.reading_laws.proofs.Frames.{read_none, frame-read, length-frame}
use Rattle.tables.specs.Pairs.{pair_shape}

module _ (s : List ℕ) (j w : ℕ) where
  field_stops : value (take w (drop j s)) ≡ none → read_field w (drop j s) ≡ none
  unfolding read_field
  field_stops e = rw (e, cond_same {A = Option (Read ℕ)} (leb w (length (drop j s))) none)

  field_goes : {v : ℕ} → j + w ≤ length s → value (take w (drop j s)) ≡ some v → read_field w (drop j s) ≡ some (record { got = v; rest = drop (j + w) s })
  unfolding read_field
  field_goes h e =
      rw (le-leb w (length (drop j s)) (omega (arith, length-drop j s)), e, drop-drop w j s)

-- a number of up to 8 digits fits 32 bits
pub number_fits : (s : List ℕ) (j w : ℕ) {v : ℕ} → w ≤ 8 → value (take w (drop j s)) ≡ some v → v < 2 ^ 32
number_fits s j w {v} small e =
    let short : length (take w (drop j s)) ≤ 8 = omega (arith, length-take w (drop j s)) in
    lt_of_lt_of_le (value_some (take w (drop j s)) v e).0 (pow-le-pow_right {n = 16} (lit< tt) short)

-- a frame of two numbers holds two numbers
two_numbers : (w : ℕ) (vs : List ℕ) → Fits (w ∷ w ∷ []) vs → length vs ≡ 2
two_numbers w [] fits = absurd fits
two_numbers w (v ∷ []) fits = absurd fits.1
two_numbers w (v ∷ u ∷ []) fits = refl
two_numbers w (v ∷ u ∷ x ∷ vs) fits = absurd fits.1.1

-- a text with no room for the frame
pub pair_short : (s : List ℕ) (kind w : ℕ) → length s ≤ 2 + w + w → read_frame (pair_shape kind w) s ≡ none
pair_short s kind w h = read_none (pair_shape kind w) s none_begins
  where
    none_begins : ¬ Begins (pair_shape kind w) s
    none_begins b =
        let long : length (frame (pair_shape kind w) b.numbers) ≡ 3 + (w + (w + 0)) =
        length-frame (pair_shape kind w) b.numbers (two_numbers w b.numbers b.fits)
        in
        omega (arith, ap length b.text ∙ length-append (frame (pair_shape kind w) b.numbers) b.rest)

-- what follows a frame that was read
pub pair_rest : (s : List ℕ) (kind w : ℕ) (a : Read (List ℕ)) → read_frame (pair_shape kind w) s ≡ some a → (2 + w + w < length s) × (a.rest ≡ drop (2 + w + w + 1) s)
pair_rest s kind w a e =
    let r = frame-read (pair_shape kind w) s a e in
    let front : List ℕ = frame (pair_shape kind w) a.got in
    let long : length front ≡ 3 + (w + (w + 0)) = length-frame (pair_shape kind w) a.got (two_numbers w a.got r.0) in (
      omega (arith, ap length r.1 ∙ length-append front a.rest),
      sym (ap (drop (2 + w + w + 1)) r.1 ∙ drop_at front a.rest (2 + w + w + 1) (omega arith)),
    )

module _ (s : List ℕ) (kind w : ℕ) (long : 2 + w + w < length s) where
  -- the type is no number
  pub kind_missing : value (take 2 (drop 0 s)) ≡ none → read_frame (pair_shape kind w) s ≡ none
  unfolding read_frame
  kind_missing e = rw (field_stops s 0 2 e)

  module _ {k : ℕ} (read : value (take 2 (drop 0 s)) ≡ some k) where
    -- it is another type
    pub kind_other : (k ≡ kind → ⊥) → read_frame (pair_shape kind w) s ≡ none
    unfolding read_frame
    kind_other n = rw (field_goes s 0 2 (omega arith) read) (rw (ne_eqb k kind n))

    module _ (same : k ≡ kind) where
      -- the first field is no number
      pub first_missing : value (take w (drop 2 s)) ≡ none → read_frame (pair_shape kind w) s ≡ none
      unfolding read_frame read_fields
      first_missing e = rw (field_goes s 0 2 (omega arith) read) (rw (eq-eqb k kind same, field_stops s 2 w e))

      module _ {a : ℕ} (one : value (take w (drop 2 s)) ≡ some a) where
        -- the second field is none
        pub second_missing : value (take w (drop (2 + w) s)) ≡ none → read_frame (pair_shape kind w) s ≡ none
        unfolding read_frame read_fields
        second_missing e =
            rw (field_goes s 0 2 (omega arith) read)
            (rw (eq-eqb k kind same, field_goes s 2 w (omega arith) one) (rw (field_stops s (2 + w) w e)))

        module _ {b : ℕ} (two : value (take w (drop (2 + w) s)) ≡ some b) where
          -- no line feed follows
          pub no_feed : (get_or s (2 + w + w) 0 ≡ line_feed → ⊥) → read_frame (pair_shape kind w) s ≡ none
          unfolding read_frame read_fields read_end
          no_feed n =
              rw (field_goes s 0 2 (omega arith) read)
              (rw (eq-eqb k kind same, field_goes s 2 w (omega arith) one)
              (rw (field_goes s (2 + w) w (omega arith) two)
              (rw (drop-cons s (2 + w + w) 0 long, ne_eqb (get_or s (2 + w + w) 0) line_feed n))))

          -- both numbers are read
          pub pair_read : get_or s (2 + w + w) 0 ≡ line_feed → read_frame (pair_shape kind w) s ≡ some (record { got = a ∷ b ∷ []; rest = drop (suc (2 + w + w)) s })
          unfolding read_frame read_fields read_end
          pair_read e =
              rw (field_goes s 0 2 (omega arith) read)
              (rw (eq-eqb k kind same, field_goes s 2 w (omega arith) one)
              (rw (field_goes s (2 + w) w (omega arith) two)
              (rw (drop-cons s (2 + w + w) 0 long, eq-eqb (get_or s (2 + w + w) 0) line_feed e))))

-- ---- written

-- how long the line is
pub length_pair : (kind w a b : ℕ) → length (frame (pair_shape kind w) (a ∷ b ∷ [])) ≡ 2 + w + w + 1
length_pair kind w a b = length-frame (pair_shape kind w) (a ∷ b ∷ []) refl ∙ omega arith
