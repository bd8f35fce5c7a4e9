-- Frames: what is written is read back, and only what is written is read.
use Prim.Native.Nat.{ℕ, ◌+◌, ◌<◌, ◌≤◌, ◌^◌}
use mathlib.Core.Path.{◌≡◌, refl, sym, ap, ◌∙◌}
use mathlib.Core.List.{List, [], ◌∷◌, ◌++◌, append_assoc}
use mathlib.Core.Logic.{◌⊎◌, inl, inr}
use mathlib.Core.Option.{Option, none, some, some-injective, none-ne-some}
use native.Mathlib.Omega.{arith}
use lib.Dec.{eqb, leb, leb→le, eqb→eq}
use lib.ListN.{length, take, drop, replicate, length-append, take-append-drop}
use lib.Seq.{length-take-le, take_at, drop_at}
use borrow.Author.Tests.{le-leb, eq-eqb, ne_eqb}
use Rattle.laws.specs.Lists.{sum}
use Rattle.laws.specs.Digits.{field, value}
use Rattle.laws.proofs.Options.{then_some, guard_some}
use Rattle.laws.proofs.Digits.{length-field, value-field, value_some}
use Rattle.laws.proofs.Sorted.{Stands, stands_here, stands_later}
use Rattle.rules.specs.Frames.{Shape, line_feed, fields, frame, Read, read_field, read_fields, read_end, read_frame}
use Rattle.reading_laws.specs.Frames.{Fits, Begins}

-- ---- one field

-- a field that was written is read back
read-field : (w v : ℕ) (rest : List ℕ) → v < 16 ^ w → read_field w (field w v ++ rest) ≡ some (record { got = v; rest = rest })
unfolding read_field
read-field w v rest fits =
    let long : w ≤ length (field w v ++ rest) = omega (arith, length-append (field w v) rest, length-field w v) in
    rw (le-leb w (length (field w v ++ rest)) long, take_at (field w v) rest w (length-field w v), drop_at (field w v) rest w (length-field w v), value-field w v fits)

-- a field that is read is the one that is written for what is read
field-read : (w : ℕ) (s : List ℕ) (a : Read ℕ) → read_field w s ≡ some a → (a.got < 16 ^ w) × (s ≡ field w a.got ++ a.rest)
unfolding read_field
field-read w s a e =
    let g = guard_some (leb w (length s)) e in
    let t = then_some (value (take w s)) g.1 in
    let same : record { got = t.0; rest = drop w s } ≡ a = some-injective _ a t.2 in
    let len : length (take w s) ≡ w = length-take-le w s (leb→le w (length s) g.0) in
    let digits = rw len at (value_some (take w s) t.0 t.1) in
    rw (← same) (digits.0, sym (take-append-drop w s) ∙ ap (λ (ds : List ℕ). ds ++ drop w s) digits.1)

-- ---- the fields of a frame

-- fields that were written are read back
read-fields : (ws vs rest : List ℕ) → Fits ws vs → read_fields ws (fields ws vs ++ rest) ≡ some (record { got = vs; rest = rest })
unfolding read_fields fields
read-fields [] [] rest fits = refl
read-fields [] (v ∷ vs) rest fits = absurd fits
read-fields (w ∷ ws) [] rest fits = absurd fits
read-fields (w ∷ ws) (v ∷ vs) rest fits =
    rw (append_assoc (field w v) (fields ws vs) rest, read-field w v (fields ws vs ++ rest) fits.0, read-fields ws vs rest fits.1)

-- fields that are read are those that are written for what is read
fields_read : (ws s : List ℕ) (a : Read (List ℕ)) → read_fields ws s ≡ some a → Fits ws a.got × (s ≡ fields ws a.got ++ a.rest)
unfolding read_fields fields
fields_read [] s a e =
    let same : record { got = []; rest = s } ≡ a = some-injective _ a e in
    rw (← same) (tt, refl)
fields_read (w ∷ ws) s a e =
    let x = then_some (read_field w s) e in
    let y = then_some (read_fields ws x.0.rest) x.2 in
    let same : record { got = x.0.got ∷ y.0.got; rest = y.0.rest } ≡ a = some-injective _ a y.2 in
    let one = field-read w s x.0 x.1 in
    let others = fields_read ws x.0.rest y.0 y.1 in
    rw (← same)
    ((one.0, others.0), one.1 ∙ ap (λ (bs : List ℕ). field w x.0.got ++ bs) others.1 ∙ sym (append_assoc (field w x.0.got) (fields ws y.0.got) y.0.rest))

length_fields : (ws vs : List ℕ) → length vs ≡ length ws → length (fields ws vs) ≡ sum ws
unfolding fields
length_fields [] vs e = refl
length_fields (w ∷ ws) [] e = absurd (omega arith)
length_fields (w ∷ ws) (v ∷ vs) e = omega (arith, length-append (field w v) (fields ws vs), length-field w v, length_fields ws vs (omega arith))

-- ---- numbers that fit their fields

-- fields one after the other
pub fits-append : (ws vs ws' vs' : List ℕ) → Fits ws vs → Fits ws' vs' → Fits (ws ++ ws') (vs ++ vs')
fits-append [] [] ws' vs' f g = g
fits-append [] (v ∷ vs) ws' vs' f g = absurd f
fits-append (w ∷ ws) [] ws' vs' f g = absurd f
fits-append (w ∷ ws) (v ∷ vs) ws' vs' f g = (f.0, fits-append ws vs ws' vs' f.1 g)

-- fields of w digits each
pub fits_each : (w : ℕ) (vs : List ℕ) → ((v : ℕ) → Stands v vs → v < 16 ^ w) → Fits (replicate (length vs) w) vs
fits_each w [] h = tt
fits_each w (v ∷ vs) h = (h v (stands_here v vs), fits_each w vs (λ x s. h x (stands_later x v vs s)))

-- ---- a frame

-- the end of a line that is read is a line feed
feed_read : (s rest : List ℕ) → read_end s ≡ some rest → s ≡ line_feed ∷ rest
unfolding read_end
feed_read [] rest e = absurd (none-ne-some rest e)
feed_read (b ∷ bs) rest e =
    let g = guard_some (eqb b line_feed) e in
    let feed : b ≡ line_feed = eqb→eq b line_feed g.0 in
    rw (feed, some-injective bs rest g.1)

module _ (sh : Shape) where
  -- a frame and what follows it, part by part
  frame-append : (vs rest : List ℕ) → frame sh vs ++ rest ≡ field 2 sh.type ++ (fields sh.widths vs ++ (line_feed ∷ rest))
  unfolding frame
  frame-append vs rest =
      append_assoc (field 2 sh.type ++ fields sh.widths vs) (line_feed ∷ []) rest
      ∙ append_assoc (field 2 sh.type) (fields sh.widths vs) (line_feed ∷ rest)

  -- a frame that was written is read back
  pub read-frame : (vs rest : List ℕ) → sh.type < 256 → Fits sh.widths vs → read_frame sh (frame sh vs ++ rest) ≡ some (record { got = vs; rest = rest })
  unfolding read_frame read_end
  read-frame vs rest small fits =
      let after : List ℕ = line_feed ∷ rest in
      rw (frame-append vs rest, read-field 2 sh.type (fields sh.widths vs ++ after) small)
      (rw (eq-eqb sh.type sh.type refl, read-fields sh.widths vs after fits))

  -- by the shape of another type it is not
  pub read_other : (other : Shape) (vs rest : List ℕ) → sh.type < 256 → (sh.type ≡ other.type → ⊥) → read_frame other (frame sh vs ++ rest) ≡ none
  unfolding read_frame
  read_other other vs rest small differ =
      rw (frame-append vs rest, read-field 2 sh.type (fields sh.widths vs ++ (line_feed ∷ rest)) small) (rw (ne_eqb sh.type other.type differ))

  -- a frame that is read is the one that is written for what is read
  pub frame-read : (s : List ℕ) (a : Read (List ℕ)) → read_frame sh s ≡ some a → Fits sh.widths a.got × (s ≡ frame sh a.got ++ a.rest)
  unfolding read_frame
  frame-read s a e =
      let x = then_some (read_field 2 s) e in
      let g = guard_some (eqb x.0.got sh.type) x.2 in
      let y = then_some (read_fields sh.widths x.0.rest) g.1 in
      let z = then_some (read_end y.0.rest) y.2 in
      let same : record { got = y.0.got; rest = z.0 } ≡ a = some-injective _ a z.2 in
      let type : x.0.got ≡ sh.type = eqb→eq x.0.got sh.type g.0 in
      let first : s ≡ field 2 sh.type ++ x.0.rest = rw type at (field-read 2 s x.0 x.1).1 in
      let middle = fields_read sh.widths x.0.rest y.0 y.1 in
      let last : y.0.rest ≡ line_feed ∷ z.0 = feed_read y.0.rest z.0 z.1 in
      let others = middle.1 ∙ ap (λ (bs : List ℕ). fields sh.widths y.0.got ++ bs) last in
      rw (← same) (middle.0, first ∙ ap (λ (bs : List ℕ). field 2 sh.type ++ bs) others ∙ sym (frame-append y.0.got z.0))

  -- a frame is read only where the text begins with one
  begins_read : (s : List ℕ) (a : Read (List ℕ)) → read_frame sh s ≡ some a → Begins sh s
  begins_read s a e =
      let w = frame-read s a e in
      record { numbers = a.got; rest = a.rest; fits = w.0; text = w.1 }

  -- where the text begins with no frame of the shape, none is read
  pub read_none : (s : List ℕ) → ¬ Begins sh s → read_frame sh s ≡ none
  read_none s n = by_cases (read_frame sh s) refl
    where
      by_cases : (o : Option (Read (List ℕ))) → read_frame sh s ≡ o → o ≡ none
      by_cases none e = refl
      by_cases (some a) e = absurd (n (begins_read s a e))

  -- a text begins with a frame of the shape or not
  pub begins? : sh.type < 256 → (s : List ℕ) → Begins sh s ⊎ (¬ Begins sh s)
  begins? small s = by_cases (read_frame sh s) refl
    where
      by_cases : (o : Option (Read (List ℕ))) → read_frame sh s ≡ o → Begins sh s ⊎ (¬ Begins sh s)
      by_cases none e =
          inr (λ b. none-ne-some _ (sym e ∙ ap (read_frame sh) b.text ∙ read-frame b.numbers b.rest small b.fits))
      by_cases (some a) e = inl (begins_read s a e)

  -- a frame's line: the type, the fields and the line feed
  pub length-frame : (vs : List ℕ) → length vs ≡ length sh.widths → length (frame sh vs) ≡ 3 + sum sh.widths
  unfolding frame
  length-frame vs e =
      simp (length-append, length-field, length_fields sh.widths vs e) (omega arith)
