-- Numbers in fields of given widths, and records of one length: what is written is read back, and only what is written is read.
use Prim.Native.Nat.{ℕ, zero, suc, ◌+◌, ◌-◌, ◌*◌, ◌^◌, ◌≤◌, ◌<◌}
use mathlib.Core.Path.{◌≡◌, refl, sym, ◌∙◌}
use mathlib.Core.List.{List, [], ◌∷◌, ◌++◌, map, append_assoc}
use native.Mathlib.Nat.{add-zero, zero-add, suc-add, not-suc-le-zero}
use native.Mathlib.Omega.{arith}
use lib.ListN.{length, get_or, take, drop, length-append, length-drop}
use lib.Seq.{take_at, drop_at, take-add, drop-drop, get_or-drop}
use Rattle.laws.specs.Lists.{sum, join, from}
use Rattle.stored.specs.Layout.{bytes_of, value_of, written, read_off}
use Rattle.stored.proofs.Numbers.{Bytes, length-bytes_of, value_written, written-value}

-- ---- fields

-- there is one number for each width, and it fits
abbrev pub Fit : List ℕ → List ℕ → Type 0
Fit [] [] = Unit {0}
Fit [] (v ∷ vs) = ⊥
Fit (w ∷ ws) [] = ⊥
Fit (w ∷ ws) (v ∷ vs) = (v < 256 ^ w) × Fit ws vs

-- the fields together are as long as their widths
pub length-written : (ws vs : List ℕ) → length vs ≡ length ws → length (written ws vs) ≡ sum ws
unfolding written
length-written [] vs e = refl
length-written (w ∷ ws) [] e = absurd (omega arith)
length-written (w ∷ ws) (v ∷ vs) e =
    length-append (bytes_of w v) (written ws vs) ∙ omega (arith, length-bytes_of w v, length-written ws vs (omega arith))

-- numbers that fit are read back, whatever follows
pub read-written : (ws vs rest : List ℕ) → Fit ws vs → read_off ws (written ws vs ++ rest) ≡ vs
unfolding written read_off
read-written [] [] rest f = refl
read-written [] (v ∷ vs) rest f = absurd f
read-written (w ∷ ws) [] rest f = absurd f
read-written (w ∷ ws) (v ∷ vs) rest f =
    let tail : List ℕ = written ws vs ++ rest in
    rw (append_assoc (bytes_of w v) (written ws vs) rest, take_at (bytes_of w v) tail w (length-bytes_of w v), drop_at (bytes_of w v) tail w (length-bytes_of w v), value_written w v f.0, read-written ws vs rest f.1)

-- what follows is bytes too
pub bytes_drop : (k : ℕ) (bs : List ℕ) → Bytes bs → Bytes (drop k bs)
bytes_drop k bs small i = rw (get_or-drop k bs i 0) (small (k + i))

-- bytes that are read are the very bytes that are written for what is read
pub written_read : (ws bs : List ℕ) → Bytes bs → sum ws ≤ length bs → written ws (read_off ws bs) ≡ take (sum ws) bs
unfolding written read_off
written_read [] bs small h = refl
written_read (w ∷ ws) bs small h =
    rw (written-value bs small w (omega arith), written_read ws (drop w bs) (bytes_drop w bs small) (omega (arith, length-drop w bs)))
    (sym (take-add w (sum ws) bs))

-- one of the numbers, counted from 0: where its bytes stand
pub read_at : (ws bs : List ℕ) (k : ℕ) → k < length ws → get_or (read_off ws bs) k 0 ≡ value_of (take (get_or ws k 0) (drop (sum (take k ws)) bs))
unfolding read_off
read_at [] bs k h = absurd (not-suc-le-zero h)
read_at (w ∷ ws) bs zero h = refl
read_at (w ∷ ws) bs (suc k) h = read_at ws (drop w bs) k (omega arith) ∙ rw (drop-drop (sum (take k ws)) w bs)

-- ---- records of one length

module _ (f : ℕ → List ℕ) (len : ℕ) (long : (i : ℕ) → length (f i) ≡ len) where
  pub length_records : (s n : ℕ) → length (join (map f (from s n))) ≡ len * n
  length_records s zero = omega arith
  length_records s (suc n) = length-append (f s) (join (map f (from (suc s) n))) ∙ omega (arith, long s, length_records (suc s) n)

  -- from the beginning of a record on
  pub drop_records : (s k j : ℕ) → drop (len * k) (join (map f (from s (k + suc j)))) ≡ f (s + k) ++ join (map f (from (suc (s + k)) j))
  drop_records s zero j =
      let none : len * 0 ≡ 0 = omega arith in
      rw (none, zero-add (suc j), add-zero s)
  drop_records s (suc k) j =
      let more : len * suc k ≡ len + len * k = omega arith in
      let others : List ℕ = join (map f (from (suc s) (k + suc j))) in
      let next : suc s + k ≡ s + suc k = omega arith in
      rw (more, suc-add k (suc j), ← drop-drop (len * k) len (f s ++ others), drop_at (f s) others len (long s), drop_records (suc s) k j, next)

-- stretches of one length, one after the other, are one stretch
pub join_stretches : (bs : List ℕ) (place len s n : ℕ)
    → join (map (λ i. take len (drop (place + len * (i - 1)) bs)) (from (suc s) n)) ≡ take (len * n) (drop (place + len * s) bs)
join_stretches bs place len s zero =
    let none : len * 0 ≡ 0 = omega arith in
    rw none
join_stretches bs place len s (suc n) =
    let here : ℕ = place + len * s in
    let back : suc s - 1 ≡ s = omega arith in
    let next : place + len * suc s ≡ here + len = omega arith in
    let more : len * suc n ≡ len + len * n = omega arith in
    rw (back, join_stretches bs place len (suc s) n, next, more, take-add len (len * n) (drop here bs), drop-drop len here bs)
