-- The digits of every byte: how they are made, and where those of a byte stand.
use Prim.Native.Nat.{ℕ, zero, suc, ◌+◌, ◌*◌, ◌/◌, ◌%◌, ◌≤◌, ◌<◌}
use mathlib.Core.Path.{◌≡◌, refl, sym, ap, ◌∙◌}
use mathlib.Core.List.{List, [], ◌∷◌, ◌++◌, append-nil}
use native.Mathlib.Nat.{not-suc-le-zero}
use native.Mathlib.Omega.{arith}
use lib.ListN.{length, get_or, drop, set, replicate, length-replicate, drop_of_length-le}
use lib.Seq.{ext_get_or}
use Rattle.std.specs.Array.{IsFromFnResult}
use Rattle.std.specs.Fn.{Called, Mut}
use Rattle.laws.specs.Digits.{digit, field}
use Rattle.laws.specs.Lists.{from}
use Rattle.laws.proofs.Each.{length_from, get_or-from}
use Rattle.rules.specs.Frames.{fields}
use Rattle.rules.specs.Answers.{lay}
use Rattle.reading_laws.proofs.Lays.{lay_byte, laid_byte}
use Rattle.frames.specs.Pairs.{pairs, names}
use Rattle.frames.proofs.PairLoop.{length_pairs}

-- ---- where the digits of a value stand

digits_at : (l : List ℕ) (v : ℕ) → v < length l
    → (get_or (pairs l) (2 * v) 0 ≡ digit (get_or l v 0 / 16 % 16)) × (get_or (pairs l) (2 * v + 1) 0 ≡ digit (get_or l v 0 % 16))
unfolding pairs fields field
digits_at [] v inside = absurd (not-suc-le-zero inside)
digits_at (x ∷ xs) zero inside = (refl, refl)
digits_at (x ∷ xs) (suc v) inside =
    let rest = digits_at xs v (omega arith) in
    let high : 2 * suc v ≡ suc (suc (2 * v)) = omega arith in
    let low : 2 * suc v + 1 ≡ suc (suc (2 * v + 1)) = omega arith in
    (ap (λ (k : ℕ). get_or (pairs (x ∷ xs)) k 0) high ∙ rest.0, ap (λ (k : ℕ). get_or (pairs (x ∷ xs)) k 0) low ∙ rest.1)

-- ---- of every byte: they are made

abbrev bytes : List ℕ
bytes = from 0 256

byte_at : (v : ℕ) → v < 256 → get_or bytes v 0 ≡ v
byte_at v h = get_or-from 0 256 v h ∙ omega arith

all_bytes : length bytes ≡ 256
all_bytes = length_from 0 256

-- an array of 256 values that are made from their index alone, by a function that gives the index back
pub counted : {F : Type 0} {g : Mut F (ℕ × Unit {0}) ℕ} {f : F} {every : List ℕ} → IsFromFnResult g f every 256
    → ((p : F) (i v : ℕ) (q : F) → i < 256 → Called g p (i, tt) v q → v ≡ i) → every ≡ bytes
counted {every = every} made same =
    ext_get_or 0 every bytes (made.long ∙ sym all_bytes) (λ i inside.
    let small : i < 256 = omega (arith, made.long) in
    let call = made.at i 0 small in
    same call.0 i _ call.1 small call.2 ∙ sym (byte_at i small))

abbrev blank : List ℕ
blank = replicate 512 0

-- the digits of such an array, laid over 512 bytes
pub all_named : {every out : List ℕ} → every ≡ bytes → out ≡ pairs every ++ drop (2 * length every) blank → out ≡ names
unfolding names
all_named {out = out} counts written =
    let laid : out ≡ pairs bytes ++ drop (2 * length bytes) blank = rw counts at written in
    let none : drop (2 * length bytes) blank ≡ [] = drop_of_length-le blank {i = 2 * length bytes} (omega (arith, all_bytes, length-replicate {A = ℕ} 512 0)) in
    laid ∙ ap (λ (t : List ℕ). pairs bytes ++ t) none ∙ append-nil (pairs bytes)

-- ---- they are looked up

-- each byte has its two: `write`'s own attribute names this
pub names_long : (l : List ℕ) → l ≡ names → length l ≡ 512
unfolding names
names_long l e = ap length e ∙ length_pairs bytes ∙ omega (arith, all_bytes)

-- the places that are looked up are those of the byte's two digits
pub name_written : (v : ℕ) → v < 256 → (out : List ℕ) (at : ℕ) → at + 2 ≤ length out → {high low : ℕ} → high ≡ 2 * v → low ≡ 2 * v + 1
    → set (set out at (get_or names high 0)) (at + 1) (get_or names low 0) ≡ lay out at (field 2 v)
unfolding names field
name_written v byte out at fits high_place low_place =
    let found = digits_at bytes v (omega (arith, all_bytes)) in
    let high : get_or (pairs bytes) (2 * v) 0 ≡ digit (v / 16 % 16) = found.0 ∙ ap (λ (n : ℕ). digit (n / 16 % 16)) (byte_at v byte) in
    let low : get_or (pairs bytes) (2 * v + 1) 0 ≡ digit (v % 16) = found.1 ∙ ap (λ (n : ℕ). digit (n % 16)) (byte_at v byte) in
    rw (high_place, low_place, high, low)
    (laid_byte out at (digit (v / 16 % 16) ∷ []) (set out at (digit (v / 16 % 16))) (lay_byte out at (digit (v / 16 % 16)) (omega arith)) (at + 1) (omega arith)
    (digit (v % 16)) (omega arith))
