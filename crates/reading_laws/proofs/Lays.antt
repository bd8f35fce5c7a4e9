-- Text laid into a buffer: through a lent tail, one text right after the other.
use Prim.Native.Nat.{ℕ, suc, ◌+◌, ◌-◌, ◌≤◌, ◌<◌}
use mathlib.Core.Path.{◌≡◌, refl, sym, ap, ◌∙◌}
use mathlib.Core.List.{List, [], ◌∷◌, ◌++◌, append_assoc, append-nil}
use native.Mathlib.Nat.{zero-add}
use native.Mathlib.Numerals.{add-one}
use native.Mathlib.Omega.{arith}
use borrow.Rule.Slice.PartMut.{put_mid}
use lib.ListN.{length, take, drop, set, length-append, length-drop}
use lib.Seq.{take_all, drop-length, drop-drop, length-take-le, take_at, drop_at, set_split, append_snoc}
use Rattle.rules.specs.Answers.{lay}

module _ (out : List ℕ) (at : ℕ) where
  -- what is laid keeps the buffer's length
  pub length-lay : (text : List ℕ) → at + length text ≤ length out → length (lay out at text) ≡ length out
  unfolding lay
  length-lay text h =
      let k : ℕ = at + length text in
      length-append (take at out ++ text) (drop k out)
      ∙ omega (arith, length-append (take at out) text, length-take-le at out (omega arith), length-drop k out)

  -- what is laid stands at its place
  pub lay-holds : (text : List ℕ) → at + length text ≤ length out → take (length text) (drop at (lay out at text)) ≡ text
  unfolding lay
  lay-holds text h =
      let behind : List ℕ = drop (at + length text) out in
      rw (append_assoc (take at out) text behind, drop_at (take at out) (text ++ behind) at (length-take-le at out (omega arith)))
      (take_at text behind (length text) refl)

  -- a tail that was lent comes back with a text at its front
  pub lay-lent : (n : ℕ) (text tail : List ℕ) → length text ≡ n → at ≤ length out
      → tail ≡ text ++ drop n (take (length out - at) (drop at out)) → put_mid at (length out - at) out tail ≡ lay out at text
  unfolding lay
  lay-lent n text tail len inside e =
      let whole : take (length out - at) (drop at out) ≡ drop at out = take_all (length out - at) (drop at out) (omega (arith, length-drop at out)) in
      let all : at + (length out - at) ≡ length out = omega arith in
      let after : drop (length out - at) (drop at out) ≡ [] = drop-drop (length out - at) at out ∙ rw all (drop-length out) in
      rw (after, e, whole, ← len, append-nil, drop-drop (length text) at out) (sym (append_assoc (take at out) text (drop (at + length text) out)))

  -- one text right after another
  lay_more : (n : ℕ) (a b : List ℕ) → length a ≡ n → at + n + length b ≤ length out → lay (lay out at a) (at + n) b ≡ lay out at (a ++ b)
  unfolding lay
  lay_more n a b len fits =
      let front : List ℕ = take at out ++ a in
      let behind : List ℕ = drop (at + length a) out in
      let long : length front ≡ at + n = length-append (take at out) a ∙ omega (arith, length-take-le at out (omega arith)) in
      let ends : at + length a + length b ≡ at + length (a ++ b) = omega (arith, length-append a b) in
      let past : drop (at + n + length b) (front ++ behind) ≡ drop (at + length (a ++ b)) out =
      sym (drop-drop (length b) (at + n) (front ++ behind))
      ∙ ap (drop (length b)) (drop_at front behind (at + n) long)
      ∙ drop-drop (length b) (at + length a) out
      ∙ ap (λ (k : ℕ). drop k out) ends
      in
      rw (take_at front behind (at + n) long, past, append_assoc (take at out) a b)

  -- one byte
  pub lay_byte : (b : ℕ) → at < length out → set out at b ≡ lay out at (b ∷ [])
  unfolding lay
  lay_byte b h = set_split out at b h ∙ rw (add-one at) (sym (append_snoc (take at out) b (drop (suc at) out)))

-- at the very front
pub lay-front : (out text : List ℕ) → lay out 0 text ≡ text ++ drop (length text) out
unfolding lay
lay-front out text = rw (zero-add (length text))

-- a text has been laid into a buffer from a place on, and the next one goes to where it ends
module _ (out : List ℕ) (place : ℕ) (text out' : List ℕ) (laid : out' ≡ lay out place text) (end : ℕ) (ends : place + length text ≡ end) where
  long : end ≤ length out → length out' ≡ length out
  long fits = ap length laid ∙ length-lay out place text (omega arith)

  -- in its place
  pub laid_next : (next : List ℕ) → end + length next ≤ length out → lay out' end next ≡ lay out place (text ++ next)
  laid_next next fits = ap (λ (o : List ℕ). lay o end next) laid ∙ rw (← ends) (lay_more out place (length text) text next refl (omega arith))

  -- through the lent tail
  pub laid_on : (n : ℕ) (next tail : List ℕ) → length next ≡ n → end + n ≤ length out
      → tail ≡ next ++ drop n (take (length out' - end) (drop end out')) → put_mid end (length out' - end) out' tail ≡ lay out place (text ++ next)
  laid_on n next tail len fits e = lay-lent out' end n next tail len (omega (arith, long (omega arith))) e ∙ laid_next next (omega arith)

  -- one byte
  pub laid_byte : (b : ℕ) → end < length out → set out' end b ≡ lay out place (text ++ (b ∷ []))
  laid_byte b h = lay_byte out' end b (omega (arith, long (omega arith))) ∙ laid_next (b ∷ []) (omega arith)
