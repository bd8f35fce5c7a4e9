-- A text laid at the front of a buffer, piece by piece: a line with its line feed, and any number of pieces of one length.
use Prim.Native.Nat.{ℕ, ◌+◌, ◌-◌, ◌*◌, ◌≤◌, ◌<◌, zero-le}
use mathlib.Core.Path.{◌≡◌, refl, sym, ap, ◌∙◌}
use mathlib.Core.List.{List, [], ◌∷◌, ◌++◌}
use native.Mathlib.Nat.{mul-le-mul_left}
use native.Mathlib.Omega.{arith}
use borrow.Rule.Slice.PartMut.{mid_of, put_mid}
use lib.ListN.{length, drop, set, length-append}
use Rattle.laws.specs.Digits.{field}
use Rattle.laws.proofs.Digits.{length-field}
use Rattle.rules.specs.Answers.{lay}
use Rattle.rules.specs.Frames.{line_feed}
use Rattle.reading_laws.proofs.Lays.{length-lay, lay-front, laid_on, laid_next, laid_byte}

-- so far a text of some length was laid
pub record Laid (out text now : List ℕ) (end : ℕ) : Type 0 where
  pub whole : now ≡ lay out 0 text
  pub ends : length text ≡ end

module _ (out : List ℕ) where
  -- none yet
  pub nothing : Laid out [] out 0
  nothing = record { whole = sym (lay-front out []); ends = refl }

  -- the first piece
  pub first : {now : List ℕ} (text : List ℕ) (n : ℕ) → length text ≡ n → now ≡ text ++ drop n out → Laid out text now n
  first text n len e = record { whole = e ∙ rw (lay-front out text, len); ends = len }

  module _ {text now : List ℕ} {end : ℕ} (laid : Laid out text now end) where
    -- one more, through the lent tail
    pub more : {tail : List ℕ} (next : List ℕ) (n : ℕ) → length next ≡ n → end + n ≤ length out
        → tail ≡ next ++ drop n (mid_of end (length now - end) now) → Laid out (text ++ next) (put_mid end (length now - end) now tail) (end + n)
    more {tail} next n len room e =
        record {
          whole = laid_on out 0 text now laid.whole end (omega (arith, laid.ends)) n next tail len room e;
          ends = length-append text next ∙ omega (arith, laid.ends);
        }

    -- one more, in its place
    pub put : {now' : List ℕ} (next : List ℕ) (n : ℕ) → length next ≡ n → end + n ≤ length out → now' ≡ lay now end next → Laid out (text ++ next) now' (end + n)
    put next n len room e =
        record {
          whole = e ∙ laid_next out 0 text now laid.whole end (omega (arith, laid.ends)) next (omega arith);
          ends = length-append text next ∙ omega (arith, laid.ends);
        }

    -- a field
    pub field_more : {now' : List ℕ} (w v : ℕ) → end + w ≤ length out → now' ≡ lay now end (field w v) → Laid out (text ++ field w v) now' (end + w)
    field_more w v = put (field w v) w (length-field w v)

    -- where it ends, said otherwise
    pub ends_at : (n : ℕ) → end ≡ n → Laid out text now n
    ends_at n e = record { whole = laid.whole; ends = laid.ends ∙ e }

    -- it stands at the front, and nothing after it differs
    pub laid-front : (n : ℕ) → end ≡ n → now ≡ text ++ drop n out
    laid-front n e = laid.whole ∙ lay-front out text ∙ ap (λ (k : ℕ). text ++ drop k out) (laid.ends ∙ e)

    -- the line feed
    pub fed : (n : ℕ) → end + 1 ≡ n → n ≤ length out → set now end line_feed ≡ text ++ (line_feed ∷ []) ++ drop n out
    fed n last room =
        let whole : length (text ++ (line_feed ∷ [])) ≡ n = length-append text (line_feed ∷ []) ∙ omega (arith, laid.ends) in
        laid_byte out 0 text now laid.whole end (omega (arith, laid.ends)) line_feed (omega arith)
        ∙ lay-front out (text ++ (line_feed ∷ []))
        ∙ ap (λ (k : ℕ). text ++ (line_feed ∷ []) ++ drop k out) whole

-- ---- pieces of one length

-- the first i of n pieces stand there, one right after the other, and `text i` is what they are together
pub record Pieces (text : ℕ → List ℕ) (size n : ℕ) (out now : List ℕ) (end i : ℕ) : Type 0 where
  pub within : i ≤ n
  pub ends : end ≡ size * i
  pub room : size * n ≤ length out
  pub kept : length now ≡ length out
  pub laid : Laid out (text i) now end

module _ {text : ℕ → List ℕ} {size n : ℕ} {out : List ℕ} where
  -- none yet
  pub no_piece : text 0 ≡ [] → size * n ≤ length out → Pieces text size n out out 0 0
  no_piece none room =
      record { within = zero-le; ends = omega arith; room = room; kept = refl; laid = record { whole = rw none (sym (lay-front out [])); ends = ap length none } }

  module _ {now : List ℕ} {end i : ℕ} (p : Pieces text size n out now end i) where
    module _ (missing : i < n) where
      -- the next one ends within the buffer
      pub piece_fits : end + size ≤ length out
      piece_fits = omega (arith, mul-le-mul_left size missing, p.ends, p.room)

      -- one more
      pub next_piece : {tail : List ℕ} (next : List ℕ) → length next ≡ size → text (i + 1) ≡ text i ++ next
          → tail ≡ next ++ drop size (mid_of end (length now - end) now) → Pieces text size n out (put_mid end (length now - end) now tail) (end + size) (i + 1)
      next_piece next len joined e =
          let laid = more out p.laid next size len piece_fits e in
          record {
            within = omega arith;
            ends = omega (arith, p.ends);
            room = p.room;
            kept = ap length laid.whole ∙ length-lay out 0 (text i ++ next) (omega (arith, laid.ends, piece_fits));
            laid = record { whole = laid.whole ∙ ap (lay out 0) (sym joined); ends = ap length joined ∙ laid.ends };
          }

    -- all of them
    pub all_pieces : n ≤ i → now ≡ text n ++ drop (size * n) out
    all_pieces h =
        let e : i ≡ n = omega (arith, p.within) in
        rw e at (laid-front out p.laid (size * i) p.ends)
