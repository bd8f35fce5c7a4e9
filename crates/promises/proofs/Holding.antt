-- Texts that stand in a buffer, and the frames that are read there.
use Prim.Native.Nat.{ℕ, zero, suc, ◌+◌, ◌≤◌}
use mathlib.Core.Path.{◌≡◌, refl, sym, ap, ◌∙◌}
use mathlib.Core.List.{List, ◌∷◌, ◌++◌, map, append_assoc}
use mathlib.Core.Option.{some}
use native.Mathlib.Nat.{suc-mul}
use native.Mathlib.Omega.{arith}
use lib.ListN.{length, take, drop}
use lib.Seq.{drop_at, drop-drop, length-take-le}
use Rattle.laws.specs.Lists.{from}
use Rattle.laws.proofs.Each.{map-from_cong}
use Rattle.laws.proofs.Sums.{map-from-suc}
use Rattle.rules.specs.Limits.{clock_max}
use Rattle.rules.specs.Frames as Frames
use Rattle.rules.specs.Frames.{Shape, read_frame}
use Rattle.rules.specs.Tables.{Table, size}
use Rattle.rules.specs.Verdicts.{order}
use Rattle.rules.specs.States.{State}
use Rattle.rules.specs.Slots.{slot}
use Rattle.rules.specs.Runs.{shows, slot_numbers, slot_line, slot_lines, verdict_numbers, verdict_line, order_line, totals_numbers, totals_line}
use Rattle.rules.specs.Answers.{lay}
use Rattle.slot_laws.proofs.Forms.{Accepted, Kept}
use Rattle.slot_laws.proofs.Books.{slot_kept, slot-clock}
use Rattle.slot_laws.proofs.Lengths.{length-slot_line, slot_width, slot-table}
use Rattle.slot_laws.proofs.Fitting.{verdict-read, order-read, slot_read, totals-read}
use Rattle.runs.specs.Slots.{frame_length}
use Rattle.reports.specs.Heads.{head}
use Rattle.reports.proofs.Heads.{length-verdict_line}
use Rattle.promises.specs.Buffers.{numbers_of, numbers_at, verdict_length, frame_at, frames_at, Holds}
use Rattle.promises.specs.Frames.{HeadOf}

-- ---- texts

-- a text that was laid stands at its place
pub lay-held : (out : List ℕ) (place : ℕ) (text : List ℕ) → place + length text ≤ length out → Holds (lay out place text) place text
unfolding lay
lay-held out place text room =
    let behind : List ℕ = drop (place + length text) out in
    record {
      rest = behind;
      here = ap (drop place) (append_assoc (take place out) text behind) ∙ drop_at (take place out) (text ++ behind) place (length-take-le place out (omega arith));
    }

module _ {out : List ℕ} {place : ℕ} where
  -- the first part of a text stands there, the second right behind it
  pub held_first : (a b : List ℕ) → Holds out place (a ++ b) → Holds out place a
  held_first a b h = record { rest = b ++ h.rest; here = h.here ∙ append_assoc a b h.rest }

  pub held_next : (a b : List ℕ) (n : ℕ) → length a ≡ n → Holds out place (a ++ b) → Holds out (place + n) b
  held_next a b n len h =
      record {
        rest = h.rest;
        here = sym (drop-drop n place out) ∙ ap (drop n) (h.here ∙ append_assoc a b h.rest) ∙ drop_at a (b ++ h.rest) n len;
      }

  -- the numbers of a line that stands there
  pub held-numbers : (sh : Shape) (line numbers : List ℕ)
      → ((rest : List ℕ) → read_frame sh (line ++ rest) ≡ some (record { got = numbers; rest = rest }))
      → Holds out place line → numbers_at sh out place ≡ numbers
  unfolding numbers_at
  held-numbers sh line numbers read h = ap (λ (s : List ℕ). numbers_of (read_frame sh s)) h.here ∙ ap numbers_of (read h.rest)

-- ---- frames `11`, `12` and `14`

pub held-head : {tbl : Table} → Accepted tbl → {out : List ℕ} {place : ℕ} → Holds out place (head tbl) → HeadOf tbl out place
held-head {tbl} a h =
    record {
      verdict = held-numbers Frames.verdict (verdict_line tbl) (verdict_numbers tbl) (verdict-read a) (held_first (verdict_line tbl) (order_line (order tbl)) h);
      priorities =
          held-numbers (Frames.order (size tbl)) (order_line (order tbl)) (order tbl) (order-read a)
          (held_next (verdict_line tbl) (order_line (order tbl)) verdict_length (length-verdict_line tbl) h);
    }

pub held-totals : {st : State} → Kept st → st.clock ≤ clock_max → {out : List ℕ} {place : ℕ} → Holds out place (totals_line st) → numbers_at Frames.totals out place ≡ totals_numbers st
held-totals {st} kept soon h = held-numbers Frames.totals (totals_line st) (totals_numbers st) (totals-read kept soon) h

-- ---- the frames of slots

-- one frame, and those behind it
frames-suc : (m : ℕ) (out : List ℕ) (place k : ℕ) → frames_at m out place (suc k) ≡ numbers_at (Frames.slot m) out place ∷ frames_at m out (place + frame_length m) k
unfolding frames_at
frames-suc m out place k =
    let f : ℕ → List ℕ = λ j. numbers_at (Frames.slot m) out (frame_at m place j) in
    let g : ℕ → List ℕ = λ j. numbers_at (Frames.slot m) out (frame_at m (place + frame_length m) j) in
    let here : f 0 ≡ numbers_at (Frames.slot m) out place = ap (numbers_at (Frames.slot m) out) (omega arith) in
    let behind : map f (from 1 k) ≡ map g (from 0 k) =
    map-from-suc f 0 k
    ∙ map-from_cong (λ j. f (suc j)) g 0 k (λ j low high. ap (numbers_at (Frames.slot m) out) (omega (arith, suc-mul j (frame_length m))))
    in
    rw (here, behind)

-- the frames of a run's lines show what its slots show
pub held-frames : (count : ℕ) {st : State} → Kept st → st.clock + count ≤ clock_max → {out : List ℕ} {place : ℕ}
    → Holds out place (slot_lines count st) → frames_at st.table.m out place count ≡ map slot_numbers (shows count st)
unfolding slot_lines shows frames_at
held-frames zero kept soon h = refl
held-frames (suc k) {st} kept soon {out} {place} h =
    let line : List ℕ = slot_line (slot st).shown in
    let others : List ℕ = slot_lines k (slot st).next in
    let m : ℕ = st.table.m in
    let long : length line ≡ frame_length m = length-slot_line (slot st).shown ∙ ap (λ (n : ℕ). frame_length n) (slot_width st) in
    let one : numbers_at (Frames.slot m) out place ≡ slot_numbers (slot st).shown =
    held-numbers (Frames.slot m) line (slot_numbers (slot st).shown) (slot_read kept (omega arith)) (held_first line others h)
    in
    let behind : frames_at m out (place + frame_length m) k ≡ map slot_numbers (shows k (slot st).next) =
    ap (λ (x : Table). frames_at x.m out (place + frame_length m) k) (sym (slot-table st))
    ∙ held-frames k (slot_kept kept) (omega (arith, slot-clock st)) (held_next line others (frame_length m) long h)
    in
    frames-suc m out place k ∙ cc
