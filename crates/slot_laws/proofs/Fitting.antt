-- The numbers of every output frame fit their fields, so that a frame is read back as the very numbers that it was written
-- for: no frame ever cuts a number.
use Prim.Native.Nat.{ℕ, zero, suc, ◌*◌, ◌^◌, ◌≤◌, ◌<◌, zero-le}
use mathlib.Core.Path.{◌≡◌}
use mathlib.Core.List.{List, [], ◌∷◌, ◌++◌}
use mathlib.Core.Option.{some}
use native.Mathlib.Nat.{mul-le-mul, mul-le-mul_right}
use native.Mathlib.Omega.{arith}
use lib.Dec.{lit<}
use lib.ListN.{length, get_or, replicate}
use Rattle.laws.specs.Lists.{sum}
use Rattle.laws.proofs.Sorted.{Stands}
use Rattle.laws.proofs.Walks.{sum-most}
use Rattle.rules.specs.Limits.{cores_max, clock_max}
use Rattle.rules.specs.Tables.{Table, size}
use Rattle.rules.specs.Verdicts.{verdict_byte, verdict, order}
use Rattle.rules.specs.declared.verdict.Verdict.{Verdict}
use Rattle.rules.specs.declared.verdict.Verdict.TheVariants.{NotAdmitted, Admitted}
use Rattle.rules.specs.States.{State}
use Rattle.rules.specs.Slots.{Shown, slot}
use Rattle.rules.specs.Frames as Frames
use Rattle.rules.specs.Frames.{read_frame}
use Rattle.rules.specs.Runs.{verdict_numbers, verdict_line, order_line, slot_numbers, slot_line, totals_numbers, totals_line}
use Rattle.reading_laws.specs.Frames.{Fits}
use Rattle.reading_laws.proofs.Frames.{fits-append, fits_each, read-frame}
use Rattle.priority_laws.proofs.Priority.{ranks-all, ranks_within, order-length, order-priority}
use Rattle.slot_laws.proofs.Choosing.{choose-le}
use Rattle.slot_laws.proofs.Placing.{slot-chosen}
use Rattle.slot_laws.proofs.Forms.{Accepted, Kept}
use Rattle.slot_laws.proofs.Books.{ready, kept-priority, kept_ranking, slot-number, slot-moves, slot-misses}
use Rattle.slot_laws.proofs.Lengths.{slot_width}
use Rattle.slot_laws.proofs.Releasing.{released_max, released-few}

-- ---- the verdict and the order of an accepted table

byte_small : (v : Verdict) → verdict_byte v < 256
byte_small NotAdmitted = omega arith
byte_small Admitted = omega arith

module _ {tbl : Table} (a : Accepted tbl) where
  -- no more tasks are heavy than there are, and the repeat length is in its bound
  pub verdict-fits : Fits (Frames.verdict).widths (verdict_numbers tbl)
  verdict-fits = (byte_small (verdict tbl), (omega (arith, ranks-all (order-priority tbl)), (omega arith, tt)))

  pub verdict-read : (rest : List ℕ) → read_frame Frames.verdict (verdict_line tbl ++ rest) ≡ some (record { got = verdict_numbers tbl; rest = rest })
  unfolding verdict_line
  verdict-read rest = read-frame Frames.verdict (verdict_numbers tbl) rest (lit< tt) verdict-fits

  -- the order names tasks of the table
  pub order-fits : Fits (Frames.order (length (order tbl))).widths (order tbl)
  order-fits = fits_each 2 (order tbl) (λ i s. omega (arith, ranks_within (order-priority tbl) i s))

  pub order-read : (rest : List ℕ) → read_frame (Frames.order (size tbl)) (order_line (order tbl) ++ rest) ≡ some (record { got = order tbl; rest = rest })
  unfolding order_line
  order-read rest = rw (← order-length tbl) (read-frame (Frames.order (length (order tbl))) (order tbl) rest (lit< tt) order-fits)

-- ---- a slot and the totals of a state that is kept

-- what a slot shows fits where its number, its tasks and its counts do
shown-fits : (s : Shown) → s.slot < 16 ^ 8 → ((i : ℕ) → Stands i s.cores → i < 256) → s.moves < 256 → s.misses < 256
    → Fits (Frames.slot (length s.cores)).widths (slot_numbers s)
shown-fits s number tasks moves misses =
    (number, fits-append (replicate (length s.cores) 2) s.cores (2 ∷ 2 ∷ []) (s.moves ∷ s.misses ∷ []) (fits_each 2 s.cores tasks) (moves, (misses, tt)))

module _ {st : State} (kept : Kept st) where
  -- every core holds a task of the table, or none
  core_high : (i : ℕ) → Stands i (slot st).shown.cores → i ≤ size st.table
  core_high zero s = zero-le
  core_high (suc i) s =
      let low : 1 ≤ suc i = omega arith in
      let ranked : Stands (suc i) st.ranks =
      omega (arith, slot-chosen st (kept_ranking kept) (suc i) low, choose-le st.table.m st.ranks (ready st) (suc i))
      in
      (ranks_within (kept-priority kept) (suc i) ranked).1

  -- all that a slot shows fits where its number does
  numbers-fit : st.clock < 16 ^ 8 → Fits (Frames.slot st.table.m).widths (slot_numbers (slot st).shown)
  numbers-fit number =
      rw (slot_width st) at
      (shown-fits (slot st).shown
      (omega (arith, slot-number st))
      (λ i s. omega (arith, core_high i s))
      (omega (arith, slot-moves st, slot_width st))
      (omega (arith, slot-misses st)))

  module _ (soon : st.clock < clock_max) where
    pub slot-fits : Fits (Frames.slot st.table.m).widths (slot_numbers (slot st).shown)
    slot-fits = numbers-fit (omega arith)

    pub slot_read : (rest : List ℕ)
        → read_frame (Frames.slot st.table.m) (slot_line (slot st).shown ++ rest) ≡ some (record { got = slot_numbers (slot st).shown; rest = rest })
    unfolding slot_line
    slot_read rest =
        rw (slot_width st)
        (read-frame (Frames.slot st.table.m) (slot_numbers (slot st).shown) rest (lit< tt) (numbers-fit (omega arith)))

  module _ (soon : st.clock ≤ clock_max) where
    -- no task has dropped more than was released
    dropped-most : (i : ℕ) → i < length st.dropped → get_or st.dropped i 0 ≤ released_max
    dropped-most i more =
        let high : suc i ≤ size st.table = omega arith in
        omega (arith, (kept.task (suc i) (omega arith) high).books, released-few kept.taken (suc i) (omega arith) high st.clock soon)

    -- so that all units dropped fit 64 bits
    pub dropped-small : sum st.dropped < 2 ^ 64
    dropped-small = omega (arith, sum-most st.dropped released_max dropped-most, mul-le-mul_right released_max kept.taken.tasks_high)

    pub totals-fits : Fits (Frames.totals).widths (totals_numbers st)
    totals-fits =
        let moves : st.table.m * st.clock ≤ cores_max * clock_max = mul-le-mul kept.taken.cores_high soon in
        (omega arith, (omega arith, (dropped-small, tt)))

    pub totals-read : (rest : List ℕ) → read_frame Frames.totals (totals_line st ++ rest) ≡ some (record { got = totals_numbers st; rest = rest })
    unfolding totals_line
    totals-read rest = read-frame Frames.totals (totals_numbers st) rest (lit< tt) totals-fits
