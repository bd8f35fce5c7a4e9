-- The tasks of an accepted table by rank, in any order by priority, and what admission says of their shares.
use Prim.Native.Nat.{ℕ, suc, ◌+◌, ◌-◌, ◌*◌, ◌≤◌, ◌<◌}
use mathlib.Core.Path.{◌≡◌, sym, ap, ◌∙◌}
use mathlib.Core.List.{List, map}
use native.Mathlib.Nat.{le_refl, le_trans, mul-le-mul_left, mul-lt-mul_of_pos_left, le_of_mul-le-mul_right, lt_of_mul-lt-mul_right}
use native.Mathlib.Omega.{arith}
use borrow.Author.Tests.{ltb-true, ltb-false}
use lib.ListN.{length, get_or}
use lib.Seq.{take-length}
use Rattle.laws.specs.Lists.{sum}
use Rattle.rules.specs.Rows.{Row}
use Rattle.rules.specs.Tables.{Table, row_of}
use Rattle.rules.specs.Repeat.{repeat_length}
use Rattle.rules.specs.Verdicts.{fraction, heavy_at, heavy, heavy_count, share, scaled_sum}
use Rattle.rules.specs.Counts.{sum_before}
use Rattle.rules.specs.Obeys.{Priority, lights_of}
use Rattle.priority_laws.proofs.Order.{rows-sum}
use Rattle.priority_laws.proofs.Priority.{ranks-sum, ranks-length, ranks-all, heavy-at, light-light, light-rising, task-low, task-high}
use Rattle.priority_laws.proofs.Repeat.{Periodic, repeat_pos, repeat-share}
use Rattle.reading_laws.specs.Bounds.{RowInBounds}
use Rattle.slot_laws.proofs.Forms.{Accepted}
use Rattle.bound.specs.Setting.{Tasks, Conditions, tasks, light_at}
use Rattle.bound.proofs.Within.{WithinLimit}
use Rattle.bound.proofs.Shares.{Admitted, general_conditions}
use Rattle.bound.proofs.Prefixes.{sum_of_first}

-- the share of the task of rank k
abbrev pub share_at : Table → List ℕ → ℕ → ℕ
share_at tbl ranks k = share (repeat_length tbl.rows) (row_of tbl (get_or ranks k 0))

-- no period is 0
pub accepted_periods : (tbl : Table) → Accepted tbl → Periodic tbl
accepted_periods tbl a i low high = le_trans (a.row i low high).works (a.row i low high).fits

-- the table's tasks, in an order by priority
unfoldable pub ranked : (tbl : Table) → Accepted tbl → (ranks : List ℕ) → Priority tbl ranks → Tasks
ranked tbl a ranks r =
    record {
      cores = tbl.m;
      heavies = heavy_count tbl;
      lights = length (lights_of tbl ranks);
      period = λ k. (row_of tbl (get_or ranks k 0)).t;
      demand = λ k. (row_of tbl (get_or ranks k 0)).c;
      repeat = repeat_length tbl.rows;
      share = share_at tbl ranks;
      lasting = repeat_pos tbl.rows;
      timed = λ k h. le_trans (row k h).works (row k h).fits;
      fitting = λ k h. (row k h).fits;
      even = λ k h. repeat-share tbl (accepted_periods tbl a) (get_or ranks k 0) (task-low r k (rw (ranks-all r) at h)) (task-high r k (rw (ranks-all r) at h));
    }
  where
    row : (k : ℕ) → k < heavy_count tbl + length (lights_of tbl ranks) → RowInBounds (row_of tbl (get_or ranks k 0))
    row k h = a.row (get_or ranks k 0) (task-low r k (rw (ranks-all r) at h)) (task-high r k (rw (ranks-all r) at h))

-- ---- heavy and light in shares

-- C/T is above p/q where the share of H slots is
module _ (p q H u t c : ℕ) (even : u * t ≡ c * H) where
  heavy-share : 0 < H → t * p < c * q → p * H < q * u
  heavy-share some h =
      let h' : H * (t * p) < H * (c * q) = mul-lt-mul_of_pos_left h some in
      let even' : q * (u * t) ≡ q * (c * H) = ap (λ (z : ℕ). q * z) even in
      lt_of_mul-lt-mul_right t (omega arith)

  light-share : 0 < t → c * q ≤ t * p → q * u ≤ p * H
  light-share some h =
      let h' : H * (c * q) ≤ H * (t * p) = mul-le-mul_left H h in
      let even' : q * (u * t) ≡ q * (c * H) = ap (λ (z : ℕ). q * z) even in
      le_of_mul-le-mul_right {k = t} (omega arith) some

module _ (tbl : Table) (a : Accepted tbl) (ranks : List ℕ) (r : Priority tbl ranks) where
  -- the shares of all tasks by rank are the scaled sum
  shares_all : sum_before (tasks (ranked tbl a ranks r)) (share_at tbl ranks) ≡ scaled_sum tbl
  unfolding ranked scaled_sum
  shares_all =
      let f : ℕ → ℕ = λ i. share (repeat_length tbl.rows) (row_of tbl i) in
      ap (λ (n : ℕ). sum_before n (share_at tbl ranks)) (ranks-all r ∙ sym (ranks-length r))
      ∙ sym (sum_of_first ranks f (length ranks) (le_refl (length ranks)))
      ∙ ap (λ l. sum (map f l)) (take-length ranks)
      ∙ ranks-sum r f
      ∙ sym (rows-sum tbl (share (repeat_length tbl.rows)))

  -- heavy, light and admitted in shares
  shares_admitted : WithinLimit tbl → Admitted (ranked tbl a ranks r) (fraction tbl.m).num (fraction tbl.m).den
  unfolding ranked heavy heavy_at
  shares_admitted within =
      record {
        heavy =
            λ k h.
            let w : Row = row_of tbl (get_or ranks k 0) in
            heavy-share p q H (share_at tbl ranks k) w.t w.c (x.even k (omega arith)) x.lasting (ltb-true (w.t * p) (w.c * q) (heavy-at r k h));
        light =
            λ j h.
            let k : ℕ = light_at x j in
            let k' : k < tasks x = omega arith in
            let w : Row = row_of tbl (get_or ranks k 0) in
            light-share p q H (share_at tbl ranks k) w.t w.c (x.even k k') (x.timed k k') (ltb-false (w.t * p) (w.c * q) (light-light r j h));
        total = rw shares_all (omega arith);
      }
    where
      x : Tasks
      x = ranked tbl a ranks r

      p : ℕ
      p = (fraction tbl.m).num

      q : ℕ
      q = (fraction tbl.m).den

      H : ℕ
      H = repeat_length tbl.rows

  -- a table within the limit meets the conditions of the argument
  pub table_conditions : WithinLimit tbl → Conditions (ranked tbl a ranks r) (tbl.m - suc (heavy_count tbl)) 1
  unfolding ranked fraction
  table_conditions within =
      general_conditions {x = ranked tbl a ranks r} (fraction tbl.m).den a.cores_low (omega (arith, a.cores_low)) (shares_admitted within) (light-rising r)
