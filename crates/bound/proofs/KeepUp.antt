-- A run that obeys, of a table within the limit: the first light tasks, however many, are given no less than their shares.
use Prim.Native.Nat.{ℕ, ◌+◌, ◌*◌, ◌≤◌}
use mathlib.Core.Path.{◌≡◌, sym, ap, ◌∙◌, fun_ext}
use mathlib.Core.List.{List, map}
use native.Mathlib.Nat.{le_refl}
use native.Mathlib.Decide.{dec_le}
use native.Mathlib.Omega.{arith}
use lib.Dec.{eqb}
use lib.ListN.{length, take, get_or}
use lib.Seq.{take_all}
use Rattle.laws.specs.Lists.{sum, count}
use Rattle.laws.proofs.Positions.{count-take, count-filter-le}
use Rattle.laws.proofs.Entries.{count-numbers-le}
use Rattle.rules.specs.Tables.{Table, size, row_of}
use Rattle.rules.specs.Repeat.{repeat_length}
use Rattle.rules.specs.Verdicts.{light, heavy_count, share, shares_of}
use Rattle.rules.specs.Counts.{sum_before, work_of, work_of_all}
use Rattle.rules.specs.Obeys.{Priority, Rightly, lights_of}
use Rattle.priority_laws.proofs.Priority.{light-at}
use Rattle.slot_laws.proofs.Forms.{Accepted}
use Rattle.slot_laws.proofs.WorkCounts.{work_of_all_lem}
use Rattle.bound.proofs.Within.{WithinLimit}
use Rattle.bound.proofs.Theorem.{always_ahead}
use Rattle.bound.proofs.Prefixes.{sum_of_first}
use Rattle.bound.proofs.Ranked.{ranked, table_conditions}
use Rattle.bound.proofs.Scheduled.{scheduled}

module _ (tbl : Table) (ranks : List ℕ) (r : Priority tbl ranks) where
  abbrev ls : List ℕ
  ls = lights_of tbl ranks

  -- a sum over the light tasks by rank is one over the first of their list
  lights-sum : (f : ℕ → ℕ) (k : ℕ) → k ≤ length ls → sum_before k (λ j. f (get_or ranks (heavy_count tbl + j) 0)) ≡ sum (map f (take k ls))
  lights-sum f k h = ap (sum_before k) (fun_ext (λ j. ap f (light-at r j))) ∙ sym (sum_of_first ls f k h)

  -- no task is twice among the first light ones
  lights_once : (k i : ℕ) → count (eqb i) (take k ls) ≤ 1
  lights_once k i =
      omega (arith, count-take (eqb i) k ls, count-filter-le (light tbl) (eqb i) ranks, r.permutes i, count-numbers-le i (size tbl))

  module _ (run : ℕ → List ℕ) (right : (s : ℕ) → Rightly tbl ranks run s) (a : Accepted tbl) (within : WithinLimit tbl) (b : ℕ) where
    first_keep_up : (k : ℕ) → k ≤ length ls → b * shares_of tbl (take k ls) ≤ repeat_length tbl.rows * work_of_all run (take k ls) b
    unfolding ranked scheduled work_of
    first_keep_up k h =
        let f : ℕ → ℕ = λ i. share (repeat_length tbl.rows) (row_of tbl i) in
        let g : ℕ → ℕ = λ i. work_of run i b in
        rw (work_of_all_lem run (take k ls) (lights_once k) b, ← lights-sum f k h, ← lights-sum g k h)
        (always_ahead (scheduled tbl ranks run r right a) (table_conditions tbl a ranks r within) b k h)

    -- the first k light tasks keep up with their shares, and all where there are no more than k
    pub lights_keep_up : (k : ℕ) → b * shares_of tbl (take k ls) ≤ repeat_length tbl.rows * work_of_all run (take k ls) b
    lights_keep_up k =
        elim (dec_le k (length ls)) [
          | yes h ↦ first_keep_up k h
          | no h ↦
              let n : ℕ = length ls in
              let all : take k ls ≡ take n ls = take_all k ls (omega arith) ∙ sym (take_all n ls (le_refl n)) in
              rw all (first_keep_up n (le_refl n))
        ]
