-- A run that obeys, of a table within the limit: every job is given its demand by its deadline, so nothing is missed or dropped.
use Prim.Native.Nat.{ℕ, zero, suc, ◌+◌, ◌-◌, ◌*◌, ◌/◌, ◌%◌, ◌≤◌, ◌<◌}
use mathlib.Core.Path.{◌≡◌, refl, sym, ◌∙◌}
use mathlib.Core.Bool.{true, false, ◌&&◌}
use mathlib.Core.Logic.{⊎_elim}
use mathlib.Core.List.{List}
use native.Mathlib.Nat.{div-add-mod'}
use native.Mathlib.Omega.{arith}
use borrow.Author.Tests.{eqb-true}
use lib.Dec.{ltb}
use lib.ListN.{length, get_or, replicate, length-replicate}
use Rattle.laws.specs.Lists.{numbers}
use Rattle.laws.proofs.Tests.{decide}
use Rattle.laws.proofs.Each.{count_cong, ext_at, at-replicate}
use Rattle.laws.proofs.Filters.{count_as_sum}
use Rattle.laws.proofs.Sums.{sum-map-zero}
use Rattle.rules.specs.Rows.{Row, due, demand}
use Rattle.rules.specs.Tables.{Table, size, row_of}
use Rattle.rules.specs.Counts.{sum_before, work_of, short_at, dropped_by}
use Rattle.rules.specs.Obeys.{slot_with, after_with, Priority, Rightly}
use Rattle.priority_laws.proofs.Priority.{ranks-all, rank_of}
use Rattle.slot_laws.proofs.Forms.{Accepted}
use Rattle.slot_laws.proofs.Given.{state_with, dropped-length_with, next-misses_with}
use Rattle.slot_laws.proofs.Obeying.{rightly-ready}
use Rattle.slot_laws.proofs.MissCounts.{misses-shown_with, dropped-counted_with}
use Rattle.bound.proofs.Within.{WithinLimit}
use Rattle.bound.proofs.Theorem.{never_misses}
use Rattle.bound.proofs.Ranked.{ranked, table_conditions}
use Rattle.bound.proofs.Scheduled.{scheduled}

-- a boundary after the first slot that is a multiple of T ends a job
job_end : (T s : ℕ) → suc s % T ≡ 0 → (a : ℕ) × (suc s ≡ suc a * T)
job_end T s e = go (suc s / T) (omega (arith, div-add-mod' (suc s) T))
  where
    go : (q : ℕ) → suc s ≡ q * T → (a : ℕ) × (suc s ≡ suc a * T)
    go zero f = absurd (omega arith)
    go (suc a) f = (a, f)

module _ (tbl : Table) (a : Accepted tbl) (within : WithinLimit tbl) where
  module _ (ranks : List ℕ) (run : ℕ → List ℕ) (r : Priority tbl ranks) (right : (s : ℕ) → Rightly tbl ranks run s) where
    -- the theorem over ranks, of the run's own work
    ranked_met : (k : ℕ) → k < size tbl → (j : ℕ)
        → work_of run (get_or ranks k 0) (suc j * (row_of tbl (get_or ranks k 0)).t) ≡ (row_of tbl (get_or ranks k 0)).c + work_of run (get_or ranks k 0) (j * (row_of tbl (get_or ranks k 0)).t)
    unfolding work_of ranked scheduled
    ranked_met k h j = never_misses (scheduled tbl ranks run r right a) (table_conditions tbl a ranks r within) k j (rw (ranks-all r) h)

    module _ (i : ℕ) (low : 1 ≤ i) (high : i ≤ size tbl) where
      abbrev row : Row
      row = row_of tbl i

      -- job j is given its demand between its release and its deadline
      pub job_met : (j : ℕ) → work_of run i (suc j * row.t) ≡ row.c + work_of run i (j * row.t)
      job_met j =
          let o : (k : ℕ) × (k < size tbl) × (get_or ranks k 0 ≡ i) = rank_of r i low high in
          rw o.2 at (ranked_met o.0 o.1 j)

      -- at its deadline no job is short of its demand
      job_not_short : (j s : ℕ) → suc s ≡ suc j * row.t → short_at tbl run i (suc s) ≡ 0
      unfolding short_at demand
      job_not_short j s e =
          let back : suc s - row.t ≡ j * row.t = omega arith in
          rw (back, e) (omega (arith, job_met j))

      no_short : (s : ℕ) → due row (suc s) ≡ true → short_at tbl run i (suc s) ≡ 0
      unfolding due
      no_short s d =
          let e : (j : ℕ) × (suc s ≡ suc j * row.t) = job_end row.t s (eqb-true (suc s % row.t) 0 d) in
          job_not_short e.0 s e.1

      -- so nothing is dropped
      none_dropped : (b : ℕ) → dropped_by tbl run i b ≡ 0
      unfolding dropped_by sum_before
      none_dropped zero = refl
      none_dropped (suc b) =
          ⊎_elim (λ (d : due row (suc b) ≡ true). rw (no_short b d, d) (omega (arith, none_dropped b)))
          (λ (d : due row (suc b) ≡ false). rw d (omega (arith, none_dropped b)))
          (decide (due row (suc b)))

    -- no slot shows a miss
    pub slot-misses-none : (s : ℕ) → (slot_with (state_with tbl ranks run s) (run s)).shown.misses ≡ 0
    slot-misses-none s =
        misses-shown_with tbl ranks run s (λ x l i low high. rightly-ready r run x (right x) i low)
        ∙ count_cong (size tbl) (λ i. due (row_of tbl i) (suc s) && ltb 0 (short_at tbl run i (suc s))) (λ i. false)
        (λ i low high.
        ⊎_elim (λ (d : due (row_of tbl i) (suc s) ≡ true). rw (no_short i low high s d, d)) (λ (d : due (row_of tbl i) (suc s) ≡ false). rw d) (decide (due (row_of tbl i) (suc s))))
        ∙ count_as_sum (λ i. false) (numbers (size tbl))
        ∙ sum-map-zero (numbers (size tbl))

    -- so none is ever counted
    pub run-misses-none : (b : ℕ) → (state_with tbl ranks run b).misses ≡ 0
    unfolding after_with
    run-misses-none zero = refl
    run-misses-none (suc b) = next-misses_with tbl ranks run b ∙ rw (run-misses-none b, slot-misses-none b)

    -- every entry of the dropped units stays 0
    pub run-dropped-none : (b : ℕ) → (state_with tbl ranks run b).dropped ≡ replicate (size tbl) 0
    run-dropped-none b =
        let len : length (state_with tbl ranks run b).dropped ≡ size tbl = dropped-length_with tbl ranks run b in
        ext_at (state_with tbl ranks run b).dropped (replicate (size tbl) 0) (len ∙ sym (length-replicate (size tbl) 0)) (λ i low high.
        let high' : i ≤ size tbl = omega arith in
        dropped-counted_with tbl ranks run i low high' b (λ x l o low high. rightly-ready r run x (right x) o low) ∙ none_dropped i low high' b ∙ sym (at-replicate (size tbl) 0 i low high'))
