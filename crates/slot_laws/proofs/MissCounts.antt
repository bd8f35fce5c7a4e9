-- The units that a run has dropped, and its misses, are counted over its slots.
use Prim.Native.Nat.{ℕ, zero, suc, ◌+◌, ◌%◌, ◌≤◌}
use mathlib.Core.Path.{◌≡◌, refl, ◌∙◌}
use mathlib.Core.Bool.{Bool, true, false, ◌&&◌}
use mathlib.Core.Logic.{⊎_elim}
use mathlib.Core.List.{List}
use native.Mathlib.Nat.{zero-mod, sub-zero, le_refl, le_step}
use native.Mathlib.Decide.{le_ind}
use native.Mathlib.Omega.{arith}
use borrow.Author.Tests.{eqb-true, eq-eqb, ne_eqb}
use lib.Dec.{eqb, ltb}
use Rattle.laws.specs.Lists.{at}
use Rattle.laws.proofs.Tests.{decide}
use Rattle.laws.proofs.Each.{at-replicate, count_cong}
use Rattle.laws.proofs.Periods.{since, GoesOn, tick}
use Rattle.rules.specs.Rows.{Row, releases, due, demand}
use Rattle.rules.specs.Tables.{Table, size, row_of}
use Rattle.rules.specs.States.{fresh}
use Rattle.rules.specs.Slots.{given, missed, slot}
use Rattle.rules.specs.Runs.{after}
use Rattle.rules.specs.Counts.{sum_before, cores_in, work_of, short_at, dropped_by, misses_by, misses_at}
use Rattle.rules.specs.Verdicts.{order}
use Rattle.rules.specs.Obeys.{slot_with, after_with}
use Rattle.slot_laws.proofs.Given.{state_with, ready_with, worked_with, ready-at_with, worked-at_with, shown-misses_with, next-left_with, next-dropped_with, next-misses_with, own_run, own_slot}
use Rattle.slot_laws.proofs.Obeying.{Modest, obeys_modest, own_obeys}

-- work only grows
work_grows : (run : ℕ → List ℕ) (i a b : ℕ) → a ≤ b → work_of run i a ≤ work_of run i b
unfolding work_of sum_before
work_grows run i a b h = le_ind (λ (x : ℕ). work_of run i a ≤ work_of run i x) (le_refl (work_of run i a)) (λ x l w. omega arith) b h

-- ---- a run with any order and placings in which no task is given more than its left work

module _ (tbl : Table) (ranks : List ℕ) (run : ℕ → List ℕ) where
  -- and so in the slots before the last of them
  modest_before : {b : ℕ} → Modest tbl ranks run (suc b) → Modest tbl ranks run b
  modest_before m s h = m s (le_step h)

  module _ (i : ℕ) (low : 1 ≤ i) (high : i ≤ size tbl) where
    abbrev row : Row
    row = row_of tbl i

    abbrev work : ℕ → ℕ
    work b = work_of run i b

    -- what is left of the running job and what it was given since its release make up its demand: after the releases of slot
    -- b, and at its end
    abbrev Ready : ℕ → Type 0
    Ready b = at (ready_with tbl ranks run b) i + work b ≡ demand row + work (since row.t b)

    abbrev Worked : ℕ → Type 0
    Worked b = at (worked_with tbl ranks run b) i + work (suc b) ≡ demand row + work (since row.t b)

    ready-released : (b : ℕ) → b % row.t ≡ 0 → Ready b
    unfolding releases
    ready-released b e =
        let all : at (ready_with tbl ranks run b) i ≡ demand row = ready-at_with tbl ranks run b i low high ∙ rw (eq-eqb (b % row.t) 0 e) in
        rw (all, e, sub-zero)

    worked-counted : (b : ℕ) → Modest tbl ranks run (suc b) → Ready b → Worked b
    unfolding work_of sum_before given
    worked-counted b m r = omega (arith, worked-at_with tbl ranks run b i low high, m b (le_refl (suc b)) i low high)

    ready-kept : (b : ℕ) → GoesOn row.t b → Worked b → Ready (suc b)
    unfolding releases due
    ready-kept b g w =
        let off : eqb (suc b % row.t) 0 ≡ false = ne_eqb (suc b % row.t) 0 (λ e. omega arith) in
        let same : at (ready_with tbl ranks run (suc b)) i ≡ at (worked_with tbl ranks run b) i =
        ready-at_with tbl ranks run (suc b) i low high ∙ rw off (next-left_with tbl ranks run b i low high ∙ rw off)
        in
        rw (same, g.same) w

    ready-counted : (b : ℕ) → Modest tbl ranks run b → Ready b
    ready-counted zero m = ready-released 0 (zero-mod row.t)
    ready-counted (suc b) m =
        ⊎_elim (λ e. ready-released (suc b) e.whole) (λ g. ready-kept b g (worked-counted b m (ready-counted b (modest_before m)))) (tick row.t b)

    -- what is left of a job at its deadline is what it was not given
    short_counted : (b : ℕ) → Modest tbl ranks run (suc b) → due row (suc b) ≡ true → at (worked_with tbl ranks run b) i ≡ short_at tbl run i (suc b)
    unfolding due short_at
    short_counted b m d =
        let whole : suc b % row.t ≡ 0 = eqb-true (suc b % row.t) 0 d in
        let w : Worked b = worked-counted b m (ready-counted b (modest_before m)) in
        ⊎_elim (λ e. rw e.back (omega (arith, work_grows run i (since row.t b) (suc b) (omega arith)))) (λ g. absurd (omega arith)) (tick row.t b)

    -- the units dropped of a task are what its jobs were not given by their deadlines
    pub dropped-counted_with : (b : ℕ) → Modest tbl ranks run b → at (state_with tbl ranks run b).dropped i ≡ dropped_by tbl run i b
    unfolding after_with dropped_by sum_before
    dropped-counted_with zero m = at-replicate (size tbl) 0 i low high
    dropped-counted_with (suc b) m =
        next-dropped_with tbl ranks run b i low high
        ∙ rw (dropped-counted_with b (modest_before m)) (⊎_elim (λ d. rw (d, short_counted b m d)) (λ d. rw d) (decide (due row (suc b))))

  module _ (b : ℕ) (m : Modest tbl ranks run (suc b)) where
    -- the job of task i with its deadline at the end of slot b was not given all that it asks for
    abbrev short : ℕ → Bool
    short i = due (row_of tbl i) (suc b) && ltb 0 (short_at tbl run i (suc b))

    missed_short : (i : ℕ) → 1 ≤ i → i ≤ size tbl → missed tbl b (worked_with tbl ranks run b) i ≡ short i
    unfolding missed
    missed_short i low high = ⊎_elim (λ d. rw (d, short_counted i low high b m d)) (λ d. rw d) (decide (due (row_of tbl i) (suc b)))

    -- the misses that a slot shows are the tasks whose job was not given all that it asks for
    pub misses-shown_with : (slot_with (state_with tbl ranks run b) (run b)).shown.misses
        ≡ misses_at tbl run b
    misses-shown_with = shown-misses_with tbl ranks run b ∙ count_cong (size tbl) (missed tbl b (worked_with tbl ranks run b)) short missed_short

  -- the misses of a run are the pairs of a task and a boundary at which a job of it was not given all that it asks for
  pub misses-counted_with : (b : ℕ) → Modest tbl ranks run b → (state_with tbl ranks run b).misses ≡ misses_by tbl run b
  unfolding after_with misses_by sum_before
  misses-counted_with zero m = refl
  misses-counted_with (suc b) m = next-misses_with tbl ranks run b ∙ rw (misses-counted_with b (modest_before m), misses-shown_with b m)

-- ---- a table's own run

module _ (tbl : Table) where
  own_modest : (b : ℕ) → Modest tbl (order tbl) (cores_in tbl) b
  own_modest b = obeys_modest (own_obeys tbl b)

  pub dropped-counted : (i : ℕ) → 1 ≤ i → i ≤ size tbl → (b : ℕ) → at (after b (fresh tbl)).dropped i ≡ dropped_by tbl (cores_in tbl) i b
  dropped-counted i low high b = rw (own_run tbl b) (dropped-counted_with tbl (order tbl) (cores_in tbl) i low high b (own_modest b))

  pub misses_shown : (b : ℕ) → (slot (after b (fresh tbl))).shown.misses ≡ misses_at tbl (cores_in tbl) b
  misses_shown b = rw (own_slot tbl b) (misses-shown_with tbl (order tbl) (cores_in tbl) b (own_modest (suc b)))

  pub misses-counted : (b : ℕ) → (after b (fresh tbl)).misses ≡ misses_by tbl (cores_in tbl) b
  misses-counted b = rw (own_run tbl b) (misses-counted_with tbl (order tbl) (cores_in tbl) b (own_modest b))
