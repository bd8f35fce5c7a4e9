-- The slot on lists is the rules' slot: a well formed state gives all that it asks for, and it leaves the lists of the next state.
use Prim.Native.Nat.{ℕ, suc, ◌+◌, ◌-◌, ◌/◌, ◌%◌, ◌≤◌, ◌<◌}
use mathlib.Core.Path.{◌≡◌, refl, sym, ap, ◌∙◌}
use mathlib.Core.Bool.{Bool, true, false, cond, ◌&&◌}
use mathlib.Core.Logic.{⊎_elim}
use mathlib.Core.List.{List, ◌∷◌}
use native.Mathlib.Nat.{le_refl, mod-lt, mul-le-mul_right, mul-div-le}
use native.Mathlib.Omega.{arith}
use lib.Dec.{eqb, ltb}
use lib.ListN.{length, get_or, length-map, get_or-map}
use Rattle.laws.specs.Lists.{count, numbers, each, at, position}
use Rattle.laws.proofs.Each.{length-each, at_each, each_at, each_cong, count_cong}
use Rattle.laws.proofs.Tests.{decide}
use Rattle.laws.proofs.Periods.{mod-next}
use Rattle.laws.proofs.Sorted.{stands_from, stands_get_or}
use Rattle.laws.proofs.Entries.{count-numbers-le}
use Rattle.priority_laws.proofs.Order.{order-count}
use Rattle.rules.specs.Limits.{clock_max}
use Rattle.rules.specs.Rows.{Row, releases, due, demand, releases_before, released}
use Rattle.rules.specs.Tables.{Table, size, no_row, row_of}
use Rattle.rules.specs.Verdicts.{order}
use Rattle.rules.specs.States.{State}
use Rattle.rules.specs.Slots.{release, given, placed, moved, missed, effect, slot}
use Rattle.reading_laws.specs.Bounds.{RowInBounds}
use Rattle.slot_laws.proofs.Forms.{Kept}
use Rattle.engine.specs.Choice.{Named}
use Rattle.engine.specs.Ends.{next_phase, ending}
use Rattle.engine.specs.Step.{released_on, cores_on, worked_on, effect_on, step_on, Ready, units_of, periods_of, phases_in, step_from, lists_of}

-- the lesser of two, or the greater
cond_below : (b : Bool) {x y : ℕ} → x ≤ y → cond b y x ≤ y
cond_below true {y = y} h = le_refl y
cond_below false h = h

-- what a test gives, and what it then gives again
cond_twice : (b : Bool) (x y z : ℕ) → cond b x z ≡ cond b x (cond b y z)
cond_twice true x y z = refl
cond_twice false x y z = refl

-- a job's deadline is the release of the next one
due-releases : (r : Row) (s : ℕ) → due r s ≡ releases r s
unfolding due releases
due-releases r s = refl

-- ---- a table's columns

module _ (tbl : Table) where
  -- task i's entries are those of its row, and its phase is what is left over of the clock
  pub at-units : (i : ℕ) → at (units_of tbl) i ≡ (row_of tbl i).c
  at-units i = get_or-map (λ (r : Row). r.c) (no_row ∷ tbl.rows) i no_row

  pub at_periods : (i : ℕ) → at (periods_of tbl) i ≡ (row_of tbl i).t
  at_periods i = get_or-map (λ (r : Row). r.t) (no_row ∷ tbl.rows) i no_row

  module _ (s i : ℕ) (low : 1 ≤ i) (high : i ≤ size tbl) where
    pub at-phases : at (phases_in tbl s) i ≡ s % (row_of tbl i).t
    unfolding phases_in
    at-phases = at_each (size tbl) (λ j. s % (row_of tbl j).t) i low high

  phases-size : (s : ℕ) → length (phases_in tbl s) ≡ size tbl
  unfolding phases_in
  phases-size s = length-each (size tbl) (λ j. s % (row_of tbl j).t)

  -- the left work after the releases: one entry a task
  pub release-size : (s : ℕ) (left : List ℕ) → length (release tbl s left) ≡ size tbl
  unfolding release
  release-size s left = length-each (size tbl) _

  at-release : (s : ℕ) (left : List ℕ) (i : ℕ) → 1 ≤ i → i ≤ size tbl → at (release tbl s left) i ≡ cond (releases (row_of tbl i) s) (row_of tbl i).c (at left i)
  unfolding release demand
  at-release s left i low high = at_each (size tbl) (λ j. cond (releases (row_of tbl j) s) (row_of tbl j).c (at left j)) i low high

  -- the order names each task once, and nothing else
  order-named : Named (size tbl) (order tbl)
  order-named =
      record {
        from = λ j h. (stands_from _ 1 (size tbl) (ranked j h)).0;
        to = λ j h. omega (arith, (stands_from (get_or (order tbl) j 0) 1 (size tbl) (ranked j h)).1);
      }
    where
      ranked : (j : ℕ) → j < length (order tbl) → 0 < count (eqb (get_or (order tbl) j 0)) (numbers (size tbl))
      ranked j h = omega (arith, order-count tbl (eqb (get_or (order tbl) j 0)), stands_get_or (order tbl) j h)

-- ---- a well formed state

module _ {st : State} (kept : Kept st) where
  abbrev table : Table
  table = st.table

  -- where its clock is in bounds, no task was released more units than there are slots up to the end of its last period
  pub released-fits : st.clock ≤ clock_max → (i : ℕ) → 1 ≤ i → i ≤ size table → released (row_of table i) st.clock ≤ clock_max + 65_535
  unfolding released releases_before demand
  released-fits clock i low high =
      let r : Row = row_of table i in
      let fits : RowInBounds r = kept.taken.row i low high in
      let jobs : ℕ = (st.clock + (r.t - 1)) / r.t in
      omega (arith, mul-le-mul_right {m = r.c} {n = r.t} jobs (omega arith), mul-div-le (st.clock + (r.t - 1)) r.t)

  -- and it gives all that a slot asks of its lists
  pub ready : st.clock ≤ clock_max
      → Ready table.m (units_of table) (periods_of table) st.ranks (phases_in table st.clock) (release table st.clock st.left) st.last st.done st.dropped
  ready clock =
      record {
        few_cores = kept.taken.cores_high;
        few_tasks = omega (arith, kept.taken.tasks_high, release-size table st.clock st.left);
        c_size = length-map table.rows (λ r. r.c) ∙ sym (release-size table st.clock st.left);
        t_size = length-map table.rows (λ r. r.t) ∙ sym (release-size table st.clock st.left);
        phase_size = phases-size table st.clock ∙ sym (release-size table st.clock st.left);
        last_size = kept.last_length ∙ sym (release-size table st.clock st.left);
        done_size = kept.done_length ∙ sym (release-size table st.clock st.left);
        dropped_size = kept.dropped_length ∙ sym (release-size table st.clock st.left);
        named = rw (kept.ranked, release-size table st.clock st.left) (order-named table);
        once = λ i. rw kept.ranked (omega (arith, order-count table (eqb i), count-numbers-le i (size table)));
        phases =
            λ i low high.
            rw (at-phases table st.clock i low (within high), at_periods table i)
            (mod-lt st.clock (omega (arith, kept.taken.row i low (within high))));
        lefts =
            λ i low high.
            rw (at-release table st.clock st.left i low (within high), at-units table i)
            (cond_below (releases (row_of table i) st.clock) (kept.task i low (within high)).fits);
        lasts = λ i low high. (kept.task i low (within high)).core;
        done_fits = λ i low high. omega (arith, (kept.task i low (within high)).books, released-fits clock i low (within high));
        dropped_fits =
            λ i low high.
            omega (arith, (kept.task i low (within high)).books, released-fits clock i low (within high), at-units table i, kept.taken.row i low (within high));
      }
    where
      within : {i : ℕ} → i ≤ length (release table st.clock st.left) → i ≤ size table
      within h = omega (arith, release-size table st.clock st.left)

  module _ (i : ℕ) (low : 1 ≤ i) (high : i ≤ size table) where
    -- task i's phase becomes that of the next slot, and is 0 where its deadline falls on the slot's end
    next-phase : next_phase (at (phases_in table st.clock) i) (at (periods_of table) i) ≡ suc st.clock % (row_of table i).t
    next-phase =
        rw (at-phases table st.clock i low high, at_periods table i) (sym (mod-next (row_of table i).t st.clock (omega (arith, kept.taken.row i low high))))

    ends : ending (phases_in table st.clock) (periods_of table) i ≡ due (row_of table i) (suc st.clock)
    unfolding due
    ends = rw next-phase

    releases_now : eqb (at (phases_in table st.clock) i) 0 ≡ releases (row_of table i) st.clock
    unfolding releases
    releases_now = rw (at-phases table st.clock i low high)

  next-phases : each (size table) (λ i. next_phase (at (phases_in table st.clock) i) (at (periods_of table) i)) ≡ phases_in table (suc st.clock)
  unfolding phases_in
  next-phases = each_cong (size table) _ _ next-phase

  -- the left work after the releases
  pub released_on_lem : released_on (units_of table) (phases_in table st.clock) st.left ≡ release table st.clock st.left
  unfolding released_on release demand
  released_on_lem = rw kept.left_length (each_cong (size table) _ _ (λ i low high. rw (releases_now i low high, at-units table i)))

  -- a release of no units takes the releases back: the jobs before them have ended
  module _ (none : List ℕ) (zero-all : (i : ℕ) → at none i ≡ 0) where
    withheld_one : (i : ℕ) (low : 1 ≤ i) (high : i ≤ size table)
        → cond (eqb (at (phases_in table st.clock) i) 0) (at none i) (at (release table st.clock st.left) i) ≡ at st.left i
    withheld_one i low high =
        rw (releases_now i low high, at-release table st.clock st.left i low high, zero-all i)
        (⊎_elim (λ (e : releases (row_of table i) st.clock ≡ true). rw e (sym ((kept.task i low high).spent e)))
        (λ (e : releases (row_of table i) st.clock ≡ false). rw e)
        (decide (releases (row_of table i) st.clock)))

    pub withheld_on : released_on none (phases_in table st.clock) (release table st.clock st.left) ≡ st.left
    unfolding released_on
    withheld_on =
        rw (release-size table st.clock st.left) (each_cong (size table) _ _ withheld_one) ∙ each_at (size table) st.left kept.left_length

  -- the deadlines, for any work left before them
  abbrev ends_on : ℕ → Bool
  ends_on = ending (phases_in table st.clock) (periods_of table)

  abbrev due_on : ℕ → Bool
  due_on i = due (row_of table i) (suc st.clock)

  module _ (worked : List ℕ) where
    left_on : each (size table) (λ i. cond (ends_on i) (at (units_of table) i) (at worked i)) ≡ release table (suc st.clock) (each (size table) (λ i. cond (due_on i) 0 (at worked i)))
    unfolding release demand
    left_on =
        each_cong (size table) _ _ (λ i low high.
        rw (ends i low high, at-units table i, ← due-releases (row_of table i) (suc st.clock), at_each (size table) (λ j. cond (due_on j) 0 (at worked j)) i low high)
        (cond_twice (due_on i) (row_of table i).c 0 (at worked i)))

    dropped_on : each (size table) (λ i. at st.dropped i + cond (ends_on i) (at worked i) 0) ≡ each (size table) (λ i. at st.dropped i + cond (due_on i) (at worked i) 0)
    dropped_on = each_cong (size table) _ _ (λ i low high. ap (λ (b : Bool). at st.dropped i + cond b (at worked i) 0) (ends i low high))

    misses_on : count (λ i. ends_on i && ltb 0 (at worked i)) (numbers (size table)) ≡ count (missed table st.clock worked) (numbers (size table))
    unfolding missed
    misses_on = count_cong (size table) _ _ (λ i low high. ap (λ (b : Bool). b && ltb 0 (at worked i)) (ends i low high))

  abbrev worked : List ℕ → List ℕ → List ℕ
  worked units cores = each (size table) (λ i. at units i - given cores i)

  -- the effect of any placing
  effect_on_lem : (units cores : List ℕ) → length units ≡ size table
      → effect_on (units_of table) (periods_of table) (phases_in table st.clock) units st.last st.done st.dropped cores ≡ lists_of (effect st units cores)
  unfolding effect_on worked_on lists_of effect
  effect_on_lem units cores len =
      rw len
      (λ j.
      record {
        phase = next-phases j;
        left = left_on (worked units cores) j;
        last = each (size table) (λ i. cond (placed cores i) (position i cores) (at st.last i));
        done = each (size table) (λ i. at st.done i + given cores i);
        dropped = dropped_on (worked units cores) j;
        cores = cores;
        moves = count (moved st.last cores) (numbers (size table));
        misses = misses_on (worked units cores) j;
      })

  -- the slot on the state's lists is the rules' slot of the state
  pub step_slot : step_from st ≡ lists_of (slot st)
  unfolding step_from step_on slot cores_on
  step_slot = effect_on_lem _ _ (release-size table st.clock st.left)
