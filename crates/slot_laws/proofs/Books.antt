-- The books of a run: what was released is done, left or dropped. A slot keeps all that makes a state well formed.
use Prim.Native.Nat.{ℕ, zero, suc, ◌+◌, ◌-◌, ◌*◌, ◌≤◌, ◌<◌}
use mathlib.Core.Path.{◌≡◌, refl, sym, ◌∙◌}
use mathlib.Core.Bool.{Bool, true, false, cond, not, ◌&&◌}
use mathlib.Core.Logic.{⊎_elim, inl}
use mathlib.Core.List.{List}
use native.Mathlib.Nat.{div-eq_of_lt, eq-zero-or-pos, le_trans, add-zero}
use native.Mathlib.Omega.{arith}
use lib.Dec.{T, eqb, ltb}
use lib.ListN.{length, replicate, length-replicate}
use Rattle.laws.specs.Lists.{numbers, each, at, position}
use Rattle.laws.proofs.Tests.{of_T, to_T, and_left}
use Rattle.laws.proofs.Each.{length_from, length-each, at_each, at-replicate, count-le}
use Rattle.laws.proofs.Entries.{position_within, count_mono, count-numbers-le, count-position-le, multiples_suc}
use Rattle.rules.specs.Limits.{clock_max}
use Rattle.rules.specs.Rows.{Row, releases, due, demand, releases_before, released}
use Rattle.rules.specs.Tables.{Table, size, row_of, accepts}
use Rattle.rules.specs.Verdicts.{order}
use Rattle.rules.specs.States.{State, fresh}
use Rattle.rules.specs.Slots.{release, choose, placed, given, moved, missed, effect, slot}
use Rattle.rules.specs.Runs.{after}
use Rattle.rules.specs.Forms.{well_formed}
use Rattle.rules.specs.Counts.{sum_before}
use Rattle.rules.specs.Obeys.{Priority}
use Rattle.priority_laws.proofs.Priority.{ranks-none, order-priority}
use Rattle.slot_laws.proofs.After.{after_table, after-clock}
use Rattle.slot_laws.proofs.Choosing.{Ranking, choose-pending}
use Rattle.slot_laws.proofs.Placing.{place-length, slot-chosen}
use Rattle.slot_laws.proofs.Forms.{Accepted, accepted, TaskKept, Kept, formed-kept, kept-formed}

-- ---- the clock's tick

module _ (r : Row) where
  -- nothing is released before the first slot
  pub releases_before-zero : releases_before r 0 ≡ 0
  unfolding releases_before
  releases_before-zero = ⊎_elim (λ e. rw e) (λ pos. div-eq_of_lt (omega arith)) (eq-zero-or-pos r.t)

  -- and no unit
  pub released-zero : released r 0 ≡ 0
  unfolding released
  released-zero = rw releases_before-zero (omega arith)

module _ (r : Row) (ticks : 1 ≤ r.t) where
  -- one slot more has one release more where the row releases in it
  pub releases_before-suc : (s : ℕ) → releases_before r (suc s) ≡ releases_before r s + cond (releases r s) 1 0
  unfolding releases_before releases
  releases_before-suc s = multiples_suc r.t s ticks

  -- the releases before a boundary are the slots before it in which the row releases
  pub releases_before_counts : (b : ℕ) → releases_before r b ≡ sum_before b (λ s. cond (releases r s) 1 0)
  unfolding sum_before
  releases_before_counts zero = releases_before-zero r
  releases_before_counts (suc b) = releases_before-suc b ∙ rw (releases_before_counts b)

  -- and so with the units released
  pub released-suc : (s : ℕ) → released r (suc s) ≡ released r s + cond (releases r s) (demand r) 0
  unfolding released
  released-suc s = rw (releases_before-suc s) (scaled (releases r s))
    where
      scaled : (b : Bool) → demand r * (releases_before r s + cond b 1 0) ≡ demand r * releases_before r s + cond b (demand r) 0
      scaled true = omega arith
      scaled false = omega arith

-- a deadline falls where the next job is released
due-releases : (r : Row) (b : ℕ) → due r b ≡ releases r b
unfolding due releases
due-releases r b = refl

-- ---- the fresh state

-- the fresh state of an accepted table has all that makes a state well formed
pub fresh_kept : (tbl : Table) → Accepted tbl → Kept (fresh tbl)
unfolding fresh
fresh_kept tbl a =
    record {
      taken = a;
      left_length = length-replicate (size tbl) 0;
      last_length = length-replicate (size tbl) 0;
      done_length = length-replicate (size tbl) 0;
      dropped_length = length-replicate (size tbl) 0;
      ranked = refl;
      task = task;
      moves_few = omega arith;
      misses_few = omega arith;
    }
  where
    task : (i : ℕ) → 1 ≤ i → i ≤ size tbl → TaskKept (fresh tbl) i
    task i low high =
        let none : at (replicate (size tbl) 0) i ≡ 0 = at-replicate (size tbl) 0 i low high in
        record {
          fits = omega arith;
          spent = λ e. none;
          core = omega arith;
          books = omega (arith, released-zero (row_of tbl i));
        }

-- the fresh state of an accepted table is well formed
pub fresh-formed : (tbl : Table) → T (accepts tbl) → T (well_formed (fresh tbl))
unfolding fresh
fresh-formed tbl t = kept-formed (fresh_kept tbl (accepted tbl t)) (omega arith)

-- ---- one slot

-- each task's left work after the releases of the state's slot
abbrev pub ready : State → List ℕ
ready st = release st.table st.clock st.left

module _ (st : State) (i : ℕ) (low : 1 ≤ i) (high : i ≤ size st.table) where
  -- a task that releases has its demand left, any other what it had
  pub at_ready : at (ready st) i ≡ cond (releases (row_of st.table i) st.clock) (demand (row_of st.table i)) (at st.left i)
  unfolding release
  at_ready = simp (at_each (size st.table))

  -- what a slot with any placing leaves of a task
  module _ (units cores : List ℕ) where
    pub effect-left : at (effect st units cores).next.left i ≡ cond (due (row_of st.table i) (suc st.clock)) 0 (at units i - given cores i)
    unfolding effect
    effect-left = simp (at_each (size st.table))

    pub effect-last : at (effect st units cores).next.last i ≡ cond (placed cores i) (position i cores) (at st.last i)
    unfolding effect
    effect-last = simp (at_each (size st.table))

    pub effect-done : at (effect st units cores).next.done i ≡ at st.done i + given cores i
    unfolding effect
    effect-done = simp (at_each (size st.table))

    pub effect-dropped : at (effect st units cores).next.dropped i
        ≡ at st.dropped i + cond (due (row_of st.table i) (suc st.clock)) (at units i - given cores i) 0
    unfolding effect
    effect-dropped = simp (at_each (size st.table))

-- a task that moved is placed
moved-placed : (last cores : List ℕ) (i : ℕ) → moved last cores i ≡ true → placed cores i ≡ true
unfolding moved
moved-placed last cores i e =
    let t : T (placed cores i && ltb 0 (at last i) && not (eqb (position i cores) (at last i))) = to_T e in
    of_T (placed cores i) (search and_left)

module _ (st : State) (units cores : List ℕ) where
  -- a slot shows no more moves than it has cores
  pub effect-moves : (effect st units cores).shown.moves ≤ length cores
  unfolding effect placed
  effect-moves =
      le_trans (count_mono (moved st.last cores) (placed cores) (numbers (size st.table)) (moved-placed st.last cores))
      (count-position-le (size st.table) cores)

  -- and no more misses than there are tasks
  pub effect-misses : (effect st units cores).shown.misses ≤ size st.table
  unfolding effect
  effect-misses =
      rw (length_from 1 (size st.table)) at
      (count-le (missed st.table st.clock (each (size st.table) (λ i. at units i - given cores i))) (numbers (size st.table)))

-- a placing that a slot of the state may have: no wider than m, and no task is given more than it has left
pub record Backed (st : State) (cores : List ℕ) : Type 0 where
  pub width : length cores ≤ st.table.m
  pub within : (i : ℕ) → 1 ≤ i → i ≤ size st.table → given cores i ≤ at (ready st) i

-- a core that a task holds is one of the cores
core_within : (b : Bool) {core last m : ℕ} → core ≤ m → last ≤ m → cond b core last ≤ m
core_within true h k = h
core_within false h k = k

-- one task over one slot, where it releases or not and is due or not: its left work and its books
left_step : (releasing ends : Bool) (c left work : ℕ) → left ≤ c → cond ends 0 (cond releasing c left - work) ≤ c
left_step releasing true c left work fits = omega arith
left_step true false c left work fits = omega arith
left_step false false c left work fits = omega arith

books_step : (releasing ends : Bool) (c left done dropped work before : ℕ)
    → (releasing ≡ true → left ≡ 0) → work ≤ cond releasing c left → done + left + dropped ≡ before
    → (done + work) + cond ends 0 (cond releasing c left - work) + (dropped + cond ends (cond releasing c left - work) 0) ≡ before + cond releasing c 0
books_step true true c left done dropped work before spent within books = omega (arith, spent refl)
books_step true false c left done dropped work before spent within books = omega (arith, spent refl)
books_step false true c left done dropped work before spent within books = omega arith
books_step false false c left done dropped work before spent within books = omega arith

module _ {st : State} (kept : Kept st) (cores : List ℕ) (backed : Backed st cores) where
  -- a slot with such a placing keeps what is kept of each task
  effect-task : (i : ℕ) → 1 ≤ i → i ≤ size st.table → TaskKept (effect st (ready st) cores).next i
  unfolding effect demand
  effect-task i low high =
      record {
        fits = rw (left_is, ready_is) (left_step (releases r s) (due r (suc s)) r.c left work was.fits);
        spent = λ e. left_is ∙ rw (due-releases r (suc s), e);
        core = rw (effect-last st i low high (ready st) cores) (core_within (placed cores i) (le_trans (position_within i cores) backed.width) was.core);
        books =
            rw (left_is, effect-dropped st i low high (ready st) cores, effect-done st i low high (ready st) cores, ready_is, released-suc r ticks s)
            (books_step (releases r s) (due r (suc s)) r.c left (at st.done i) (at st.dropped i) work (released r s) was.spent within was.books);
      }
    where
      r : Row
      r = row_of st.table i

      s : ℕ
      s = st.clock

      left : ℕ
      left = at st.left i

      work : ℕ
      work = given cores i

      was : TaskKept st i
      was = kept.task i low high

      ticks : 1 ≤ r.t
      ticks = le_trans (kept.taken.row i low high).works (kept.taken.row i low high).fits

      ready_is : at (ready st) i ≡ cond (releases r s) (demand r) left
      ready_is = at_ready st i low high

      left_is : at (effect st (ready st) cores).next.left i ≡ cond (due r (suc s)) 0 (at (ready st) i - work)
      left_is = effect-left st i low high (ready st) cores

      within : work ≤ cond (releases r s) (demand r) left
      within = rw ready_is at (backed.within i low high)

  -- a slot with such a placing keeps a state well formed, but for the bound of its clock
  pub effect-kept : Kept (effect st (ready st) cores).next
  unfolding effect
  effect-kept =
      record {
        taken = kept.taken;
        left_length = length-each (size st.table) _;
        last_length = length-each (size st.table) _;
        done_length = length-each (size st.table) _;
        dropped_length = length-each (size st.table) _;
        ranked = kept.ranked;
        task = effect-task;
        moves_few = omega (arith, effect-moves st (ready st) cores);
        misses_few = omega (arith, effect-misses st (ready st) cores);
      }

-- an order by priority names no task twice, and no task 0
pub priority_ranking : {tbl : Table} {ranks : List ℕ} → Priority tbl ranks → Ranking ranks
priority_ranking {tbl} r = record { once = λ i. omega (arith, r.permutes i, count-numbers-le i (size tbl)); real = ranks-none r 0 (inl refl) }

-- so does the order of a table
pub order_ranking : (tbl : Table) → Ranking (order tbl)
order_ranking tbl = priority_ranking (order-priority tbl)

-- the order that is kept in a state is the table's, so it is one by priority and names no task twice, and no task 0
pub kept-priority : {st : State} → Kept st → Priority st.table st.ranks
kept-priority {st} kept = rw kept.ranked (order-priority st.table)

pub kept_ranking : {st : State} → Kept st → Ranking st.ranks
kept_ranking kept = priority_ranking (kept-priority kept)

-- the placing of a slot is one that it may have
pub slot_backed : {st : State} → Kept st → Backed st (slot st).shown.cores
unfolding slot effect given
slot_backed {st} kept =
    record {
      width = omega (arith, place-length st.table.m st.last (choose st.table.m st.ranks (ready st)));
      within = λ i low high. omega (arith, slot-chosen st (kept_ranking kept) i low, choose-pending st.table.m (ready st) (kept_ranking kept) i);
    }

-- one slot keeps a state well formed, but for the bound of its clock
pub slot_kept : {st : State} → Kept st → Kept (slot st).next
unfolding slot effect
slot_kept {st} kept = effect-kept kept (slot st).shown.cores (slot_backed kept)

-- a slot shows its number, no more moves than it has cores and no more misses than there are tasks
module _ (st : State) where
  pub slot-number : (slot st).shown.slot ≡ st.clock
  unfolding slot effect
  slot-number = refl

  pub slot-moves : (slot st).shown.moves ≤ length (slot st).shown.cores
  unfolding slot effect
  slot-moves = effect-moves st (ready st) (slot st).shown.cores

  pub slot-misses : (slot st).shown.misses ≤ size st.table
  unfolding slot effect
  slot-misses = effect-misses st (ready st) (slot st).shown.cores

-- one slot takes the clock one on
pub slot-clock : (st : State) → (slot st).next.clock ≡ suc st.clock
unfolding slot effect
slot-clock st = refl

-- one slot keeps a state well formed where the clock has room
pub slot-formed : (st : State) → T (well_formed st) → st.clock < clock_max → T (well_formed (slot st).next)
slot-formed st t room = kept-formed (slot_kept (formed-kept st t)) (omega (arith, slot-clock st))

-- ---- runs

-- k slots keep a state well formed, but for the bound of its clock
pub after_kept : (k : ℕ) {st : State} → Kept st → Kept (after k st)
unfolding after
after_kept zero kept = kept
after_kept (suc k) kept = after_kept k (slot_kept kept)

-- and wholly where the clock has room
pub after-formed : (k : ℕ) (st : State) → T (well_formed st) → st.clock + k ≤ clock_max → T (well_formed (after k st))
after-formed k st t room = kept-formed (after_kept k (formed-kept st t)) (omega (arith, after-clock k st))

-- a table's run from the fresh state, at each boundary
module _ (tbl : Table) (t : T (accepts tbl)) (b : ℕ) where
  -- the state has all that makes a state well formed
  pub run-kept : Kept (after b (fresh tbl))
  run-kept = after_kept b (fresh_kept tbl (accepted tbl t))

  -- and is well formed up to the clock's bound
  pub run-formed : b ≤ clock_max → T (well_formed (after b (fresh tbl)))
  unfolding fresh
  run-formed soon = after-formed b (fresh tbl) (fresh-formed tbl t) (omega arith)

  -- at every boundary what was released of a task is done, left or dropped
  pub conservation : (i : ℕ) → 1 ≤ i → i ≤ size tbl
      → released (row_of tbl i) b ≡ at (after b (fresh tbl)).done i + at (after b (fresh tbl)).left i + at (after b (fresh tbl)).dropped i
  unfolding fresh
  conservation i low high =
      let table : (after b (fresh tbl)).table ≡ tbl = after_table b (fresh tbl) in
      let clock : (after b (fresh tbl)).clock ≡ b = after-clock b (fresh tbl) ∙ add-zero b in
      sym (rw (table, clock) at (run-kept.task i low (rw table high)).books)
