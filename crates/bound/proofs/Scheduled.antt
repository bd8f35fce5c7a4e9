-- A run of an accepted table, from the fresh state, with any order by priority and right placings, is a schedule of its tasks by
-- rank.
use Prim.Native.Nat.{ℕ, suc, ◌+◌, ◌-◌, ◌*◌, ◌%◌, ◌≤◌, ◌<◌}
use mathlib.Core.Path.{◌≡◌, ◌∙◌}
use mathlib.Core.Bool.{true, false}
use mathlib.Core.List.{List}
use native.Mathlib.Nat.{add-suc, mul-mod_left}
use native.Mathlib.Omega.{arith}
use borrow.Author.Tests.{eq-eqb, ne_eqb}
use lib.Arith.{digits_mod}
use lib.Dec.{eqb}
use lib.ListN.{get_or}
use Rattle.laws.specs.Lists.{count, at}
use Rattle.rules.specs.Rows.{Row, releases, due, demand}
use Rattle.rules.specs.Tables.{Table, size, row_of}
use Rattle.rules.specs.Slots.{given}
use Rattle.rules.specs.Obeys.{Priority, Rightly}
use Rattle.priority_laws.proofs.Priority.{ranks-length, ranks-all, task-low, task-high}
use Rattle.slot_laws.proofs.Forms.{Accepted}
use Rattle.slot_laws.proofs.Books.{priority_ranking}
use Rattle.slot_laws.proofs.Given.{ready_with, ready-at_with, worked-at_with, next-left_with}
use Rattle.slot_laws.proofs.Obeying.{rightly-ready}
use Rattle.bound.specs.Setting.{Jobs, Schedule}
use Rattle.bound.proofs.Chosen.{chosen_by_rank}
use Rattle.bound.proofs.Ranked.{ranked}

-- a row releases in slot s, and has a deadline at boundary s, where its period divides s
releases_then : (r : Row) (s : ℕ) → s % r.t ≡ 0 → releases r s ≡ true
unfolding releases
releases_then r s e = eq-eqb (s % r.t) 0 e

rests_then : (r : Row) (s : ℕ) → 0 < s % r.t → releases r s ≡ false
unfolding releases
rests_then r s h = ne_eqb (s % r.t) 0 (λ e. omega arith)

not_due_then : (r : Row) (s : ℕ) → 0 < s % r.t → due r s ≡ false
unfolding due
not_due_then r s h = ne_eqb (s % r.t) 0 (λ e. omega arith)

-- the placings show in every slot each of the first tasks with left work once, and no other
module _ (tbl : Table) (ranks : List ℕ) (run : ℕ → List ℕ) (r : Priority tbl ranks) (right : (s : ℕ) → Rightly tbl ranks run s) where
  module _ (i : ℕ) (low : 1 ≤ i) (high : i ≤ size tbl) where
    abbrev row : Row
    row = row_of tbl i

    -- left work is kept from slot to slot but for the unit given, until the period ends
    ready-kept : (s : ℕ) → 0 < suc s % row.t → at (ready_with tbl ranks run (suc s)) i ≡ at (ready_with tbl ranks run s) i - count (eqb i) (run s)
    unfolding given
    ready-kept s h =
        ready-at_with tbl ranks run (suc s) i low high
        ∙ rw (rests_then row (suc s) h) (next-left_with tbl ranks run s i low high ∙ rw (not_due_then row (suc s) h) (worked-at_with tbl ranks run s i low high))

    -- the jobs of a task
    pub table-jobs : Jobs row.t row.c (λ s. at (ready_with tbl ranks run s) i) (λ s. count (eqb i) (run s))
    unfolding demand
    table-jobs =
        record {
          released = λ a. ready-at_with tbl ranks run (a * row.t) i low high ∙ rw (releases_then row (a * row.t) (mul-mod_left a row.t));
          kept =
              λ a e h.
              let part : (a * row.t + suc e) % row.t ≡ suc e = digits_mod a h in
              rw (add-suc (a * row.t) e) (ready-kept (a * row.t + e) (rw (← add-suc (a * row.t) e) (omega arith)));
          modest = λ s. rightly-ready r run s (right s) i low;
        }

  -- the run by rank
  unfoldable pub scheduled : (a : Accepted tbl) → Schedule (ranked tbl a ranks r)
  unfolding ranked
  scheduled a =
      record {
        ready = λ k s. at (ready_with tbl ranks run s) (get_or ranks k 0);
        runs = λ k s. count (eqb (get_or ranks k 0)) (run s);
        jobs = λ k h. table-jobs (get_or ranks k 0) (task-low r k (rw (ranks-all r) at h)) (task-high r k (rw (ranks-all r) at h));
        chosen =
            λ k s h.
            let k' : k < size tbl = rw (ranks-all r) at h in
            right s (get_or ranks k 0) (task-low r k k')
            ∙ chosen_by_rank tbl.m (priority_ranking r) (ready_with tbl ranks run s) k (rw (ranks-length r) k');
      }
