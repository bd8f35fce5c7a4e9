-- The units that a run has done are counted over its slots: a task's own, and those of several tasks together.
use Prim.Native.Nat.{ℕ, zero, suc, ◌≤◌}
use mathlib.Core.Path.{◌≡◌, sym, ◌∙◌}
use mathlib.Core.List.{List, map}
use lib.Dec.{eqb}
use Rattle.laws.specs.Lists.{count, sum, at}
use Rattle.laws.proofs.Each.{at-replicate}
use Rattle.laws.proofs.Sums.{sum-map-zero, sum-map-add, count_members}
use Rattle.rules.specs.Tables.{Table, size}
use Rattle.rules.specs.States.{fresh}
use Rattle.rules.specs.Slots.{given}
use Rattle.rules.specs.Runs.{after}
use Rattle.rules.specs.Counts.{sum_before, cores_in, work_of, work_of_all}
use Rattle.rules.specs.Verdicts.{order}
use Rattle.rules.specs.Obeys.{after_with}
use Rattle.slot_laws.proofs.Given.{state_with, next-done_with, own_run}

-- the units done of a task are the cores over the slots that held it: in a run with any order and placings, and in a
-- table's own
pub done-counted_with : (tbl : Table) (ranks : List ℕ) (run : ℕ → List ℕ) (i : ℕ) → 1 ≤ i → i ≤ size tbl → (b : ℕ)
    → at (state_with tbl ranks run b).done i ≡ work_of run i b
unfolding after_with work_of sum_before given
done-counted_with tbl ranks run i low high zero = at-replicate (size tbl) 0 i low high
done-counted_with tbl ranks run i low high (suc b) = next-done_with tbl ranks run b i low high ∙ rw (done-counted_with tbl ranks run i low high b)

pub done-counted : (tbl : Table) (i : ℕ) → 1 ≤ i → i ≤ size tbl → (b : ℕ) → at (after b (fresh tbl)).done i ≡ work_of (cores_in tbl) i b
done-counted tbl i low high b = rw (own_run tbl b) (done-counted_with tbl (order tbl) (cores_in tbl) i low high b)

-- the work of several tasks is the sum of each one's
pub work_of_all_lem : (run : ℕ → List ℕ) (is : List ℕ) → ((i : ℕ) → count (eqb i) is ≤ 1)
    → (b : ℕ) → work_of_all run is b ≡ sum (map (λ i. work_of run i b) is)
unfolding work_of work_of_all sum_before
work_of_all_lem run is once zero = sym (sum-map-zero is)
work_of_all_lem run is once (suc b) =
    rw (work_of_all_lem run is once b, count_members is once (run b), sum-map-add (λ i. work_of run i b) (λ i. count (eqb i) (run b)) is)
