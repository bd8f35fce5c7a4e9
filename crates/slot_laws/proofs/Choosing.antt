-- Choosing: the chosen tasks are few, each once, and have left work; and how the choice goes by prefixes of the order.
use Prim.Native.Nat.{ℕ, ◌-◌, ◌≤◌, min}
use mathlib.Core.Path.{◌≡◌}
use mathlib.Core.Bool.{Bool, true, false}
use mathlib.Core.Logic.{⊎_elim}
use mathlib.Core.List.{List, ◌++◌}
use native.Mathlib.Omega.{arith}
use borrow.Author.Tests.{ltb-true}
use lib.Dec.{eqb, ltb}
use lib.ListN.{length}
use Rattle.laws.specs.Lists.{filter, count, at}
use Rattle.laws.proofs.Tests.{decide}
use Rattle.laws.proofs.Positions.{count-take, count-filter, count-filter-le, length-take-filter, take-filter-append}
use Rattle.rules.specs.Slots.{choose}

-- a choice that can be placed: at most m tasks, none twice, none numbered 0
pub record Choice (m : ℕ) (chosen : List ℕ) : Type 0 where
  pub few : length chosen ≤ m
  pub once : (i : ℕ) → count (eqb i) chosen ≤ 1
  pub real : count (eqb 0) chosen ≡ 0

-- the ranks hold no task twice and none numbered 0
pub record Ranking (ranks : List ℕ) : Type 0 where
  pub once : (i : ℕ) → count (eqb i) ranks ≤ 1
  pub real : count (eqb 0) ranks ≡ 0

-- the task has left work
abbrev pub pending : List ℕ → ℕ → Bool
pending left i = ltb 0 (at left i)

-- ---- by prefixes of the order

-- as many are chosen as have left work, and at most m
pub choose-length : (m : ℕ) (ranks left : List ℕ) → length (choose m ranks left) ≡ min m (count (pending left) ranks)
unfolding choose
choose-length m ranks left = length-take-filter (pending left) m ranks

-- those of the first ranks are chosen first, and the others from what they leave
pub choose-append : (m : ℕ) (xs ys left : List ℕ)
    → choose m (xs ++ ys) left ≡ choose m xs left ++ choose (m - count (pending left) xs) ys left
unfolding choose
choose-append m xs ys left = take-filter-append (pending left) m xs ys

-- ---- the chosen tasks

module _ (m : ℕ) (ranks left : List ℕ) where
  -- a task is chosen no more often than it is ranked
  pub choose-le : (i : ℕ) → count (eqb i) (choose m ranks left) ≤ count (eqb i) ranks
  unfolding choose
  choose-le i = omega (arith, count-take (eqb i) m (filter (pending left) ranks), count-filter-le (pending left) (eqb i) ranks)

  -- a task with no left work is not chosen
  choose-none : (i : ℕ) → pending left i ≡ false → count (eqb i) (choose m ranks left) ≡ 0
  unfolding choose
  choose-none i e = omega (arith, count-take (eqb i) m (filter (pending left) ranks), rw e at (count-filter (pending left) i ranks))

-- what is chosen can be placed
pub choose_choice : (m : ℕ) {ranks : List ℕ} (left : List ℕ) → Ranking ranks → Choice m (choose m ranks left)
choose_choice m {ranks} left r =
    record {
      few = omega (arith, choose-length m ranks left);
      once = λ i. omega (arith, choose-le m ranks left i, r.once i);
      real = omega (arith, choose-le m ranks left 0);
    }

-- a chosen task has left work
pub choose-pending : (m : ℕ) {ranks : List ℕ} (left : List ℕ) → Ranking ranks → (i : ℕ)
    → count (eqb i) (choose m ranks left) ≤ at left i
choose-pending m {ranks} left r i =
    ⊎_elim (λ (e : pending left i ≡ true). omega (arith, ltb-true 0 (at left i) e, choose-le m ranks left i, r.once i))
    (λ (e : pending left i ≡ false). omega (arith, choose-none m ranks left i e))
    (decide (pending left i))
