-- The run of an accepted table, admitted or not, repeats: in slot s + H the same tasks run as in slot s (000, footnote 3).
-- So a table that misses no deadline in its first H slots never misses one. All is said in the rules' definitions.
use Prim.Native.Nat.{ℕ, ◌+◌, ◌≤◌}
use mathlib.Core.Path.{◌≡◌}
use mathlib.Core.List.{List}
use lib.Dec.{T, eqb}
use Rattle.laws.specs.Lists.{count}
use Rattle.rules.specs.Tables.{Table, accepts}
use Rattle.rules.specs.Repeat.{repeat_length}
use Rattle.rules.specs.Verdicts.{order}
use Rattle.rules.specs.States.{fresh}
use Rattle.rules.specs.Slots.{release, choose, slot}
use Rattle.rules.specs.Runs.{after}
use Rattle.rules.specs.Counts.{cores_in}
use Rattle.bound.proofs.Rounds.{same_left, same_choice, same-tasks, same-misses, round_tells}

-- the tasks chosen in slot s
abbrev pub chosen_in : Table → ℕ → List ℕ
chosen_in tbl s = choose tbl.m (order tbl) (release tbl s (after s (fresh tbl)).left)

-- slot s' has the left work of slot s at its start, the same tasks are chosen and stand on the cores (maybe on others), and
-- as many deadlines are missed at its end
pub record Again (tbl : Table) (s s' : ℕ) : Type 0 where
  pub left : (after s' (fresh tbl)).left ≡ (after s (fresh tbl)).left
  pub chosen : chosen_in tbl s' ≡ chosen_in tbl s
  pub tasks : (i : ℕ) → 1 ≤ i → count (eqb i) (cores_in tbl s') ≡ count (eqb i) (cores_in tbl s)
  pub misses : (slot (after s' (fresh tbl))).shown.misses ≡ (slot (after s (fresh tbl))).shown.misses

module _ (tbl : Table) (t : T (accepts tbl)) where
  -- the run repeats after H slots
  pub run_repeats : (s : ℕ) → Again tbl s (s + repeat_length tbl.rows)
  run_repeats s = record { left = same_left tbl t s; chosen = same_choice tbl t s; tasks = same-tasks tbl t s; misses = same-misses tbl t s }

  -- a table that misses no deadline in its first H slots never misses one
  pub one_round_tells : (after (repeat_length tbl.rows) (fresh tbl)).misses ≡ 0 → (b : ℕ) → (after b (fresh tbl)).misses ≡ 0
  one_round_tells = round_tells tbl t
