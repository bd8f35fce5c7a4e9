-- Demand 3: what the verdict "admitted" promises of a table's own run. All is said in the rules' definitions, of the slots
-- that the machine runs from the fresh state. `proofs/Demand3.antt` proves it.
use Rattle.std.specs.Prelude.{ℕ, ◌*◌, ◌≤◌, ◌<◌, ◌≡◌, T, take, replicate}
use Rattle.rules.specs.Tables.{Table, size, accepts}
use Rattle.rules.specs.Repeat.{repeat_length}
use Rattle.rules.specs.Verdicts.{lights, admitted, shares_of}
use Rattle.rules.specs.States.{fresh}
use Rattle.rules.specs.Slots.{slot}
use Rattle.rules.specs.Runs.{after}
use Rattle.rules.specs.Counts.{cores_in, work_of_all}

-- at boundary b of the run of a table
pub record Demand3 (tbl : Table) (b : ℕ) : Type 0 where
  -- no deadline was missed, and no unit of any task dropped
  pub no_miss : (after b (fresh tbl)).misses ≡ 0
  pub no_drop : (after b (fresh tbl)).dropped ≡ replicate (size tbl) 0
  -- no slot before b shows a miss
  pub none_shown : (s : ℕ) → s < b → (slot (after s (fresh tbl))).shown.misses ≡ 0
  -- the first k light tasks in priority order, for every k, were given at least their shares of b slots: the work is
  -- counted from the cores that held them in the slots run, and both sides are scaled by H
  pub lights_ahead : (k : ℕ)
      → b * shares_of tbl (take k (lights tbl))
      ≤ repeat_length tbl.rows * work_of_all (cores_in tbl) (take k (lights tbl)) b

-- the theorem: it holds of every accepted and admitted table, at every boundary
abbrev pub Demand3Always : Type 0
Demand3Always = (tbl : Table) → T (accepts tbl) → T (admitted tbl) → (b : ℕ) → Demand3 tbl b
