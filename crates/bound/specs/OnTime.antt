-- What the verdict "admitted" promises of a run of a table with any order and placings that obey, whoever made it. All is said in
-- the rules' definitions. `proofs/OnTime.antt` proves it.
use Rattle.std.specs.Prelude.{ℕ, ◌*◌, ◌≤◌, ◌<◌, ◌≡◌, List, T, take, replicate}
use Rattle.rules.specs.Tables.{Table, size, accepts}
use Rattle.rules.specs.Repeat.{repeat_length}
use Rattle.rules.specs.Verdicts.{admitted, shares_of}
use Rattle.rules.specs.States.{fresh_with}
use Rattle.rules.specs.Counts.{work_of_all}
use Rattle.rules.specs.Obeys.{slot_with, after_with, lights_of, Obeys}

-- at boundary b of a run
pub record OnTime (tbl : Table) (ranks : List ℕ) (run : ℕ → List ℕ) (b : ℕ) : Type 0 where
  -- no deadline was missed, and no unit of any task dropped
  pub no_miss : (after_with run b (fresh_with tbl ranks)).misses ≡ 0
  pub no_drop : (after_with run b (fresh_with tbl ranks)).dropped ≡ replicate (size tbl) 0
  -- no slot before b shows a miss
  pub none_shown : (s : ℕ) → s < b → (slot_with (after_with run s (fresh_with tbl ranks)) (run s)).shown.misses ≡ 0
  -- the first k light tasks of the run's own order, for every k, were given at least their shares of b slots: the work is
  -- counted from the cores that held them in the slots run, and both sides are scaled by H
  pub lights_ahead : (k : ℕ)
      → b * shares_of tbl (take k (lights_of tbl ranks))
      ≤ repeat_length tbl.rows * work_of_all run (take k (lights_of tbl ranks)) b

-- the theorem: where the first b slots of a run of an accepted and admitted table obey, it is on time at every boundary up to b
abbrev pub OnTimeAlways : Type 0
OnTimeAlways =
    (tbl : Table) → T (accepts tbl) → T (admitted tbl)
    → (ranks : List ℕ) (run : ℕ → List ℕ) (b : ℕ) → Obeys tbl ranks run b
    → (u : ℕ) → u ≤ b → OnTime tbl ranks run u
