-- With m²/(3m-3) for the limit demand 3 is false. On two cores two heavy tasks of share 4/7 and a light one of 1/7 sum to 9/7,
-- above the limit 1 and below 4/3: the heavy tasks hold both cores in slot 0, and the light one is behind its share.
use Prim.Native.Nat.{ℕ, ◌-◌, ◌*◌, ◌≤◌}
use mathlib.Core.List.{[], ◌∷◌}
use native.Mathlib.Omega.{arith}
use lib.Dec.{T, leb}
use Rattle.rules.specs.Rows.{releases, demand}
use Rattle.rules.specs.Tables.{Table, accepts, list_tests, header_tests, row_tests, whole_tests}
use Rattle.rules.specs.Repeat.{lcm, repeat_length}
use Rattle.rules.specs.Verdicts.{fraction, heavy_at, heavy, light, share, scaled_sum, insert, by_period, order, lights}
use Rattle.rules.specs.States.{fresh}
use Rattle.rules.specs.Slots.{release, choose, free, seat, keep_cores, fill_cores, placed, place, effect, slot}
use Rattle.rules.specs.Runs.{after}
use Rattle.rules.specs.Counts.{sum_before, cores_in, work_of_all}
use Rattle.bound.specs.Demand3.{Demand3}

abbrev crowded : Table
crowded = record { m = 2; rows = record { c = 1; t = 7 } ∷ record { c = 4; t = 7 } ∷ record { c = 4; t = 7 } ∷ [] }

abbrev HigherLimit : Type 0
HigherLimit =
    (tbl : Table) → T (accepts tbl) → T (leb ((3 * tbl.m - 3) * scaled_sum tbl) (tbl.m * tbl.m * repeat_length tbl.rows))
    → (b : ℕ) → Demand3 tbl b

pub higher_limit_fails : HigherLimit → ⊥
unfolding accepts list_tests header_tests row_tests whole_tests lcm repeat_length fraction heavy_at heavy light share scaled_sum insert by_period order lights fresh release releases demand choose free seat keep_cores fill_cores placed place effect slot after sum_before cores_in work_of_all
higher_limit_fails claim = let light-ahead : 1 ≤ 0 = (claim crowded tt tt 1).lights_ahead 1 in omega arith
