-- When a state is well formed.
use Rattle.std.specs.Prelude.{ℕ, ◌+◌, ◌*◌, Bool, not, ◌&&◌, ◌||◌, eqb, leb, length}
use Rattle.laws.specs.Lists.{all, numbers, at, same}
use Rattle.rules.specs.Limits.{clock_max, tasks_max}
use Rattle.rules.specs.Rows.{Row, releases, released}
use Rattle.rules.specs.Tables.{size, row_of, accepts}
use Rattle.rules.specs.Verdicts.{order}
use Rattle.rules.specs.States.{State}

-- one entry for each task
unfoldable pub sized : State → Bool
sized st =
    let n : ℕ = size st.table in
    eqb (length st.left) n && eqb (length st.last) n && eqb (length st.done) n && eqb (length st.dropped) n

-- task i: left work at most C, and 0 where T divides the clock; a last core of 0 to m; done + left + dropped is what was released
unfoldable pub task_formed : State → ℕ → Bool
task_formed st i =
    let r : Row = row_of st.table i in
    leb (at st.left i) r.c
    && (not (releases r st.clock) || eqb (at st.left i) 0)
    && leb (at st.last i) st.table.m
    && eqb (at st.done i + at st.left i + at st.dropped i) (released r st.clock)

unfoldable pub well_formed : State → Bool
well_formed st =
    accepts st.table
    && sized st
    && same st.ranks (order st.table)
    && leb st.clock clock_max
    && all (task_formed st) (numbers (size st.table))
    && leb st.moves (st.table.m * st.clock)
    && leb st.misses (tasks_max * st.clock)
