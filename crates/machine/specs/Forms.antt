-- What the test of a task asks.
use Rattle.std.specs.Prelude.{ℕ, ◌≤◌, ◌<◌, get_or}
use Rattle.rules.specs.Limits.{tasks_max, period_max, clock_max}
use Rattle.tables.specs.Views.{zero_row}
use Rattle.machine.specs.declared.state.State.{State}
use Rattle.machine.specs.Views.{tasks}

-- a row that passed its tests, at a clock in bounds
pub record Timed (c t clock : ℕ) : Type 0 where
  pub low : 1 ≤ t
  pub fits : c ≤ t
  pub high : t ≤ period_max
  pub soon : clock ≤ clock_max

-- a state whose table passed its tests and whose clock is in bounds
pub record Ready (s : State) : Type 0 where
  pub few : tasks s ≤ tasks_max
  pub timed : (i : ℕ) → i < tasks s → Timed (get_or s.table.rows i zero_row).c (get_or s.table.rows i zero_row).t s.clock.0
