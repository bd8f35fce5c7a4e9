-- The form of a task, by what stands at its place of the arrays.
use Prim.Native.Nat.{ℕ, ◌+◌, ◌≤◌, ◌<◌}
use mathlib.Core.Path.{◌≡◌, refl}
use mathlib.Core.Bool.{Bool, not, ◌&&◌, ◌||◌}
use native.Mathlib.Omega.{arith}
use lib.Dec.{eqb, leb}
use lib.ListN.{get_or}
use Rattle.rules.specs.Limits.{tasks_max}
use Rattle.rules.specs.Rows.{Row, releases, released}
use Rattle.rules.specs.Forms.{task_formed}
use Rattle.tables.specs.Views as Tables
use Rattle.machine.specs.declared.state.State.{State}
use Rattle.machine.specs.Full.{Full}
use Rattle.machine.specs.Views.{tasks, view, units, core_number}
use Rattle.machine.proofs.Viewing.{at-viewed, row_of-view}

-- the form of the task at place i, counted from 0
abbrev pub fits_at : State → ℕ → Bool
fits_at s i =
    let r : Row = Tables.view_row (get_or s.table.rows i Tables.zero_row) in
    let left : ℕ = (get_or s.left i (units 0)).0 in
    leb left r.c
    && (not (releases r s.clock.0) || eqb left 0)
    && leb (get_or s.last i (core_number 0)).0 s.table.m.0
    && eqb ((get_or s.done i (units 0)).0 + left + (get_or s.dropped i (units 0)).0) (released r s.clock.0)

pub task-at : (s : State) → Full s → tasks s ≤ tasks_max → (i : ℕ) → i < tasks s → task_formed (view s) (i + 1) ≡ fits_at s i
unfolding view Tables.view task_formed
task-at s full few i more =
    rw (
      row_of-view s.table full.rows few i more,
      at-viewed (λ x. x.0) (tasks s) s.left (omega arith) (units 0) i refl more,
      at-viewed (λ x. x.0) (tasks s) s.last (omega arith) (core_number 0) i refl more,
      at-viewed (λ x. x.0) (tasks s) s.done (omega arith) (units 0) i refl more,
      at-viewed (λ x. x.0) (tasks s) s.dropped (omega arith) (units 0) i refl more,
    )
