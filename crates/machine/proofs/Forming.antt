-- The form of a struct, conjunct by conjunct.
use Prim.Native.Nat.{◌+◌, ◌*◌, ◌≤◌}
use mathlib.Core.Path.{◌≡◌, refl, subst, ◌∙◌}
use mathlib.Core.Bool.{Bool, true, false, ◌&&◌}
use native.Mathlib.Omega.{arith}
use lib.Dec.{T, leb}
use lib.ListN.{get_or}
use borrow.Author.Tests.{eq-eqb}
use Rattle.laws.specs.Lists.{all, numbers, same}
use Rattle.laws.proofs.Tests.{to_T, and_left, and_right}
use Rattle.rules.specs.Limits.{tasks_max, clock_max}
use Rattle.rules.specs.Tables.{size, row_of, accepts}
use Rattle.rules.specs.Verdicts.{order}
use Rattle.rules.specs.Forms.{sized, task_formed, well_formed}
use Rattle.priority_laws.proofs.Priority.{order-length}
use Rattle.reading_laws.specs.Bounds.{RowInBounds}
use Rattle.slot_laws.proofs.Forms.{accepted}
use Rattle.tables.specs.Views as Tables
use Rattle.machine.specs.declared.state.State.{State}
use Rattle.machine.specs.Full.{Full}
use Rattle.machine.specs.Forms.{Ready}
use Rattle.machine.specs.Views.{tasks, task_number, viewed, packed, view, padded, formed}
use Rattle.machine.proofs.Viewing.{length-viewed, size-view, row_of-view}
use Rattle.machine.proofs.Packing.{viewed-packed}

-- what leads to nothing is false
never : (b : Bool) → (T b → ⊥) → false ≡ b
never true h = absurd (h tt)
never false h = refl

-- the order that the struct holds is the table's
abbrev pub held : State → Bool
held s = same (viewed (λ x. x.0) (tasks s) s.ranks) (viewed (λ x. x.0) (tasks s) (packed task_number (order (Tables.view s.table))))

-- every task is well formed
abbrev pub fit : State → Bool
fit s = all (task_formed (view s)) (numbers (tasks s))

module _ (s : State) (full : Full s) where
  pub not_padded : padded s ≡ false → false ≡ formed s
  unfolding formed
  not_padded e = rw e

  pub not_accepted : accepts (Tables.view s.table) ≡ false → false ≡ formed s
  unfolding formed well_formed view
  not_accepted e = never (formed s) (λ t. subst T e (search (and_left, and_right) depth 9))

  module _ (few : tasks s ≤ tasks_max) where
    -- the table's order, as an array, says the order
    order_there : viewed (λ x. x.0) (tasks s) (packed task_number (order (Tables.view s.table))) ≡ order (Tables.view s.table)
    order_there =
        viewed-packed task_number (λ x. x.0) (λ v. refl) (order (Tables.view s.table)) (tasks s)
        (order-length (Tables.view s.table) ∙ size-view s.table full.rows few)

    all-tasks : all (task_formed (view s)) (numbers (size (view s).table)) ≡ fit s
    unfolding view
    all-tasks = rw (size-view s.table full.rows few)

    one_each : sized (view s) ≡ true
    unfolding sized view
    one_each =
        rw (
          size-view s.table full.rows few,
          length-viewed (λ x. x.0) (tasks s) s.left (omega arith),
          length-viewed (λ x. x.0) (tasks s) s.last (omega arith),
          length-viewed (λ x. x.0) (tasks s) s.done (omega arith),
          length-viewed (λ x. x.0) (tasks s) s.dropped (omega arith),
          eq-eqb (tasks s) (tasks s) refl,
        )

    -- where the struct is padded and its table accepted, these four are left
    pub form_left : padded s ≡ true → accepts (Tables.view s.table) ≡ true
        → formed s ≡ (held s && leb s.clock.0 clock_max && fit s && leb s.moves (s.table.m.0 * s.clock.0) && leb s.misses (tasks_max * s.clock.0))
    unfolding formed well_formed view Tables.view
    form_left p a = rw (p, a, one_each, order_there, all-tasks)

  -- what the tests of the tasks ask
  pub ready : tasks s ≤ tasks_max → accepts (Tables.view s.table) ≡ true → s.clock.0 ≤ clock_max → Ready s
  ready few a c =
      record {
        few = few;
        timed = λ i more.
            let fits : RowInBounds (row_of (Tables.view s.table) (i + 1)) = (accepted (Tables.view s.table) (to_T a)).row (i + 1) (omega arith) (omega (arith, size-view s.table full.rows few)) in
            let here : RowInBounds (Tables.view_row (get_or s.table.rows i Tables.zero_row)) = rw (row_of-view s.table full.rows few i more) at fits in
            record { low = omega (arith, here.works, here.fits); fits = here.fits; high = here.period; soon = c };
      }
