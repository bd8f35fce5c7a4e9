-- The kinds of number: each is made only from a number within its bounds.
use Rattle.std.specs.Prelude.{ℕ, cond, Option, Some, None}
use Rattle.rules.specs.Limits.{cores_min, cores_max, tasks_min, tasks_max, period_max, repeat_max, clock_max}
use Rattle.rules.specs.Tables.{outside}
use Rattle.rules.specs.declared.kinds.Cores.{Cores}
use Rattle.rules.specs.declared.kinds.Tasks.{Tasks}
use Rattle.rules.specs.declared.kinds.Period.{Period}
use Rattle.rules.specs.declared.kinds.Repeat.{Repeat}
use Rattle.rules.specs.declared.kinds.Slot.{Slot}

-- a number within bounds as one of a kind, or none
abbrev pub within : {K : Type 0} → ℕ → ℕ → (ℕ → K) → ℕ → Option K
within low high of x = cond (outside x low high) None (Some (of x))

abbrev pub cores_of : ℕ → Option Cores
cores_of m = within cores_min cores_max (λ m. record { 0 = m }) m

abbrev pub tasks_of : ℕ → Option Tasks
tasks_of n = within tasks_min tasks_max (λ n. record { 0 = n }) n

abbrev pub period_of : ℕ → Option Period
period_of t = within 1 period_max (λ t. record { 0 = t }) t

abbrev pub repeat_of : ℕ → Option Repeat
repeat_of h = within 1 repeat_max (λ h. record { 0 = h }) h

abbrev pub slot_of : ℕ → Option Slot
slot_of s = within 0 clock_max (λ s. record { 0 = s }) s
