-- Placings and orders of other products that are not what demand 3 asks for, one for each way to break a definition. Of each
-- the definition says something false of small numbers. One that lets it pass says something else of them, and is refused
-- with both.
use Prim.Native.Nat.{ℕ, ◌≤◌}
use mathlib.Core.Path.{◌≡◌, refl}
use mathlib.Core.Bool.{true, false}
use mathlib.Core.List.{List, [], ◌∷◌}
use native.Mathlib.Omega.{arith}
use Rattle.laws.proofs.Tests.{never}
use Rattle.rules.specs.Rows.{releases, demand}
use Rattle.rules.specs.Tables.{Table}
use Rattle.rules.specs.Verdicts.{fraction, heavy_at, heavy}
use Rattle.rules.specs.Slots.{release, choose}
use Rattle.rules.specs.Obeys.{after_with, Priority, Rightly}

-- two cores, and tasks 1 and 2 in that order
abbrev two : ℕ → ℕ → ℕ → ℕ → Table
two c t c' t' = record { m = 2; rows = record { c = c; t = t } ∷ record { c = c'; t = t' } ∷ [] }

abbrev in_turn : List ℕ
in_turn = 1 ∷ 2 ∷ []

-- two counts are the same
abbrev Same : ℕ → ℕ → Type 0
Same a b = a ≡ b

-- ---- placings of slot 0

-- task 1 on both cores
pub on_two_cores : Rightly (two 1 2 1 2) in_turn (λ s. 1 ∷ 1 ∷ []) 0 → ⊥
unfolding after_with release releases demand choose
on_two_cores right = let of-task-1 : Same 2 1 = right 1 (omega arith) in omega arith

-- task 2 on no core, though one is idle
pub left_out : Rightly (two 1 2 1 2) in_turn (λ s. 1 ∷ 0 ∷ []) 0 → ⊥
unfolding after_with release releases demand choose
left_out right = let of-task-2 : Same 0 1 = right 2 (omega arith) in omega arith

-- ---- orders

-- a light task before one with a smaller period
pub period_falls : Priority (two 1 3 1 2) in_turn → ⊥
unfolding heavy heavy_at fraction
period_falls r = let periods : 3 ≤ 2 = r.rising 1 2 (omega arith) (omega arith) (omega arith) refl refl in omega arith

-- a light task before a heavy one
pub heavy-last : Priority (two 1 5 3 5) in_turn → ⊥
unfolding heavy heavy_at fraction
heavy-last r = let task-1-heavy : false ≡ true = r.heavy_first 1 2 (omega arith) (omega arith) (omega arith) refl in never cc

-- task 1 twice, and task 2 not at all
pub named_twice : Priority (two 1 2 1 2) (1 ∷ 1 ∷ []) → ⊥
named_twice r = let of-task-1 : Same 2 1 = r.permutes 1 in omega arith
