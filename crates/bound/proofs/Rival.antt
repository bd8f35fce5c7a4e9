-- A run that is not the table's own and is on time: what the theorem asks of a run is met by others too. It is case B with its
-- tie broken the other way and its cores swapped, order 2 1 and placing 2 1 where the table's own run has 1 2 and 1 2.
use Prim.Native.Nat.{ℕ, zero, suc, ◌≤◌, ◌<◌}
use mathlib.Core.Path.{◌≡◌, ap}
use mathlib.Core.List.{List, [], ◌∷◌}
use native.Mathlib.Omega.{arith}
use borrow.Author.Tests.{ne_eqb}
use Rattle.laws.specs.Lists.{at}
use Rattle.rules.specs.Rows.{releases, due, demand}
use Rattle.rules.specs.Tables.{Table, accepts, list_tests, header_tests, row_tests, whole_tests}
use Rattle.rules.specs.Repeat.{lcm, repeat_length}
use Rattle.rules.specs.Verdicts.{admitted, fraction, heavy_at, heavy, light, share, scaled_sum, insert, by_period, order}
use Rattle.rules.specs.Slots.{release, choose, effect, given}
use Rattle.rules.specs.Obeys.{slot_with, after_with, Priority, Rightly}
use Rattle.priority_laws.proofs.Priority.{by_key}
use Rattle.bound.specs.OnTime.{OnTime}
use Rattle.bound.proofs.OnTime.{on_time}

abbrev tbl : Table
tbl = record { m = 2; rows = record { c = 1; t = 2 } ∷ record { c = 1; t = 2 } ∷ [] }

abbrev ranks : List ℕ
ranks = 2 ∷ 1 ∷ []

abbrev run : ℕ → List ℕ
run zero = 2 ∷ 1 ∷ []
run (suc s) = 0 ∷ 0 ∷ []

-- the table's own order is another
pub rival_differs : order tbl ≡ ranks → ⊥
unfolding heavy heavy_at fraction light insert by_period order
rival_differs e = let first : ◌≡◌ {A = ℕ} 1 2 = ap (λ (l : List ℕ). at l 1) e in omega arith

by_priority : Priority tbl ranks
unfolding heavy heavy_at fraction
by_priority =
    by_key (λ i. omega arith) (λ a b low less high.
    let first : a ≡ 1 = omega arith in
    let second : b ≡ 2 = omega arith in
    rw (first, second) (omega arith))

right : (s : ℕ) → s < 2 → Rightly tbl ranks run s
unfolding after_with slot_with effect release releases due demand choose given
right zero h i low = omega arith
right (suc zero) h i low = rw (ne_eqb i 0 (λ e. omega arith))
right (suc (suc s)) h i low = absurd (omega arith)

pub rival_on_time : (u : ℕ) → u ≤ 2 → OnTime tbl ranks run u
unfolding accepts list_tests header_tests row_tests whole_tests repeat_length lcm admitted scaled_sum share fraction
rival_on_time = on_time tbl tt tt ranks run 2 (record { priority = by_priority; rightly = right })
