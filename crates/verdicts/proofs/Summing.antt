-- The shares of rows in their bounds, and their sum.
use Prim.Native.Nat.{ℕ, ◌*◌, ◌/◌, ◌≤◌, ◌<◌, zero-le}
use mathlib.Core.Path.{◌≡◌, refl}
use mathlib.Core.List.{List, [], ◌∷◌, map}
use native.Mathlib.Nat.{le_trans, mul-le-mul, mul-le-mul_right, mul-div-le}
use native.Mathlib.Omega.{arith}
use lib.ListN.{length, get_or, length-map, get_or-map}
use Rattle.laws.specs.Lists.{sum}
use Rattle.rules.specs.Limits.{tasks_max, repeat_max}
use Rattle.rules.specs.Rows as Rules
use Rattle.rules.specs.Verdicts.{share}
use Rattle.reading_laws.specs.Bounds.{RowInBounds, Every}
use Rattle.reading_laws.proofs.Tests.{every_get_or}
use Rattle.std.specs.List.{sum_by}
use Rattle.std.proofs.lemmas.List.Recursion.{is_sum_by}
use Rattle.tables.specs.Views.{view_row}
use Rattle.tables.specs.declared.table.Row.{Row}
use Rattle.verdicts.specs.Rows.{Sharing}

-- the sum of the shares of these rows
abbrev pub shares : ℕ → List Row → ℕ
shares h rows = sum (map (share h) (map view_row rows))

-- as an iterator sums them
pub shares_by : (h : ℕ) (rows : List Row) → shares h rows ≡ sum_by (λ r. share h (view_row r)) rows
shares_by h = is_sum_by (shares h) (λ r. share h (view_row r)) refl (λ _ _. refl)

-- a share of h slots is at most h
share-le : (h : ℕ) (r : Rules.Row) → RowInBounds r → share h r ≤ h
unfolding share
share-le h r b = le_trans (mul-le-mul_right (h / r.t) b.fits) (mul-div-le h r.t)

shares_le : (h : ℕ) (rows : List Row) → Every RowInBounds (map view_row rows) → shares h rows ≤ length rows * h
shares_le h [] b = zero-le
shares_le h (r ∷ rows) b = omega (arith, share-le h (view_row r) b.0, shares_le h rows b.1)

-- the whole sum is small
pub few : (h : ℕ) (rows : List Row) → Sharing h rows → shares h rows ≤ tasks_max * repeat_max
few h rows sharing = omega (arith, shares_le h rows sharing.fine, mul-le-mul sharing.few sharing.bounded)

-- no period is 0
pub positive : (h : ℕ) (rows : List Row) → Sharing h rows → (i : ℕ) (d : Row) → i < length rows → 1 ≤ (get_or rows i d).t
positive h rows sharing i d more =
    let here : RowInBounds (view_row (get_or rows i d)) = rw (get_or-map view_row rows i d) at (every_get_or RowInBounds (map view_row rows) (view_row d) i sharing.fine (omega (arith, length-map rows view_row))) in
    le_trans here.works here.fits
