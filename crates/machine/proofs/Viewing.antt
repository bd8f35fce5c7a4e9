-- What arrays and structs say, entry by entry.
use Prim.Native.Nat.{ℕ, ◌+◌, ◌≤◌, ◌<◌}
use mathlib.Core.Path.{◌≡◌, sym, ap, ◌∙◌}
use mathlib.Core.List.{List, map}
use native.Mathlib.Numerals.{add-one}
use native.Mathlib.Omega.{arith}
use lib.ListN.{length, get_or, take, length-map, get_or-map}
use lib.Seq.{length-take-le, get_or-take}
use Rattle.laws.specs.Lists.{at}
use Rattle.rules.specs.Limits.{tasks_max}
use Rattle.rules.specs.Tables.{size, row_of}
use Rattle.tables.specs.Views as Tables
use Rattle.tables.specs.declared.table.Table.{Table}
use Rattle.tables.proofs.Views.{length-view, row-view}
use Rattle.machine.specs.Views.{viewed}

module _ {A : Type 0} (number : A → ℕ) (n : ℕ) (a : List A) (fits : n ≤ length a) where
  -- an array says as many numbers as there are tasks
  pub length-viewed : length (viewed number n a) ≡ n
  unfolding viewed
  length-viewed = length-map (take n a) number ∙ length-take-le n a fits

  -- and each of them is its entry's
  pub get_or-viewed : (d : A) (i : ℕ) → number d ≡ 0 → i < n → get_or (viewed number n a) i 0 ≡ number (get_or a i d)
  unfolding viewed
  get_or-viewed d i e h =
      ap (λ (z : ℕ). get_or (map number (take n a)) i z) (sym e) ∙ get_or-map number (take n a) i d ∙ ap number (get_or-take n a i d h)

  -- counted from 1
  pub at-viewed : (d : A) (i : ℕ) → number d ≡ 0 → i < n → at (viewed number n a) (i + 1) ≡ number (get_or a i d)
  at-viewed d i e h = rw (add-one i) (get_or-viewed d i e h)

-- the rows of a table
module _ (t : Table) (full : length t.rows ≡ tasks_max) (few : t.n.0 ≤ tasks_max) where
  pub size-view : size (Tables.view t) ≡ t.n.0
  size-view = length-view t full ∙ omega arith

  pub row_of-view : (i : ℕ) → i < t.n.0 → row_of (Tables.view t) (i + 1) ≡ Tables.view_row (get_or t.rows i Tables.zero_row)
  row_of-view i h = rw (add-one i) (row-view t i (omega (arith, size-view)))
