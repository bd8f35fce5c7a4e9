-- The repeat length on the way: Euclid's greatest common divisor, and one more period.
use Rattle.std.proofs.Common.{Some, None, Ok, Err}
use Prim.Native.Nat.{ℕ, ◌+◌, ◌*◌, ◌/◌, ◌%◌, ◌≤◌, ◌<◌}
use mathlib.Core.Path.{◌≡◌, refl, sym, ap, ◌∙◌}
use mathlib.Core.List.{List, map}
use native.Mathlib.Nat.{mul-one, dvd_refl, dvd-zero, dvd-mod_iff, pos_of_dvd_of_pos}
use native.Mathlib.Numerals.{add-one}
use native.Mathlib.Omega.{arith}
use lib.Dec.{lit<, lit≤}
use lib.ListN.{length, get_or, drop, drop_of_length-le, length-map, get_or-map}
use lib.Seq.{drop-cons}
use Rattle.laws.specs.Lists.{foldl}
use Rattle.rules.specs.Limits.{repeat_max}
use borrow.Author.Tests.{lt-ltb, le-ltb}
use Rattle.rules.specs.Refusals.{settle}
use Rattle.rules.specs.Kinds.{repeat_of}
use Rattle.rules.specs.Rows.{Row}
use Rattle.rules.specs.Tables.{no_row, whole_tests}
use Rattle.rules.specs.Repeat.{lcm, repeat_length}
use Rattle.rules.specs.declared.kinds.Repeat.{Repeat}
use Rattle.rules.specs.declared.refusal.Refusal.TheVariants.{BadRepeat}
use Rattle.priority_laws.proofs.Repeat.{lcm_by_gcd, lcm_pos, repeat_pos, repeat-reached-le}
use Rattle.tables.specs.Views.{zero_row, view_row, view, Formed, table_answer}
use Rattle.tables.specs.Repeats.{Gcd, Reached}
use Rattle.tables.specs.declared.table.Row as Code
use Rattle.tables.specs.declared.table.Table.{Table}
use Rattle.tables.proofs.Bounds.{repeat_within, repeat_above, repeat-taken, repeat-refused}

-- a turn keeps the greatest common divisor
pub gcd_turn : (x y g : ℕ) → Gcd y (x % y) g → Gcd x y g
gcd_turn x y g h =
    record {
      left = (dvd-mod_iff g h.left).0 h.right;
      right = h.left;
      greatest = λ d dx dy. h.greatest d dy ((dvd-mod_iff d dy).1 dx);
    }

-- with 0 it is the other number
pub gcd_zero : (x : ℕ) → Gcd x 0 x
gcd_zero x = record { left = dvd_refl x; right = dvd-zero x; greatest = λ d dx dy. dx }

-- ---- one more period

-- a period of 0 leaves h as it is
pub lcm-zero : (h : ℕ) → lcm h 0 ≡ h
unfolding lcm
lcm-zero h = mul-one h

module _ (h t g : ℕ) (low : 0 < h) (gcd : Gcd h t g) where
  -- the greatest common divisor is positive
  pub gcd_pos : 0 < g
  gcd_pos = pos_of_dvd_of_pos gcd.left low

  -- h times what is left of the period without it
  pub lcm_gcd : 0 < t → lcm h t ≡ h * (t / g)
  lcm_gcd tp = lcm_by_gcd h t tp g low gcd_pos gcd.left gcd.right gcd.greatest

-- ---- row by row

-- going on from h
abbrev go_on : ℕ → List Row → ℕ
go_on h rows = foldl (λ l r. lcm l r.t) h rows

-- h is what the first i rows come to
pub record Repeating (rows : List Code.Row) (h : Repeat) (i : ℕ) : Type 0 where
  pub reached : Reached h
  pub same : go_on h.0 (drop i (map view_row rows)) ≡ repeat_length (map view_row rows)

module _ (rows : List Code.Row) where
  -- no row is counted yet
  pub repeating_starts : Repeating rows (record { 0 = 1 }) 0
  unfolding repeat_length
  repeating_starts = record { reached = record { positive = lit< tt; bounded = lit≤ tt }; same = refl }

  module _ {h : Repeat} {i : ℕ} (r : Repeating rows h i) where
    module _ (l : i < length rows) where
      abbrev longer : ℕ
      longer = lcm h.0 (get_or rows i zero_row).t

      next : go_on h.0 (drop i (map view_row rows)) ≡ go_on longer (drop (i + 1) (map view_row rows))
      next = rw (drop-cons (map view_row rows) i no_row (omega (arith, length-map rows view_row)), get_or-map view_row rows i zero_row, add-one i)

      -- one more row keeps it within the bound
      pub repeating_goes_on : {x : Repeat} → repeat_of longer ≡ Some x → Repeating rows x (i + 1)
      repeating_goes_on e =
          let w = repeat-taken _ _ e in
          record { reached = w.0; same = rw (← ap (λ (y : Repeat). y.0) w.1) (sym next ∙ r.same) }

      -- one more row takes it past the bound, and H with it
      pub repeating_stops : repeat_of longer ≡ None → repeat_of (repeat_length (map view_row rows)) ≡ None
      repeating_stops e =
          let low : 0 < longer = lcm_pos h.0 (get_or rows i zero_row).t r.reached.positive in
          let high : repeat_max < longer = repeat-refused longer low e in
          repeat_above (repeat_length (map view_row rows)) (omega (arith, sym next ∙ r.same, repeat-reached-le longer (drop (i + 1) (map view_row rows)) low))

    -- all rows are counted
    pub repeating_ends : length rows ≤ i → repeat_of (repeat_length (map view_row rows)) ≡ Some h
    repeating_ends l =
        let all : length (map view_row rows) ≤ i = omega (arith, length-map rows view_row) in
        let whole : h.0 ≡ repeat_length (map view_row rows) = rw (drop_of_length-le (map view_row rows) all) at r.same in
        rw (← whole) (repeat_within h.0 r.reached.positive r.reached.bounded)

-- ---- the tests of all rows together

-- H is within its bound, and the table is taken
pub whole-taken : (t : Table) (x : Repeat) → Formed t → repeat_of (repeat_length (view t).rows) ≡ Some x
    → Ok t ≡ table_answer (settle (whole_tests (view t).rows) (view t))
unfolding whole_tests
whole-taken t x formed e =
    let w = repeat-taken (repeat_length (view t).rows) x e in
    let same : repeat_length (view t).rows ≡ x.0 = ap (λ (y : Repeat). y.0) w.1 in
    rw (le-ltb repeat_max (repeat_length (view t).rows) (omega (arith, w.0.bounded)), formed)

-- H is above its bound
pub whole-refused : (t : Table) → repeat_of (repeat_length (view t).rows) ≡ None → Err (record { refusal = BadRepeat; line = 0 }) ≡ table_answer (settle (whole_tests (view t).rows) (view t))
unfolding whole_tests
whole-refused t e = rw (lt-ltb repeat_max (repeat_length (view t).rows) (repeat-refused (repeat_length (view t).rows) (repeat_pos (view t).rows) e))
