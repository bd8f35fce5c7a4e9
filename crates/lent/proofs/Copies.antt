-- Rows copied one by one into the places, and the table of the pairs: the table of the rows.
use Rattle.std.proofs.Common.{Err}
use Prim.Native.Nat.{ℕ, ◌+◌, min, ◌≤◌, ◌<◌}
use mathlib.Core.Bool.{Bool, true, false, ◌||◌, cond}
use mathlib.Core.Option.{some}
use mathlib.Core.Path.{◌≡◌, refl, sym, ap, ◌∙◌}
use mathlib.Core.List.{List, [], ◌∷◌, ◌++◌, map, map-map}
use native.Mathlib.Omega.{arith}
use native.Mathlib.Decide.{dec_le}
use lib.Dec.{T, ltb, lt→ltb}
use lib.ListN.{length, get_or, take, set, length-map, length-set, length-take}
use lib.Seq.{take_all}
use Rattle.std.proofs.lemmas.List.{take_more_set, map_more}
use Rattle.laws.specs.Lists.{join}
use Rattle.rules.specs.Limits.{cores_min, cores_max, tasks_min, tasks_max}
use Rattle.rules.specs.Refusals.{first, test}
use Rattle.rules.specs.Rows as Rules
use Rattle.rules.specs.Tables.{outside, header_tests, row_tests, whole_tests, list_tests, take_list}
use Rattle.rules.specs.declared.refusal.Refusal.TheVariants.{BadCores, BadTasks}
use Rattle.reading_laws.proofs.Tests.{first_stays}
use Rattle.tables.specs.Views.{view_row, zero_row, table_answer}
use Rattle.tables.specs.Lists.{pair_row, list_rows}
use Rattle.tables.specs.declared.table.Row.{Row}
use Rattle.lent.specs.declared.rows.TheConstants.{PLACES}

-- a row as a pair
abbrev pub pair_of : Row → List ℕ
pair_of row = row.c ∷ row.t ∷ []

-- the first i rows stand in their places
pub record Copied (rows : List Row) (pairs : List (List ℕ)) (i : ℕ) : Type 0 where
  pub within : i ≤ length rows
  pub long : length pairs ≡ PLACES
  pub same : take i pairs ≡ map pair_of (take i rows)

module _ (rows : List Row) (pairs : List (List ℕ)) (i : ℕ) (r : Copied rows pairs i) where
  -- one row more: its C, and then its T
  pub copied_more : {c t : ℕ} → i < length rows → length rows ≤ PLACES → c ≡ (get_or rows i zero_row).c → t ≡ (get_or rows i zero_row).t → Copied rows (set pairs i (c ∷ t ∷ [])) (i + 1)
  copied_more {c} {t} l few ec et =
      let pair = c ∷ t ∷ [] in
      record {
        within = omega arith;
        long = length-set pairs i pair ∙ r.long;
        same = rw (take_more_set pairs i pair (omega (arith, r.long)), map_more pair_of rows i zero_row l, r.same, ec, et);
      }

-- m or n is refused, whatever the rows are
long-header : (m n : ℕ) → 64 < n → first (header_tests m n) ≡ some (cond (outside m cores_min cores_max) BadCores BadTasks)
unfolding header_tests
long-header m n l = by_cases (outside m cores_min cores_max) (ltb n tasks_min) (ltb tasks_max n) (lt→ltb tasks_max n l)
  where
    by_cases : (a x y : Bool) → T y → first (test a BadCores ∷ test (x || y) BadTasks ∷ []) ≡ some (cond a BadCores BadTasks)
    by_cases true x y t = refl
    by_cases false true y t = refl
    by_cases false false true t = refl
    by_cases false false false t = absurd t

too_long : (m : ℕ) (rows : List Rules.Row) → 64 < length rows → table_answer (take_list m rows) ≡ Err (record { refusal = cond (outside m cores_min cores_max) BadCores BadTasks; line = 0 })
unfolding take_list list_tests
too_long m rows l =
    let hs = header_tests m (length rows) in
    let js = join (map row_tests rows) in
    let x = cond (outside m cores_min cores_max) BadCores BadTasks in
    rw (first_stays (hs ++ js) (whole_tests rows) x (first_stays hs js x (long-header m (length rows) l)))

-- every row that has a place stands in it
module _ (m : ℕ) (ys : List Row) (pairs : List (List ℕ)) (n i : ℕ) (r : Copied (take n ys) pairs i) (end : i ≡ n) (placed : n ≡ min (length ys) PLACES) where
  abbrev Same : Type 0
  Same = table_answer (take_list m (list_rows (take n pairs))) ≡ table_answer (take_list m (map view_row ys))

  all_placed : length ys ≤ PLACES → Same
  all_placed l =
      let all : take n ys ≡ ys = take_all n ys (omega (arith, placed)) in
      let same : take n pairs ≡ map pair_of ys = rw (end, all, all) at r.same in
      ap (λ (ps : List (List ℕ)). table_answer (take_list m (list_rows ps))) same
      ∙ ap (λ (rows : List Rules.Row). table_answer (take_list m rows)) (map-map pair_row pair_of ys)

  -- 65 rows are too many, and so is any number above
  too_many : (length ys ≤ PLACES → ⊥) → Same
  too_many l =
      let front = take n pairs in
      too_long m (list_rows front) (omega (arith, placed, length-map front pair_row, length-take n pairs, r.long)) ∙ sym (too_long m (map view_row ys) (omega (arith, length-map ys view_row)))

  pub table_same : Same
  table_same = elim (dec_le (length ys) PLACES) [ yes l ↦ all_placed l | no l ↦ too_many l ]
