-- The tests in their order: which refusal a list of them gives, and what a table that passes them all is known to be.
use Prim.Native.Nat.{ℕ, zero, suc, ◌≤◌, ◌<◌}
use mathlib.Core.Path.{◌≡◌, refl, sym, ap, ◌∙◌}
use mathlib.Core.Bool.{Bool, true, false, cond, not, ◌&&◌, ◌||◌, and_assoc}
use mathlib.Core.List.{List, [], ◌∷◌, ◌++◌, map, append-nil}
use mathlib.Core.Logic.{◌↔◌, ◌⊎◌}
use mathlib.Core.Option.{Option, none, some, none-ne-some, some-ne-none}
use native.Mathlib.Nat.{not-le_of_lt}
use native.Mathlib.Omega.{arith}
use lib.Dec.{T, eqb, ltb}
use lib.ListN.{length, get_or}
use Rattle.laws.specs.Lists.{join}
use Rattle.laws.proofs.Tests.{never, and_left, and_right}
use Rattle.laws.proofs.Exactly.{zero-iff, order-iff, nor_iff, and_iff, otherwise, decides, cond_true, cond_false}
use Rattle.rules.specs.Limits.{cores_min, cores_max, tasks_min, tasks_max, period_max, repeat_max}
use Rattle.rules.specs.Refusals.{Test, test, first, taken, refused, answered, settle, passes}
use Rattle.rules.specs.Rows.{Row}
use Rattle.rules.specs.Repeat.{repeat_length}
use Rattle.rules.specs.Tables.{Table, size, outside, header_tests, row_tests, whole_tests, list_tests, accepts}
use Rattle.rules.specs.declared.refusal.Refusal.{Refusal}
use Rattle.rules.specs.declared.refusal.Refusal.TheVariants.{BadCores, BadTasks, BadRow, BadRepeat}
use Rattle.reading_laws.specs.Bounds.{Within, RowInBounds, Every, TableInBounds}

-- ---- tests in order

-- tests after others count where the others are passed
pub first_passed : (xs ys : List Test) → T (passes xs) → first (xs ++ ys) ≡ first ys
first_passed [] ys p = refl
first_passed (x ∷ xs) ys p =
    cond_false x.holds (some x.refusal) (first (xs ++ ys)) (and_left (not x.holds) (passes xs) p)
    ∙ first_passed xs ys (and_right (not x.holds) (passes xs) p)

-- the first refusal stays whatever tests come after
pub first_stays : (xs ys : List Test) (r : Refusal) → first xs ≡ some r → first (xs ++ ys) ≡ some r
first_stays [] ys r e = absurd (none-ne-some r e)
first_stays (x ∷ xs) ys r e = onward x.holds e (first_stays xs ys r)
  where
    onward : (b : Bool) → cond b (some x.refusal) (first xs) ≡ some r → (first xs ≡ some r → first (xs ++ ys) ≡ some r)
        → cond b (some x.refusal) (first (xs ++ ys)) ≡ some r
    onward true f h = f
    onward false f h = h f

-- no refusal is given exactly where every test is passed
pub passes_none : (ts : List Test) → T (passes ts) → first ts ≡ none
passes_none ts p = rw append-nil at (first_passed ts [] p)

pub none_passes : (ts : List Test) → first ts ≡ none → T (passes ts)
none_passes [] e = tt
none_passes (x ∷ xs) e = onward x.holds e (none_passes xs)
  where
    onward : (b : Bool) → cond b (some x.refusal) (first xs) ≡ none → (first xs ≡ none → T (passes xs)) → T (not b && passes xs)
    onward true f h = absurd (some-ne-none x.refusal f)
    onward false f h = h f

-- the tests of two lists are passed where those of each are
pub passes_append : (xs ys : List Test) → passes (xs ++ ys) ≡ passes xs && passes ys
passes_append [] ys = refl
passes_append (x ∷ xs) ys =
    ap (λ (b : Bool). not x.holds && b) (passes_append xs ys) ∙ sym (and_assoc (not x.holds) (passes xs) (passes ys))

-- an answer without a line is taken exactly where every test is passed
pub settle-passes : {A : Type 0} (ts : List Test) (a : A) → T (passes ts) → settle ts a ≡ taken a
settle-passes ts a p = rw (passes_none ts p)

pub settle-taken : {A : Type 0} (ts : List Test) (a b : A) → settle ts a ≡ taken b → T (passes ts) × (a ≡ b)
settle-taken ts a b e = by_cases (first ts) refl e
  where
    by_cases : (o : Option Refusal) → first ts ≡ o → answered o a ≡ taken b → T (passes ts) × (a ≡ b)
    by_cases none f g = (none_passes ts f, cc)
    by_cases (some r) f g = never cc

-- the refusal of such an answer is the first of the tests'
pub settle-refused : {A : Type 0} (ts : List Test) (a : A) {r : Refusal} {l : ℕ} → settle ts a ≡ refused r l → first ts ≡ some r
settle-refused ts a {r} {l} e = by_cases (first ts) e
  where
    by_cases : (o : Option Refusal) → answered o a ≡ refused r l → o ≡ some r
    by_cases none f = cc
    by_cases (some q) f = cc

-- ---- what each test is about

-- the condition of refusal 4
abbrev outside_row : Row → Bool
outside_row r = eqb r.c 0 || ltb r.t r.c || ltb period_max r.t

-- a number is not outside its bounds exactly where it is within them
pub number-iff : (low high x : ℕ) → T (not (outside x low high)) ↔ Within low high x
number-iff low high x =
    let w = nor_iff (ltb x low) (ltb high x) (order-iff x low) (order-iff high x) in
    (λ t. record { least = (w.0 t).0; most = (w.0 t).1 }, λ b. w.1 (b.least, b.most))

outside_row_iff : (r : Row) → T (not (outside_row r)) ↔ RowInBounds r
outside_row_iff r =
    let ct = nor_iff (eqb r.c 0) (ltb r.t r.c) (zero-iff r.c) (order-iff r.t r.c) in
    let w = nor_iff (eqb r.c 0 || ltb r.t r.c) (ltb period_max r.t) ct (order-iff period_max r.t) in
    (λ t. record { works = (w.0 t).0.0; fits = (w.0 t).0.1; period = (w.0 t).1 }, λ b. w.1 ((b.works, b.fits), b.period))

-- a number is in its bounds or not
pub within? : (low high x : ℕ) → Within low high x ⊎ (¬ Within low high x)
within? low high x = decides (outside x low high) (number-iff low high x)

-- a row is in its bounds or not
pub row_in_bounds? : (r : Row) → RowInBounds r ⊎ (¬ RowInBounds r)
row_in_bounds? r = decides (outside_row r) (outside_row_iff r)

-- ---- what passing says

-- a single test is passed exactly where P holds
one_iff : {P : Type 0} (t : Bool) (r : Refusal) → (T (not t) ↔ P) → T (passes (test t r ∷ [])) ↔ P
one_iff true r p = p
one_iff false r p = p

-- a header passes exactly where m and n are in their bounds
pub header-iff : (m n : ℕ) → T (passes (header_tests m n)) ↔ (Within cores_min cores_max m × Within tasks_min tasks_max n)
unfolding header_tests
header-iff m n =
    let tasks = one_iff (outside n tasks_min tasks_max) BadTasks (number-iff tasks_min tasks_max n) in
    and_iff (not (outside m cores_min cores_max)) _ (number-iff cores_min cores_max m) tasks

-- a row passes exactly where it is in its bounds
pub row-iff : (r : Row) → T (passes (row_tests r)) ↔ RowInBounds r
unfolding row_tests
row-iff r = one_iff (outside_row r) BadRow (outside_row_iff r)

-- the rows pass, one by one, exactly where each is in its bounds
pub rows-iff : (rows : List Row) → T (passes (join (map row_tests rows))) ↔ Every RowInBounds rows
rows-iff [] = (λ t. t, λ t. t)
rows-iff (r ∷ rows) =
    rw (passes_append (row_tests r) (join (map row_tests rows)))
    (and_iff (passes (row_tests r)) (passes (join (map row_tests rows))) (row-iff r) (rows-iff rows))

-- the rows pass together exactly where H is in its bound
pub whole-iff : (rows : List Row) → T (passes (whole_tests rows)) ↔ (repeat_length rows ≤ repeat_max)
unfolding whole_tests
whole-iff rows = one_iff (ltb repeat_max (repeat_length rows)) BadRepeat (order-iff repeat_max (repeat_length rows))

-- a table is accepted exactly where it is in its bounds
pub accepts-iff : (tbl : Table) → T (accepts tbl) ↔ TableInBounds tbl
unfolding accepts list_tests
accepts-iff tbl =
    let hs : List Test = header_tests tbl.m (size tbl) in
    let rs : List Test = join (map row_tests tbl.rows) in
    let ws : List Test = whole_tests tbl.rows in
    let lines = and_iff (passes hs) (passes rs) (header-iff tbl.m (size tbl)) (rows-iff tbl.rows) in
    let w = and_iff (passes hs && passes rs) (passes ws) lines (whole-iff tbl.rows) in
    rw (passes_append (hs ++ rs) ws, passes_append hs rs) (
      λ t. record { cores = (w.0 t).0.0.0; tasks = (w.0 t).0.0.1; fine = (w.0 t).0.1; repeat = (w.0 t).1 },
      λ b. w.1 (((b.cores, b.tasks), b.fine), b.repeat),
    )

-- what holds of every element holds of the one at a place
pub every_get_or : {A : Type 0} (P : A → Type 0) (xs : List A) (d : A) (i : ℕ) → Every P xs → i < length xs → P (get_or xs i d)
every_get_or P [] d i ps h = absurd (omega arith)
every_get_or P (x ∷ xs) d zero ps h = ps.0
every_get_or P (x ∷ xs) d (suc i) ps h = every_get_or P xs d i ps.1 (omega arith)

-- and the other way round
pub get_or_every : {A : Type 0} (P : A → Type 0) (xs : List A) (d : A) → ((i : ℕ) → i < length xs → P (get_or xs i d)) → Every P xs
get_or_every P [] d ps = tt
get_or_every P (x ∷ xs) d ps = (ps 0 (omega arith), get_or_every P xs d (λ i h. ps (suc i) (omega arith)))

-- ---- which refusal is given

-- the first test is failed
fails : {P : Type 0} (t : Bool) (r : Refusal) (ts : List Test) → (T (not t) ↔ P) → ¬ P → first (test t r ∷ ts) ≡ some r
fails t r ts p n = cond_true t (some r) (first ts) (otherwise t p n)

module _ (m n : ℕ) where
  abbrev cores_test : Test
  cores_test = test (outside m cores_min cores_max) BadCores

  abbrev tasks_test : Test
  tasks_test = test (outside n tasks_min tasks_max) BadTasks

  -- 2
  pub refuses_cores : ¬ Within cores_min cores_max m → first (header_tests m n) ≡ some BadCores
  unfolding header_tests
  refuses_cores bad = fails cores_test.holds BadCores (tasks_test ∷ []) (number-iff cores_min cores_max m) bad

  -- 3
  pub refuses_tasks : Within cores_min cores_max m → ¬ Within tasks_min tasks_max n → first (header_tests m n) ≡ some BadTasks
  unfolding header_tests
  refuses_tasks fine bad =
      first_passed (cores_test ∷ []) (tasks_test ∷ []) ((one_iff cores_test.holds BadCores (number-iff cores_min cores_max m)).1 fine)
      ∙ fails tasks_test.holds BadTasks [] (number-iff tasks_min tasks_max n) bad

-- 4
pub refuses_row : (r : Row) → ¬ RowInBounds r → first (row_tests r) ≡ some BadRow
unfolding row_tests
refuses_row r bad = fails (outside_row r) BadRow [] (outside_row_iff r) bad

-- 5
pub refuses_repeat : (rows : List Row) → repeat_max < repeat_length rows → first (whole_tests rows) ≡ some BadRepeat
unfolding whole_tests
refuses_repeat rows bad =
    fails (ltb repeat_max (repeat_length rows)) BadRepeat [] (order-iff repeat_max (repeat_length rows)) (not-le_of_lt bad)
