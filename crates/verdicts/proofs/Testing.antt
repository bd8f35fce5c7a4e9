-- The tests of a table that is given as a struct: which refusal comes first, and what a table that passes them all is known to be.
use Rattle.std.proofs.Common as Code
use Rattle.std.proofs.Common.{Result, Ok, Err, Some, None}
use Rattle.std.specs.Prelude.{ok_or}
use Prim.Native.Nat.{ℕ, ◌+◌, ◌≤◌, ◌<◌, min, zero-le}
use mathlib.Core.Path.{◌≡◌, refl, sym, ap, ◌∙◌}
use mathlib.Core.Bool.{◌&&◌}
use mathlib.Core.List.{List, ◌++◌, map}
use mathlib.Core.Option.{Option, none, some}
use native.Mathlib.Numerals.{add-one}
use native.Mathlib.Omega.{arith}
use lib.ListN.{length, get_or, take, drop, drop_of_length-le}
use lib.Seq.{drop-cons}
use Rattle.std.proofs.lemmas.List.{take_min}
use Rattle.laws.specs.Lists.{join}
use Rattle.laws.proofs.Tests.{never, and_left, and_right}
use Rattle.rules.specs.Refusals.{Test, first, settle, answered, passes}
use Rattle.rules.specs.Limits.{repeat_max}
use Rattle.rules.specs.Kinds as Kinds
use Rattle.rules.specs.Rows as Rules
use Rattle.rules.specs.Repeat.{repeat_length}
use Rattle.rules.specs.Tables.{header_tests, row_tests, whole_tests}
use Rattle.rules.specs.Files.{at_line}
use Rattle.rules.specs.Results.{reply}
use Rattle.rules.specs.declared.refusal.Refusal.{Refusal}
use Rattle.rules.specs.declared.refusal.Refused.{Refused}
use Rattle.rules.specs.declared.refusal.Refusal.TheVariants.{BadRepeat}
use Rattle.rules.specs.declared.kinds.Repeat.{Repeat}
use Rattle.priority_laws.proofs.Repeat.{repeat_pos}
use Rattle.reading_laws.proofs.Tests.{first_passed, first_stays, none_passes, passes_none, passes_append, header-iff, rows-iff, whole-iff, refuses_repeat}
use Rattle.tables.specs.Rows.{row_answer, test_row}
use Rattle.tables.specs.Headers.{header_answer, test_header}
use Rattle.tables.specs.Views.{view_row, zero_row, view}
use Rattle.tables.proofs.Views.{length-view}
use Rattle.tables.proofs.Bounds.{repeat-taken, repeat-refused}
use Rattle.tables.specs.declared.header.Header.{Header}
use Rattle.tables.specs.declared.table.Row.{Row}
use Rattle.tables.specs.declared.table.Table.{Table}
use Rattle.rules.proofs.Results.{reply_refuses}
use Rattle.verdicts.specs.Structs.{outcome_of, lines_tests, struct_tests, repeat_of, test_answer, Sound, Known}

-- ---- outcomes

-- none is refused where the outcome says so
pub none-refused : (o : Option Refusal) → outcome_of o ≡ Ok tt → o ≡ none
none-refused none e = refl
none-refused (some r) e = cc

-- the one that the outcome names is refused
pub one_refused : (o : Option Refusal) {e : Refused} → outcome_of o ≡ Err e → o ≡ some e.refusal
one_refused none {e} h = cc
one_refused (some r) {e} h =
    let same : record { refusal = r; line = 0 } ≡ e = cc in
    rw (← same)

-- the outcome of tests at no line
ends : {A B : Type 0} (of : A → B) (o : Option Refusal) (a : A) {e : Refused} → reply of (at_line 0 o a) ≡ Err e → outcome_of o ≡ Err e
ends of none a {e} h = never cc
ends of (some r) a {e} h =
    let same : record { refusal = r; line = 0 } ≡ e = cc in
    rw (← same)

goes_on : {A B : Type 0} (of : A → B) (o : Option Refusal) (a : A) {b : B} → reply of (at_line 0 o a) ≡ Ok b → outcome_of o ≡ Ok tt
goes_on of none a {b} h = refl
goes_on of (some r) a {b} h = never cc

-- of a row's tests
pub row_ends : (c t : ℕ) {e : Refused} → row_answer (test_row c t 0) ≡ Err e → outcome_of (first (row_tests (record { c = c; t = t }))) ≡ Err e
unfolding test_row
row_ends c t h = ends _ (first (row_tests (record { c = c; t = t }))) _ h

pub row_goes_on : (c t : ℕ) {x : Row} → row_answer (test_row c t 0) ≡ Ok x → outcome_of (first (row_tests (record { c = c; t = t }))) ≡ Ok tt
unfolding test_row
row_goes_on c t h = goes_on _ (first (row_tests (record { c = c; t = t }))) _ h

-- and of a header's
header_ends : (m n : ℕ) {e : Refused} → header_answer (test_header m n 0) ≡ Err e → outcome_of (first (header_tests m n)) ≡ Err e
unfolding test_header
header_ends m n h = ends _ (first (header_tests m n)) _ h

header_goes_on : (m n : ℕ) {x : Header} → header_answer (test_header m n 0) ≡ Ok x → outcome_of (first (header_tests m n)) ≡ Ok tt
unfolding test_header
header_goes_on m n h = goes_on _ (first (header_tests m n)) _ h

-- ---- tests after others

module _ (xs ys : List Test) where
  -- they count where the others are passed
  then_passed : outcome_of (first xs) ≡ Ok tt → first ys ≡ first (xs ++ ys)
  then_passed e = sym (first_passed xs ys (none_passes xs (none-refused (first xs) e)))

  -- and do not where one is refused
  then_refused : {e : Refused} → outcome_of (first xs) ≡ Err e → first xs ≡ first (xs ++ ys)
  then_refused {e} h =
      let own : first xs ≡ some e.refusal = one_refused (first xs) h in
      own ∙ sym (first_stays xs ys e.refusal own)

-- ---- row by row

-- the tests of rows, one after the other
abbrev pub rows_tests : List Rules.Row → List Test
rows_tests rows = join (map row_tests rows)

-- those of rows that are lent
abbrev row_by_row : List Row → List Test
row_by_row rows = rows_tests (map view_row rows)

-- the first i rows were passed
pub record Passed (rows : List Row) (i : ℕ) : Type 0 where
  pub within : i ≤ length rows
  pub rest : first (row_by_row (drop i rows)) ≡ first (row_by_row rows)

module _ (rows : List Row) where
  -- before the first
  pub none-passed : Passed rows 0
  none-passed = record { within = zero-le; rest = refl }

  module _ {i : ℕ} (p : Passed rows i) where
    module _ (more : i < length rows) where
      abbrev here : List Test
      here = row_tests (view_row (get_or rows i zero_row))

      split : first (here ++ row_by_row (drop (i + 1) rows)) ≡ first (row_by_row rows)
      split =
          let next : row_by_row (drop i rows) ≡ here ++ row_by_row (drop (i + 1) rows) = ap row_by_row (drop-cons rows i zero_row more) ∙ rw add-one in
          ap first (sym next) ∙ p.rest

      -- the next row is passed
      pub turn : outcome_of (first here) ≡ Ok tt → Passed rows (i + 1)
      turn e = record { within = omega arith; rest = then_passed here (row_by_row (drop (i + 1) rows)) e ∙ split }

      -- it is refused
      pub stopped : {e : Refused} → outcome_of (first here) ≡ Err e → Err e ≡ outcome_of (first (row_by_row rows))
      stopped h = sym h ∙ ap outcome_of (then_refused here (row_by_row (drop (i + 1) rows)) h ∙ split)

    -- none is left
    pub ended : length rows ≤ i → Ok tt ≡ outcome_of (first (row_by_row rows))
    ended l = ap outcome_of (sym (ap (λ (rs : List Row). first (row_by_row rs)) (drop_of_length-le rows l)) ∙ p.rest)

-- the rows that are lent are those that count
pub rows_lent : (t : Table) → length t.rows ≡ 64 → {n : ℕ} → n ≡ min t.n.0 64 → outcome_of (first (row_by_row (take n t.rows))) ≡ outcome_of (first (rows_tests (view t).rows))
unfolding view
rows_lent t long {n} e =
    ap (λ (rows : List Row). outcome_of (first (row_by_row rows))) (rw (e, ← long) (take_min t.n.0 t.rows))

-- ---- the whole table

module _ (t : Table) where
  abbrev answer : Result Repeat Refused
  answer = test_answer (settle (struct_tests t) (repeat_of (view t)))

  -- the lines are refused
  lines_stop : {e : Refused} → outcome_of (first (lines_tests t)) ≡ Err e → Err e ≡ answer
  unfolding struct_tests
  lines_stop {e} h =
      reply_refuses (λ h. h) (λ (u : Unit {0}). u) (first (struct_tests t)) tt (repeat_of (view t))
      (rw (← then_refused (lines_tests t) (whole_tests (view t).rows) h) h)

  -- the header is refused
  pub header_stops : {e : Refused} → header_answer (test_header t.m.0 t.n.0 0) ≡ Err e → Err e ≡ answer
  unfolding lines_tests
  header_stops h =
      let own = header_ends t.m.0 t.n.0 h in
      lines_stop (rw (← then_refused (header_tests t.m.0 t.n.0) (rows_tests (view t).rows) own) own)

  module _ {x : Header} (header : header_answer (test_header t.m.0 t.n.0 0) ≡ Ok x) where
    lines : first (rows_tests (view t).rows) ≡ first (lines_tests t)
    unfolding lines_tests
    lines = then_passed (header_tests t.m.0 t.n.0) (rows_tests (view t).rows) (header_goes_on t.m.0 t.n.0 header)

    -- a row is refused
    pub rows_stop : {e : Refused} → outcome_of (first (rows_tests (view t).rows)) ≡ Err e → Err e ≡ answer
    rows_stop h = lines_stop (rw (← lines) h)

    module _ (passed : outcome_of (first (rows_tests (view t).rows)) ≡ Ok tt) where
      whole : first (whole_tests (view t).rows) ≡ first (struct_tests t)
      unfolding struct_tests
      whole = then_passed (lines_tests t) (whole_tests (view t).rows) (rw (← lines) passed)

      -- H decides: whether it is within its bound
      pub repeat_decides : (o : Code.Option Repeat) → o ≡ Kinds.repeat_of (repeat_length (view t).rows) → ok_or o (record { refusal = BadRepeat; line = 0 }) ≡ answer
      repeat_decides (Some h) e =
          let w = repeat-taken (repeat_length (view t).rows) h (sym e) in
          let small : repeat_length (view t).rows ≤ repeat_max = omega (arith, w.0.bounded, ap (λ (x : Repeat). x.0) w.1) in
          rw (← whole, passes_none (whole_tests (view t).rows) ((whole-iff (view t).rows).1 small), w.1)
      repeat_decides None e =
          let large = repeat-refused (repeat_length (view t).rows) (repeat_pos (view t).rows) (sym e) in
          rw (← whole, refuses_repeat (view t).rows large)

-- ---- what the answer says

-- taken: no test is failed, and H is the one told
test-taken : (o : Option Refusal) (x : Repeat) {h : Repeat} → test_answer (answered o x) ≡ Ok h → (o ≡ none) × (x ≡ h)
test-taken none x {h} e = (refl, cc)
test-taken (some r) x {h} e = never cc

-- a struct that passes all tests says a table in its bounds
sound_of : (t : Table) → length t.rows ≡ 64 → first (struct_tests t) ≡ none → Sound t
unfolding struct_tests lines_tests view
sound_of t long e =
    let hs : List Test = header_tests t.m.0 t.n.0 in
    let rs : List Test = rows_tests (view t).rows in
    let ws : List Test = whole_tests (view t).rows in
    let all = rw (passes_append (hs ++ rs) ws, passes_append hs rs) at (none_passes (hs ++ rs ++ ws) e) in
    let lines = and_left (passes hs && passes rs) (passes ws) all in
    let header = (header-iff t.m.0 t.n.0).0 (and_left (passes hs) (passes rs) lines) in
    record {
      few = header.1.most;
      bounds =
          record {
            cores = header.0;
            tasks = record { least = omega (arith, header.1.least, length-view t long); most = omega (arith, length-view t long) };
            fine = (rows-iff (view t).rows).0 (and_right (passes hs) (passes rs) lines);
            repeat = (whole-iff (view t).rows).0 (and_right (passes hs && passes rs) (passes ws) all);
          };
    }

-- what the test of a table told
module _ (t : Table) {told : Result Repeat Refused} (said : told ≡ test_answer (settle (struct_tests t) (repeat_of (view t)))) where
  -- no test is failed
  pub passed : {h : Repeat} → told ≡ Ok h → first (struct_tests t) ≡ none
  passed e = (test-taken (first (struct_tests t)) (repeat_of (view t)) (sym said ∙ e)).0

  -- the struct is sound, and H is the one told
  pub known : {h : Repeat} → length t.rows ≡ 64 → told ≡ Ok h → Known t h
  known long e =
      record {
        sound = sound_of t long (passed e);
        length = sym (ap (λ (h : Repeat). h.0) (test-taken (first (struct_tests t)) (repeat_of (view t)) (sym said ∙ e)).1);
      }

  -- whatever is asked is refused so
  pub refuses : {A B : Type 0} (of : A → B) (a : A) {e : Refused} → told ≡ Err e → Err e ≡ reply of (settle (struct_tests t) a)
  refuses of a e = reply_refuses of (λ (h : Repeat). h) (first (struct_tests t)) (repeat_of (view t)) a (sym said ∙ e)
