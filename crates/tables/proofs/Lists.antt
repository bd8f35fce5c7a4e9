-- The tests of a list of rows: row by row, then of all together.
use Rattle.std.proofs.Common.{Ok, Err}
use Prim.Native.Nat.{ℕ, ◌+◌, ◌≤◌, ◌<◌, zero-le}
use mathlib.Core.Path.{◌≡◌, refl, sym, ap, ◌∙◌}
use mathlib.Core.List.{List, [], ◌∷◌, ◌++◌, map, append_assoc}
use lib.Dec.{T}
use mathlib.Core.Option.{Option, none, some}
use native.Mathlib.Numerals.{add-one}
use native.Mathlib.Omega.{arith}
use lib.ListN.{length, get_or, take, drop, set, length-map, drop_of_length-le, get_or-map}
use lib.Seq.{length-take-le, take-suc, take_all, drop-cons}
use Rattle.laws.proofs.Tests.{never}
use Rattle.laws.specs.Lists.{join}
use Rattle.rules.specs.Refusals.{first, settle, answered, passes}
use Rattle.rules.specs.Rows as Rules
use Rattle.rules.specs.Tables.{header_tests, row_tests, whole_tests, list_tests, take_list, no_row}
use Rattle.rules.specs.Files.{at_line}
use Rattle.rules.specs.declared.kinds.Cores.{Cores}
use Rattle.rules.specs.declared.kinds.Tasks.{Tasks}
use Rattle.rules.specs.declared.refusal.Refusal.{Refusal}
use Rattle.rules.specs.declared.refusal.Refused.{Refused}
use Rattle.reading_laws.proofs.Tests.{first_passed, first_stays, none_passes, header-iff}
use Rattle.tables.specs.Views.{pack_rows, pack, table_answer}
use Rattle.tables.specs.Rows.{test_row, row_answer, rows_answer}
use Rattle.tables.specs.Headers.{test_header, header_answer}
use Rattle.tables.specs.Lists.{pair_row, list_rows, test_rows}
use Rattle.tables.specs.declared.table.Row.{Row}
use Rattle.tables.specs.declared.header.Header.{Header}
use Rattle.tables.proofs.Views.{pack_more}

-- what the answer of a row's tests says
tested_good : (c t : ℕ) (x : Row) → row_answer (test_row c t 0) ≡ Ok x → (first (row_tests (record { c = c; t = t })) ≡ none) × (record { c = c; t = t } ≡ x)
unfolding test_row
tested_good c t x e = by_cases (first (row_tests (record { c = c; t = t }))) e
  where
    by_cases : (o : Option Refusal) → row_answer (at_line 0 o (record { c = c; t = t })) ≡ Ok x → (o ≡ none) × (record { c = c; t = t } ≡ x)
    by_cases none e = (refl, cc)
    by_cases (some y) e = never cc

tested_bad : (c t : ℕ) (x : Refused) → row_answer (test_row c t 0) ≡ Err x → (first (row_tests (record { c = c; t = t })) ≡ some x.refusal) × (x.line ≡ 0)
unfolding test_row
tested_bad c t x e = by_cases (first (row_tests (record { c = c; t = t }))) e
  where
    by_cases : (o : Option Refusal) → row_answer (at_line 0 o (record { c = c; t = t })) ≡ Err x → (o ≡ some x.refusal) × (x.line ≡ 0)
    by_cases none e = never cc
    by_cases (some y) e =
        let same : record { refusal = y; line = 0 } ≡ x = cc in
        rw (← same) (refl, refl)

-- the first i rows have passed, and stand at the front of the array
pub record TestingRows (list : List (List ℕ)) (rows : List Row) (i : ℕ) : Type 0 where
  pub within : i ≤ length list
  pub packed : rows ≡ pack_rows (take i (list_rows list))
  pub same : first (join (map row_tests (drop i (list_rows list)))) ≡ first (join (map row_tests (list_rows list)))

module _ (list : List (List ℕ)) where
  -- no row is tested yet
  pub testing_starts : TestingRows list (pack_rows []) 0
  testing_starts = record { within = zero-le; packed = refl; same = refl }

  module _ (rows : List Row) (i : ℕ) (r : TestingRows list rows i) where
    module _ (l : i < length list) where
      abbrev at_hand : List ℕ
      at_hand = get_or list i []

      in_rows : i < length (list_rows list)
      in_rows = omega (arith, length-map list pair_row)

      row_is : get_or (list_rows list) i no_row ≡ pair_row at_hand
      row_is = get_or-map pair_row list i []

      next : drop i (list_rows list) ≡ pair_row at_hand ∷ drop (i + 1) (list_rows list)
      next = rw (add-one i, ← row_is) (drop-cons (list_rows list) i no_row in_rows)

      -- a row that is refused ends the tests with its refusal
      pub testing_stops : (x : Refused) → row_answer (test_row (get_or at_hand 0 0) (get_or at_hand 1 0) 0) ≡ Err x → Err x ≡ rows_answer (test_rows (list_rows list))
      unfolding test_rows
      testing_stops x e =
          let w = tested_bad (get_or at_hand 0 0) (get_or at_hand 1 0) x e in
          let others = join (map row_tests (drop (i + 1) (list_rows list))) in
          rw (← r.same, next, first_stays (row_tests (pair_row at_hand)) others x.refusal w.0, ← w.1)

      -- a row that is good is put into the array
      pub testing_goes_on : (x : Row) → length list ≤ 64 → row_answer (test_row (get_or at_hand 0 0) (get_or at_hand 1 0) 0) ≡ Ok x → TestingRows list (set rows i x) (i + 1)
      testing_goes_on x small e =
          let w = tested_good (get_or at_hand 0 0) (get_or at_hand 1 0) x e in
          let others = join (map row_tests (drop (i + 1) (list_rows list))) in
          let long : length (take i (list_rows list)) ≡ i = length-take-le i (list_rows list) (omega (arith, in_rows)) in
          record {
            within = omega arith;
            packed =
                rw (r.packed, pack_more (take i (list_rows list)) x i long (omega arith), add-one i, take-suc (list_rows list) i no_row in_rows, row_is, ← w.1);
            same =
                sym
                (ap (λ (rs : List Rules.Row). first (join (map row_tests rs))) next
                ∙ first_passed (row_tests (pair_row at_hand)) others (none_passes (row_tests (pair_row at_hand)) w.0))
                ∙ r.same;
          }

    -- all rows have passed
    pub testing_ends : length list ≤ i → Ok rows ≡ rows_answer (test_rows (list_rows list))
    unfolding test_rows
    testing_ends l =
        let all : length (list_rows list) ≤ i = omega (arith, length-map list pair_row) in
        rw (← r.same, drop_of_length-le (list_rows list) all, r.packed, take_all i (list_rows list) all)

-- ---- the whole list

-- what the answer of the header's tests says
header_bad : (m n : ℕ) (x : Refused) → header_answer (test_header m n 0) ≡ Err x → (first (header_tests m n) ≡ some x.refusal) × (x.line ≡ 0)
unfolding test_header
header_bad m n x e = by_cases (first (header_tests m n)) e
  where
    by_cases : (o : Option Refusal) → header_answer (at_line 0 o (record { m = m; n = n })) ≡ Err x → (o ≡ some x.refusal) × (x.line ≡ 0)
    by_cases none e = never cc
    by_cases (some y) e =
        let same : record { refusal = y; line = 0 } ≡ x = cc in
        rw (← same) (refl, refl)

pub record HeaderPassed (m n : ℕ) (a : Cores) (b : Tasks) : Type 0 where
  pub passed : T (passes (header_tests m n))
  pub cores : record { 0 = m } ≡ a
  pub tasks : record { 0 = n } ≡ b

-- and of one that passed
pub header-good : (m n : ℕ) (h : Header) → header_answer (test_header m n 0) ≡ Ok h → HeaderPassed m n h.m h.n
unfolding test_header
header-good m n h e = by_cases (first (header_tests m n)) refl e
  where
    by_cases : (o : Option Refusal) → first (header_tests m n) ≡ o → header_answer (at_line 0 o (record { m = m; n = n })) ≡ Ok h → HeaderPassed m n h.m h.n
    by_cases none p e =
        let same : ◌≡◌ {A = Header} (record { m = record { 0 = m }; n = record { 0 = n } }) h = cc in
        record { passed = none_passes (header_tests m n) p; cores = ap (λ (h : Header). h.m) same; tasks = ap (λ (h : Header). h.n) same }
    by_cases (some y) p e = never cc

-- a list that passed has at most 64 rows
pub few_tasks : (m n : ℕ) → T (passes (header_tests m n)) → n ≤ 64
few_tasks m n t = ((header-iff m n).0 t).1.most

module _ (m : ℕ) (list : List (List ℕ)) where
  abbrev rows_of : List Rules.Row
  rows_of = list_rows list

  -- m or n is refused
  pub list_stops : (x : Refused) → header_answer (test_header m (length list) 0) ≡ Err x → Err x ≡ table_answer (take_list m rows_of)
  unfolding take_list list_tests
  list_stops x e =
      let w = header_bad m (length list) x e in
      let hs = header_tests m (length rows_of) in
      let js = join (map row_tests rows_of) in
      let found : first hs ≡ some x.refusal = rw (length-map list pair_row) w.0 in
      rw (first_stays (hs ++ js) (whole_tests rows_of) x.refusal (first_stays hs js x.refusal found), ← w.1)

  module _ (p : T (passes (header_tests m (length list)))) where
    after-header : first (list_tests m rows_of) ≡ first (join (map row_tests rows_of) ++ whole_tests rows_of)
    unfolding list_tests
    after-header =
        let hs = header_tests m (length rows_of) in
        let js = join (map row_tests rows_of) in
        rw (append_assoc hs js (whole_tests rows_of)) (first_passed hs (js ++ whole_tests rows_of) (rw (length-map list pair_row) p))

    -- a row is refused
    pub list_rows_stop : (x : Refused) → rows_answer (test_rows rows_of) ≡ Err x → Err x ≡ table_answer (take_list m rows_of)
    unfolding take_list test_rows
    list_rows_stop x e = by_cases (first (join (map row_tests rows_of))) refl e
      where
        by_cases : (o : Option Refusal) → first (join (map row_tests rows_of)) ≡ o → rows_answer (answered o rows_of) ≡ Err x → Err x ≡ table_answer (take_list m rows_of)
        by_cases none q e = never cc
        by_cases (some y) q e =
            let same : record { refusal = y; line = 0 } ≡ x = cc in
            rw (after-header, first_stays (join (map row_tests rows_of)) (whole_tests rows_of) y q, ← same)

    -- every row is taken, and the tests of all of them are left
    pub list_rows_end : (rows : List Row) → rows_answer (test_rows rows_of) ≡ Ok rows
        → (rows ≡ pack_rows rows_of) × (take_list m rows_of ≡ settle (whole_tests rows_of) (record { m = m; rows = rows_of }))
    unfolding take_list test_rows
    list_rows_end rows e = by_cases (first (join (map row_tests rows_of))) refl e
      where
        by_cases : (o : Option Refusal) → first (join (map row_tests rows_of)) ≡ o → rows_answer (answered o rows_of) ≡ Ok rows
            → (rows ≡ pack_rows rows_of) × (take_list m rows_of ≡ settle (whole_tests rows_of) (record { m = m; rows = rows_of }))
        by_cases none q e =
            (cc, rw (after-header, first_passed (join (map row_tests rows_of)) (whole_tests rows_of) (none_passes (join (map row_tests rows_of)) q)))
        by_cases (some y) q e = never cc

  -- the struct of the table
  pub list_table : (a : Cores) (b : Tasks) (rows : List Row) → HeaderPassed m (length list) a b → rows ≡ pack_rows rows_of
      → record { m = a; n = b; rows = rows } ≡ pack (record { m = m; rows = rows_of })
  unfolding pack
  list_table a b rows h e = rw (← h.cores, ← h.tasks, e, length-map list pair_row)
