-- Reading the rows of a file one after the other, and what is left after them.
use Rattle.std.proofs.Common.{Ok, Err}
use Prim.Native.Nat.{ℕ, zero, suc, ◌+◌, ◌-◌, ◌*◌, ◌≤◌, ◌<◌, zero-le}
use mathlib.Core.Path.{◌≡◌, refl, sym, ap, ◌∙◌}
use mathlib.Core.List.{List, [], ◌∷◌, ◌++◌, append-nil}
use native.Mathlib.Nat.{sub-zero}
use native.Mathlib.Omega.{arith}
use lib.ListN.{length, drop, set, length-append, length-drop, drop_of_length-le}
use lib.Seq.{drop-drop, drop-cons, append_snoc}
use Rattle.laws.proofs.Tests.{never}
use Rattle.rules.specs.Refusals.{Answer, taken, refused, and_then, settle}
use Rattle.rules.specs.Rows as Rows
use Rattle.rules.specs.Tables as Tables
use Rattle.rules.specs.Frames.{Read}
use Rattle.rules.specs.Files.{read_header, read_row, read_rows, read_last, read_lines, read_file}
use Rattle.rules.specs.declared.refusal.Refused.{Refused}
use Rattle.rules.specs.declared.refusal.Refusal.TheVariants.{Trailing}
use Rattle.rules.proofs.Results.{reply_ok, reply_err, reply_stops}
use Rattle.tables.specs.Views.{pack_row, view_row, pack_rows, pack, view, Formed, table_answer}
use Rattle.tables.specs.Rows.{row_read, rows_read}
use Rattle.tables.specs.Headers.{header_read}
use Rattle.tables.specs.declared.table.Row.{Row}
use Rattle.tables.specs.declared.table.Table.{Table}
use Rattle.tables.proofs.Views.{pack_more, view-pack, packed-formed}
use Rattle.tables.proofs.Rows.{row-taken}
use Rattle.tables.proofs.Headers.{Headed}

-- rows that were read before, and those that are read after them
abbrev resumed : List Rows.Row → Answer (Read (List Rows.Row)) → Answer (Read (List Rows.Row))
resumed done a = and_then a (λ rs. taken (record { got = done ++ rs.got; rest = rs.rest }))

resumed_none : (a : Answer (Read (List Rows.Row))) → resumed [] a ≡ a
resumed_none (taken rs) = refl
resumed_none (refused r l) = refl

resumed_one : (done : List Rows.Row) (r : Rows.Row) (a : Answer (Read (List Rows.Row)))
    → resumed done (and_then a (λ rs. taken (record { got = r ∷ rs.got; rest = rs.rest }))) ≡ resumed (done ++ (r ∷ [])) a
resumed_one done r (taken rs) = rw (append_snoc done r rs.got)
resumed_one done r (refused x l) = refl

-- i rows have been read, and stand at the front of the array; the next one is at a place
pub record ReadingRows (s : List ℕ) (n : ℕ) (rows : List Row) (at i : ℕ) : Type 0 where
  pub within : i ≤ n
  pub inside : at ≤ length s
  pub done : List Rows.Row
  pub counted : length done ≡ i
  pub packed : rows ≡ pack_rows done
  pub same : resumed done (read_rows (i + 2) (n - i) (drop at s)) ≡ read_rows 2 n s

module _ (s : List ℕ) (n : ℕ) where
  -- no row is read yet
  pub rows_start : ReadingRows s n (pack_rows []) 0 0
  rows_start =
      record {
        within = zero-le;
        inside = zero-le;
        done = [];
        counted = refl;
        packed = refl;
        same = rw (sub-zero n) (resumed_none (read_rows 2 n s));
      }

  module _ (rows : List Row) (at i : ℕ) (r : ReadingRows s n rows at i) where
    module _ (l : i < n) where
      abbrev rest : List ℕ
      rest = drop at s

      one_more : read_rows (i + 2) (n - i) rest ≡ read_rows (i + 2) (suc (n - (i + 1))) rest
      one_more = ap (λ (k : ℕ). read_rows (i + 2) k rest) (omega arith)

      -- a row that is refused ends the reading with its refusal
      pub rows_stop : (x : Refused) → row_read (read_row (i + 2) rest) ≡ Err x → Err x ≡ rows_read (read_rows 2 n s)
      unfolding read_rows
      rows_stop x e = rw (← r.same, one_more, reply_err _ (read_row (i + 2) rest) e)

      -- a row that is good is put into the array
      pub rows_go_on : (x : Row) → n ≤ 64 → row_read (read_row (i + 2) rest) ≡ Ok x → ReadingRows s n (set rows i x) (at + 11) (i + 1)
      unfolding read_rows
      rows_go_on x small e =
          let w = row-taken (i + 2) rest x e in
          let behind : drop 11 rest ≡ drop (at + 11) s = drop-drop 11 at s in
          let next_line : (i + 1) + 2 ≡ suc (i + 2) = omega arith in
          let others : Answer (Read (List Rows.Row)) = read_rows (suc (i + 2)) (n - (i + 1)) (drop (at + 11) s) in
          let first : read_rows (i + 2) (n - i) rest ≡ and_then others (λ rs. taken (record { got = view_row x ∷ rs.got; rest = rs.rest })) =
          one_more ∙ rw (w.1, behind)
          in
          record {
            within = omega arith;
            inside = omega (arith, length-drop at s);
            done = r.done ++ (view_row x ∷ []);
            counted = length-append r.done (view_row x ∷ []) ∙ omega arith;
            packed = rw r.packed (pack_more r.done x i r.counted (omega arith));
            same =
                rw next_line (sym (ap (resumed r.done) first ∙ resumed_one r.done (view_row x) others) ∙ r.same);
          }

    -- all rows are read
    pub rows_end : n ≤ i → Ok rows ≡ rows_read (read_rows 2 n s)
    unfolding read_rows
    rows_end l =
        let none : n - i ≡ 0 = omega arith in
        rw (← r.same, none, append-nil, r.packed)

-- ---- what is left after the rows

taken-from : {A B : Type 0} (a : Answer A) {f : A → Answer B} {b : B} → and_then a f ≡ taken b → (x : A) × (a ≡ taken x) × (f x ≡ taken b)
taken-from (taken x) e = (x, refl, e)
taken-from (refused r l) {b = b} e = never cc

taken-same : {A : Type 0} {x y : A} → ◌≡◌ {A = Answer A} (taken x) (taken y) → x ≡ y
taken-same e = cc

-- n rows are n rows, and take 11 bytes each
record Rest (n : ℕ) (s : List ℕ) (rs : Read (List Rows.Row)) : Type 0 where
  many : length rs.got ≡ n
  long : 11 * n ≤ length s
  behind : rs.rest ≡ drop (11 * n) s

rows-rest : (l n : ℕ) (s : List ℕ) (rs : Read (List Rows.Row)) → read_rows l n s ≡ taken rs → Rest n s rs
unfolding read_rows
rows-rest l zero s rs e =
    let same : record { got = []; rest = s } ≡ rs = taken-same e in
    rw (← same) (record { many = refl; long = zero-le; behind = refl })
rows-rest l (suc n) s rs e =
    let one = taken-from (read_row l s) e in
    let others = taken-from (read_rows (suc l) n one.0.rest) one.2 in
    let same : record { got = one.0.got ∷ others.0.got; rest = others.0.rest } ≡ rs = taken-same others.2 in
    let w = row-taken l s (pack_row one.0.got) (ap row_read one.1) in
    let next : one.0.rest ≡ drop 11 s = ap (λ (r : Read Rows.Row). r.rest) (taken-same (sym one.1 ∙ w.1)) in
    let r = rows-rest (suc l) n one.0.rest others.0 others.1 in
    let left : length one.0.rest ≡ length s - 11 = ap length next ∙ length-drop 11 s in
    let ends : 11 + 11 * n ≡ 11 * suc n = omega arith in
    rw (← same)
    (record {
      many = ap suc r.many;
      long = omega (arith, r.long);
      behind = r.behind ∙ ap (drop (11 * n)) next ∙ drop-drop (11 * n) 11 s ∙ ap (λ (k : ℕ). drop k s) ends;
    })

-- ---- the lines of a file

-- the header is refused
pub no_header : (s : List ℕ) (x : Refused) → header_read (read_header s) ≡ Err x → Err x ≡ table_answer (read_lines s)
unfolding read_lines
no_header s x e = rw (reply_err _ (read_header s) e)

module _ (s : List ℕ) (m n : ℕ) (h : Headed s m n) where
  abbrev body : List ℕ
  body = drop 7 s

  after-header : read_lines s ≡ and_then (read_rows 2 n body) (λ rs. read_last (n + 2) rs.rest (record { m = m; rows = rs.got }))
  unfolding read_lines
  after-header = rw h.read (rw (h.first_is, h.second_is))

  -- a row is refused
  pub lines_stop : (x : Refused) → rows_read (read_rows 2 n body) ≡ Err x → Err x ≡ table_answer (read_lines s)
  lines_stop x e = rw after-header (reply_stops pack _ _ (read_rows 2 n body) e)

  -- every row is taken
  module _ (rows : List Row) (e : rows_read (read_rows 2 n body) ≡ Ok rows) where
    found : (rs : Read (List Rows.Row)) × (read_rows 2 n body ≡ taken rs) × (pack_rows rs.got ≡ rows)
    found = reply_ok (λ (r : Read (List Rows.Row)). pack_rows r.got) (read_rows 2 n body) e

    left : Rest n body found.0
    left = rows-rest 2 n body found.0 found.1

    after-rows : read_lines s ≡ read_last (n + 2) (drop (7 + 11 * n) s) (record { m = m; rows = found.0.got })
    after-rows = after-header ∙ rw (found.1, left.behind, drop-drop (11 * n) 7 s)

    -- and bytes follow them
    pub lines-trailing : 7 + 11 * n < length s → Err (record { refusal = Trailing; line = n + 2 }) ≡ table_answer (read_lines s)
    lines-trailing l = rw (after-rows, drop-cons s (7 + 11 * n) 0 l)

    -- and nothing follows them
    pub lines_end : length s ≤ 7 + 11 * n → Ok (record { m = record { 0 = m }; n = record { 0 = n }; rows = rows }) ≡ table_answer (read_lines s)
    unfolding pack
    lines_end l =
        rw (after-rows, drop_of_length-le s l, left.many)
        (ap (λ (r : List Row). Ok (record { m = record { 0 = m }; n = record { 0 = n }; rows = r })) (sym found.2))

-- ---- a whole file

-- the lines are refused
pub file_stops : (s : List ℕ) (x : Refused) → table_answer (read_lines s) ≡ Err x → Err x ≡ table_answer (read_file s)
unfolding read_file
file_stops s x e = reply_stops pack pack _ (read_lines s) e

-- the lines are taken, and the tests of all rows are left
pub file_goes_on : (s : List ℕ) (t : Table) → table_answer (read_lines s) ≡ Ok t
    → Formed t × (table_answer (settle (Tables.whole_tests (view t).rows) (view t)) ≡ table_answer (read_file s))
unfolding read_file
file_goes_on s t e = by_cases (read_lines s) e
  where
    by_cases : (a : Answer Tables.Table) → table_answer a ≡ Ok t → Formed t
        × (table_answer (settle (Tables.whole_tests (view t).rows) (view t)) ≡ table_answer (and_then a (λ tbl. settle (Tables.whole_tests tbl.rows) tbl)))
    by_cases (taken tbl) e =
        let same : pack tbl ≡ t = cc in
        rw (← same) (packed-formed tbl, rw (view-pack tbl))
    by_cases (refused r l) e = never cc
