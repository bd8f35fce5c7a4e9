-- Each file gets exactly the answer that is told by what it holds.
use Prim.Native.Nat.{ℕ, zero, suc, ◌+◌, ◌-◌, ◌<◌}
use mathlib.Core.Path.{◌≡◌, refl, sym, ap, ◌∙◌, subst}
use mathlib.Core.List.{List, [], ◌∷◌, ◌++◌, map, append_assoc, append-nil}
use mathlib.Core.Logic.{◌⊎◌, inl, inr, ⊎_elim}
use mathlib.Core.Option.{some}
use native.Mathlib.Nat.{zero-add, suc-add}
use native.Mathlib.Omega.{arith}
use lib.Dec.{ltb, lit<}
use lib.ListN.{length}
use borrow.Author.Tests.{ltb-true, ltb-false}
use Rattle.laws.specs.Lists.{join}
use Rattle.laws.proofs.Tests.{decide}
use Rattle.rules.specs.Limits.{cores_min, cores_max, tasks_min, tasks_max, repeat_max}
use Rattle.rules.specs.Refusals.{Answer, taken, refused, and_then, first, settle}
use Rattle.rules.specs.Rows.{Row}
use Rattle.rules.specs.Repeat.{repeat_length}
use Rattle.rules.specs.Tables.{Table, size, header_tests, row_tests, whole_tests}
use Rattle.rules.specs.Frames.{Shape, header, row, frame, Read}
use Rattle.rules.specs.Files.{header_line, row_line, at_line, read_header, read_row, read_rows, read_last, read_lines, read_file}
use Rattle.rules.specs.declared.refusal.Refusal.{Refusal}
use Rattle.rules.specs.declared.refusal.Refusal.TheVariants.{BadLine, BadCores, BadTasks, BadRow, BadRepeat, Trailing}
use Rattle.reading_laws.specs.Frames.{Fits, Begins}
use Rattle.reading_laws.specs.Bounds.{Within, RowInBounds, Every}
use Rattle.reading_laws.specs.Outcomes.{Headed, Begun, Reads, no_header, bad_cores, bad_tasks, no_row, bad_row, trailing, bad_repeat, accepted}
use Rattle.reading_laws.proofs.Frames.{read-frame, read_none, begins?}
use Rattle.reading_laws.proofs.Tests.{passes_none, header-iff, row-iff, whole-iff, within?, row_in_bounds?, refuses_cores, refuses_tasks, refuses_row, refuses_repeat}

-- ---- what lies in bounds fits its field

header-fits : {m n : ℕ} → Within cores_min cores_max m → Within tasks_min tasks_max n → Fits header.widths (m ∷ n ∷ [])
header-fits c t = (omega arith, (omega arith, tt))

row_fits : (r : Row) → RowInBounds r → Fits row.widths (r.c ∷ r.t ∷ [])
row_fits r b = (omega arith, (omega arith, tt))

-- ---- reading the lines of a file whose text is known

header_read_lem : (m n : ℕ) (rest : List ℕ) → Fits header.widths (m ∷ n ∷ []) → read_header (header_line m n ++ rest) ≡ at_line 1 (first (header_tests m n)) (record { got = m ∷ n ∷ []; rest = rest })
unfolding read_header header_line
header_read_lem m n rest fits = rw (read-frame header (m ∷ n ∷ []) rest (lit< tt) fits)

row_read_lem : (l : ℕ) (r : Row) (rest : List ℕ) → Fits row.widths (r.c ∷ r.t ∷ []) → read_row l (row_line r ++ rest) ≡ at_line l (first (row_tests r)) (record { got = r; rest = rest })
unfolding read_row row_line
row_read_lem l r rest fits = rw (read-frame row (r.c ∷ r.t ∷ []) rest (lit< tt) fits)

-- steps one after the other
and_then-taken : {A : Type 0} (x : Answer A) → and_then x taken ≡ x
and_then-taken (taken a) = refl
and_then-taken (refused r l) = refl

and_then_assoc : {A B C : Type 0} (x : Answer A) (f : A → Answer B) (g : B → Answer C) → and_then (and_then x f) g ≡ and_then x (λ a. and_then (f a) g)
and_then_assoc (taken a) f g = refl
and_then_assoc (refused r l) f g = refl

-- rows in their bounds are read, and the reading goes on after them
rows-read : (rows : List Row) (l k : ℕ) (rest : List ℕ) → Every RowInBounds rows
    → read_rows l (length rows + k) (join (map row_line rows) ++ rest)
    ≡ and_then (read_rows (length rows + l) k rest) (λ rs. taken (record { got = rows ++ rs.got; rest = rs.rest }))
unfolding read_rows
rows-read [] l k rest fine = rw (zero-add k, zero-add l) (sym (and_then-taken (read_rows l k rest)))
rows-read (r ∷ rows) l k rest fine =
    let more : List ℕ = join (map row_line rows) ++ rest in
    let line : suc (length rows) + l ≡ length rows + suc l = omega arith in
    rw (suc-add (length rows) k, append_assoc (row_line r) (join (map row_line rows)) rest, row_read_lem l r more (row_fits r fine.0), passes_none (row_tests r) ((row-iff r).1 fine.0))
    (rw (rows-read rows (suc l) k rest fine.1, line) (and_then_assoc (read_rows (length rows + suc l) k rest) _ _))

-- the end of the reading, once the other rows are read or refused
abbrev finished : ℕ → ℕ → List Row → Answer (Read (List Row)) → Answer Table
finished m n rows x = and_then (and_then x (λ rs. read_last (n + 2) rs.rest (record { m = m; rows = rows ++ rs.got }))) (λ tbl. settle (whole_tests tbl.rows) tbl)

-- after a header and rows in their bounds the reading goes on with the other rows
begun_read : {s : List ℕ} {m n : ℕ} {rows : List Row} {rest : List ℕ} → Begun s m n rows rest → (k : ℕ) → n ≡ length rows + k
    → read_file s ≡ finished m n rows (read_rows (length rows + 2) k rest)
unfolding read_file read_lines
begun_read {s} {m} {n} {rows} {rest} b k e =
    let tail : List ℕ = join (map row_line rows) ++ rest in
    let whole : s ≡ header_line m n ++ tail = b.text ∙ append_assoc (header_line m n) (join (map row_line rows)) rest in
    rw (whole, header_read_lem m n tail (header-fits b.cores b.tasks), passes_none (header_tests m n) ((header-iff m n).1 (b.cores, b.tasks)))
    (rw (e, rows-read rows 2 k rest b.fine)
    (ap (λ (x : Answer Table). and_then x (λ tbl. settle (whole_tests tbl.rows) tbl)) (and_then_assoc (read_rows (length rows + 2) k rest) _ _)))

-- a header out of its bounds ends the reading
headed_read : {s : List ℕ} {m n : ℕ} {rest : List ℕ} (r : Refusal) → Headed s m n rest → first (header_tests m n) ≡ some r → read_file s ≡ refused r 1
unfolding read_file read_lines
headed_read {m} {n} {rest} r h e = rw (h.text, header_read_lem m n rest h.fits, e)

-- a row that is refused ends the reading
stopped_read : {s : List ℕ} {m n : ℕ} {rows : List Row} {rest : List ℕ} (r : Refusal) → Begun s m n rows rest → length rows < n
    → read_row (length rows + 2) rest ≡ refused r (length rows + 2) → read_file s ≡ refused r (length rows + 2)
unfolding read_rows
stopped_read {n} {rows} r b l e = begun_read b (suc (n - suc (length rows))) (omega arith) ∙ rw e

-- after n rows nothing may follow, and then the tests of all rows together count
complete_read : {s : List ℕ} {rest : List ℕ} (tbl : Table) → Begun s tbl.m (size tbl) tbl.rows rest
    → read_file s ≡ and_then (read_last (size tbl + 2) rest tbl) (λ t. settle (whole_tests t.rows) t)
unfolding read_rows
complete_read tbl b = begun_read b 0 (omega arith) ∙ rw (append-nil tbl.rows)

-- the answer that is told by what a file holds is the one that reading gives
pub settled : (s : List ℕ) (a : Answer Table) → Reads s a → a ≡ read_file s
unfolding read_file read_lines read_header read_row
settled s a (no_header n) = rw (read_none header s n)
settled s a (bad_cores {m} {n} h c) = sym (headed_read BadCores h (refuses_cores m n c))
settled s a (bad_tasks {m} {n} h c t) = sym (headed_read BadTasks h (refuses_tasks m n c t))
settled s a (no_row {rest = rest} b l n) = sym (stopped_read BadLine b l (rw (read_none row rest n)))
settled s a (bad_row {rows = rows} r rest b l fits bad) = sym (stopped_read BadRow b l (row_read_lem (length rows + 2) r rest fits ∙ rw (refuses_row r bad)))
settled s a (trailing tbl b) = sym (complete_read tbl b)
settled s a (bad_repeat tbl b h) = sym (complete_read tbl b ∙ rw (refuses_repeat tbl.rows h))
settled s a (accepted tbl b h) = sym (complete_read tbl b ∙ rw (passes_none (whole_tests tbl.rows) ((whole-iff tbl.rows).1 h)))

-- ---- every file has its answer told

abbrev Told : List ℕ → Type 0
Told s = (a : Answer Table) × Reads s a

-- a frame of two numbers comes first
record TwoFirst (sh : Shape) (s : List ℕ) : Type 0 where
  a : ℕ
  b : ℕ
  rest : List ℕ
  fits : Fits sh.widths (a ∷ b ∷ [])
  text : s ≡ frame sh (a ∷ b ∷ []) ++ rest

two_first : (sh : Shape) (w v : ℕ) (s : List ℕ) → sh.widths ≡ w ∷ v ∷ [] → Begins sh s → TwoFirst sh s
two_first sh w v s e h = by_cases h.numbers (rw e at h.fits) h.fits h.text
  where
    by_cases : (ns : List ℕ) → Fits (w ∷ v ∷ []) ns → Fits sh.widths ns → s ≡ frame sh ns ++ h.rest → TwoFirst sh s
    by_cases [] f g t = absurd f
    by_cases (a ∷ []) f g t = absurd f.1
    by_cases (a ∷ b ∷ []) f g t = record { a = a; b = b; rest = h.rest; fits = g; text = t }
    by_cases (a ∷ b ∷ c ∷ ns) f g t = absurd f.1.1

-- a row comes first
record RowFirst (s : List ℕ) : Type 0 where
  r : Row
  rest : List ℕ
  fits : Fits row.widths (r.c ∷ r.t ∷ [])
  text : s ≡ row_line r ++ rest

begins_row : (s : List ℕ) → Begins row s → RowFirst s
unfolding row_line
begins_row s h =
    let t = two_first row 4 4 s refl h in
    record { r = record { c = t.a; t = t.b }; rest = t.rest; fits = t.fits; text = t.text }

-- the reading of rows stops: no row comes first, or one that is out of its bounds
abbrev Stops : List ℕ → Type 0
Stops s = (¬ Begins row s) ⊎ ((f : RowFirst s) × (¬ RowInBounds f.r))

-- the rows in their bounds with which a text begins, up to n of them
record Front (n : ℕ) (s : List ℕ) : Type 0 where
  rows : List Row
  rest : List ℕ
  fine : Every RowInBounds rows
  text : s ≡ join (map row_line rows) ++ rest
  ends : (length rows ≡ n) ⊎ ((length rows < n) × Stops rest)

-- none of them
stop : (n : ℕ) (s : List ℕ) → Stops s → Front (suc n) s
stop n s x = record { rows = []; rest = s; fine = tt; text = refl; ends = inr (omega arith, x) }

-- one more of them
more : {n : ℕ} {s : List ℕ} (f : RowFirst s) → RowInBounds f.r → Front n f.rest → Front (suc n) s
more f b t =
    record {
      rows = f.r ∷ t.rows;
      rest = t.rest;
      fine = (b, t.fine);
      text =
          f.text ∙ ap (λ (x : List ℕ). row_line f.r ++ x) t.text ∙ sym (append_assoc (row_line f.r) (join (map row_line t.rows)) t.rest);
      ends = ⊎_elim (λ e. inl (ap suc e)) (λ w. inr (omega arith, w.1)) t.ends;
    }

front : (n : ℕ) (s : List ℕ) → Front n s
front zero s = record { rows = []; rest = s; fine = tt; text = refl; ends = inl refl }
front (suc n) s =
    ⊎_elim (λ h.
    let f = begins_row s h in
    ⊎_elim (λ b. more f b (front n f.rest)) (λ b. stop n s (inr (f, b))) (row_in_bounds? f.r))
    (λ h. stop n s (inl h))
    (begins? row (lit< tt) s)

-- the answer after n rows
told_complete : {s : List ℕ} (rest : List ℕ) (tbl : Table) → Begun s tbl.m (size tbl) tbl.rows rest → Told s
told_complete [] tbl b =
    let h : ℕ = repeat_length tbl.rows in
    ⊎_elim (λ e. (refused BadRepeat 0, bad_repeat tbl b (ltb-true repeat_max h e)))
    (λ e. (taken tbl, accepted tbl b (ltb-false repeat_max h e)))
    (decide (ltb repeat_max h))
told_complete (x ∷ xs) tbl b = (refused Trailing (size tbl + 2), trailing tbl b)

-- the answer where fewer rows are read
told_stopped : {s : List ℕ} {m n : ℕ} {rows : List Row} {rest : List ℕ} → Begun s m n rows rest → length rows < n → Stops rest → Told s
told_stopped {rows = rows} b l (inl h) = (refused BadLine (length rows + 2), no_row b l h)
told_stopped {s} {m} {n} {rows} b l (inr w) =
    (refused BadRow (length rows + 2), bad_row w.0.r w.0.rest (subst (Begun s m n rows) w.0.text b) l w.0.fits w.1)

-- a header in its bounds and rows in theirs
headed_begun : {s : List ℕ} {m n : ℕ} {rest : List ℕ} → Headed s m n rest → Within cores_min cores_max m → Within tasks_min tasks_max n
    → (f : Front n rest) → Begun s m n f.rows f.rest
headed_begun {m} {n} h c t f =
    let line : List ℕ = header_line m n in
    let lines : List ℕ = join (map row_line f.rows) in
    record {
      cores = c;
      tasks = t;
      fine = f.fine;
      text = h.text ∙ ap (λ (x : List ℕ). line ++ x) f.text ∙ sym (append_assoc line lines f.rest);
    }

-- the answer after a header in its bounds
told_begun : {s : List ℕ} {m n : ℕ} {rest : List ℕ} → Headed s m n rest → Within cores_min cores_max m → Within tasks_min tasks_max n → Told s
told_begun {s} {m} {n} {rest} h c t =
    let f = front n rest in
    let b = headed_begun h c t f in
    ⊎_elim (λ e. told_complete f.rest (record { m = m; rows = f.rows }) (subst (λ (k : ℕ). Begun s m k f.rows f.rest) (sym e) b))
    (λ w. told_stopped b w.0 w.1)
    f.ends

-- the answer after a header
told_headed : {s : List ℕ} {m n : ℕ} {rest : List ℕ} → Headed s m n rest → Told s
told_headed {m} {n} h =
    ⊎_elim (λ c.
    ⊎_elim (told_begun h c) (λ b. (refused BadTasks 1, bad_tasks h c b)) (within? tasks_min tasks_max n))
    (λ b. (refused BadCores 1, bad_cores h b))
    (within? cores_min cores_max m)

told : (s : List ℕ) → Told s
unfolding header_line
told s =
    ⊎_elim (λ b.
    let t = two_first header 2 2 s refl b in
    told_headed {m = t.a} {n = t.b} {rest = t.rest} (record { fits = t.fits; text = t.text }))
    (λ n. (refused BadLine 1, no_header n))
    (begins? header (lit< tt) s)

-- every file is read as what it holds tells
pub reads : (s : List ℕ) → Reads s (read_file s)
reads s = subst (Reads s) (settled s (told s).0 (told s).1) (told s).1

-- no file has two answers
pub one_answer : {s : List ℕ} {a b : Answer Table} → Reads s a → Reads s b → a ≡ b
one_answer {s} {a} {b} x y = settled s a x ∙ sym (settled s b y)
