-- Table files: written, and read line by line. The header: 1, 2, 3; each row: 1, then 4; then 6; then 5.
use Rattle.std.specs.Prelude.{ℕ, zero, suc, ◌+◌, List, [], ◌∷◌, ◌++◌, map}
use Rattle.std.proofs.Math.Option.{Option, none, some}
use Rattle.laws.specs.Lists.{join, at}
use Rattle.rules.specs.Refusals.{Answer, taken, refused, and_then, first, settle}
use Rattle.rules.specs.Rows.{Row}
use Rattle.rules.specs.Tables.{Table, size, header_tests, row_tests, whole_tests}
use Rattle.rules.specs.Frames.{header, row, frame, Read, read_frame}
use Rattle.rules.specs.declared.refusal.Refusal.{Refusal}
use Rattle.rules.specs.declared.refusal.Refusal.TheVariants.{BadLine, Trailing}

-- `01`, m, n
unfoldable pub header_line : ℕ → ℕ → List ℕ
header_line m n = frame header (m ∷ n ∷ [])

-- `02`, C, T
unfoldable pub row_line : Row → List ℕ
row_line r = frame row (r.c ∷ r.t ∷ [])

-- the text written for a table
unfoldable pub text : Table → List ℕ
text tbl = header_line tbl.m (size tbl) ++ join (map row_line tbl.rows)

-- refused at a line, or taken
abbrev pub at_line : {A : Type 0} → ℕ → Option Refusal → A → Answer A
at_line l none a = taken a
at_line l (some r) a = refused r l

-- the frame due at a line
abbrev pub due_at : {A : Type 0} → ℕ → Option A → Answer A
due_at l none = refused BadLine l
due_at l (some a) = taken a

-- the header's m and n, and what follows it
unfoldable pub read_header : List ℕ → Answer (Read (List ℕ))
read_header s =
    and_then (due_at 1 (read_frame header s)) (λ h.
    at_line 1 (first (header_tests (at h.got 1) (at h.got 2))) h)

-- the row at a line, and what follows it
unfoldable pub read_row : ℕ → List ℕ → Answer (Read Row)
read_row l s =
    and_then (due_at l (read_frame row s)) (λ a.
    let r : Row = record { c = at a.got 1; t = at a.got 2 } in
    at_line l (first (row_tests r)) (record { got = r; rest = a.rest }))

-- n rows from a line on
unfoldable pub read_rows : ℕ → ℕ → List ℕ → Answer (Read (List Row))
read_rows l zero s = taken (record { got = []; rest = s })
read_rows l (suc n) s =
    and_then (read_row l s) (λ r.
    and_then (read_rows (suc l) n r.rest) (λ rs.
    taken (record { got = r.got ∷ rs.got; rest = rs.rest })))

-- nothing follows
abbrev pub read_last : {A : Type 0} → ℕ → List ℕ → A → Answer A
read_last l [] a = taken a
read_last l (b ∷ bs) a = refused Trailing l

-- the lines, up to refusal 6
unfoldable pub read_lines : List ℕ → Answer Table
read_lines s =
    and_then (read_header s) (λ h.
    let m : ℕ = at h.got 1 in
    let n : ℕ = at h.got 2 in
    and_then (read_rows 2 n h.rest) (λ rs.
    read_last (n + 2) rs.rest (record { m = m; rows = rs.got })))

-- a whole file: the lines, then the tests of all rows together, at line 0
unfoldable pub read_file : List ℕ → Answer Table
read_file s = and_then (read_lines s) (λ tbl. settle (whole_tests tbl.rows) tbl)
