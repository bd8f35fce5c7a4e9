-- Table files: reading inverts writing, both ways, and how long a file is.
use Prim.Native.Nat.{ℕ, ◌+◌, ◌*◌, ◌≤◌}
use mathlib.Core.Path.{◌≡◌, refl, sym, ap, ◌∙◌, subst}
use mathlib.Core.List.{List, [], ◌∷◌, map, append-nil}
use native.Mathlib.Omega.{arith}
use lib.Dec.{T}
use lib.ListN.{length, length-append}
use Rattle.laws.specs.Lists.{join}
use Rattle.rules.specs.Refusals.{taken}
use Rattle.rules.specs.Rows.{Row}
use Rattle.rules.specs.Tables.{Table, size, accepts}
use Rattle.rules.specs.Frames.{header, row}
use Rattle.rules.specs.Files.{header_line, row_line, text, read_file}
use Rattle.reading_laws.specs.Bounds.{TableInBounds}
use Rattle.reading_laws.specs.Outcomes.{Begun, Reads, accepted}
use Rattle.reading_laws.proofs.Frames.{length-frame}
use Rattle.reading_laws.proofs.Tests.{accepts-iff}
use Rattle.reading_laws.proofs.Outcomes.{settled, reads}

-- ---- reading inverts writing

-- the lines of the text written for a table in its bounds
written-lines : (tbl : Table) → TableInBounds tbl → Begun (text tbl) tbl.m (size tbl) tbl.rows []
unfolding text
written-lines tbl b = record { cores = b.cores; tasks = b.tasks; fine = b.fine; text = sym (append-nil (text tbl)) }

-- the text written for an accepted table is read as that table
pub read-written : (tbl : Table) → T (accepts tbl) → read_file (text tbl) ≡ taken tbl
read-written tbl t =
    let b = (accepts-iff tbl).0 t in
    sym (settled (text tbl) (taken tbl) (accepted tbl (written-lines tbl b) b.repeat))

accepted-text : {s : List ℕ} {tbl : Table} → Reads s (taken tbl) → (s ≡ text tbl) × T (accepts tbl)
unfolding text
accepted-text (accepted tbl b h) =
    (b.text ∙ append-nil (text tbl), (accepts-iff tbl).1 (record { cores = b.cores; tasks = b.tasks; fine = b.fine; repeat = h }))

-- an accepted file is the very text written for its table, and the table is accepted
pub written_read : (s : List ℕ) (tbl : Table) → read_file s ≡ taken tbl → (s ≡ text tbl) × T (accepts tbl)
written_read s tbl e = accepted-text (subst (Reads s) e (reads s))

-- ---- how long a file is

-- 11 bytes for each row
pub length-rows : (rows : List Row) → length (join (map row_line rows)) ≡ 11 * length rows
unfolding row_line
length-rows [] = refl
length-rows (r ∷ rows) =
    omega (arith, length-append (row_line r) (join (map row_line rows)), length-frame row (r.c ∷ r.t ∷ []) refl, length-rows rows)

-- and a header's 7 bytes
pub length-text : (tbl : Table) → length (text tbl) ≡ 7 + 11 * size tbl
unfolding text header_line
length-text tbl =
    omega (arith, length-append (header_line tbl.m (size tbl)) (join (map row_line tbl.rows)), length-frame header (tbl.m ∷ size tbl ∷ []) refl, length-rows tbl.rows)

-- no accepted file is longer than 711 bytes
pub accepted_short : (s : List ℕ) (tbl : Table) → read_file s ≡ taken tbl → length s ≤ 711
accepted_short s tbl e =
    let w = written_read s tbl e in
    omega (arith, ap length w.0, length-text tbl, ((accepts-iff tbl).0 w.1).tasks.most)
