-- The two round trips, of the definitions and then of what the functions' contracts permit.
use Rattle.std.proofs.Common.{Result, Ok, Err}
use Prim.Native.Nat.{ℕ, ◌+◌, ◌≤◌}
use mathlib.Core.Path.{◌≡◌, refl, sym, ap, ap₂, ◌∙◌}
use mathlib.Core.Bool.{true, not, ◌&&◌}
use mathlib.Core.List.{List, [], ◌∷◌, ◌++◌}
use lib.Dec.{T, ltb, nltb→le}
use lib.ListN.{length, take, drop}
use Rattle.rules.specs.Refusals.{Test, Answer, taken, refused, passes}
use Rattle.rules.specs.Rows as Rules
use Rattle.laws.proofs.Tests.{and_left, and_right}
use Rattle.rules.specs.Tables as Tables
use Rattle.rules.specs.Tables.{list_tests, accepts}
use Rattle.rules.specs.Files.{text, read_file}
use Rattle.rules.specs.Answers.{lay, room_test, write_list}
use Rattle.reading_laws.proofs.Tests.{passes_append, settle-taken}
use Rattle.reading_laws.proofs.Files.{read-written, written_read}
use Rattle.rules.specs.declared.refusal.Refusal.{Refusal}
use Rattle.tables.specs.Views.{pack, view, table_answer}
use Rattle.tables.specs.Lists.{list_rows}
use Rattle.tables.specs.Writes.{Wrote, made, wrote, written_list}
use Rattle.tables.specs.declared.table.Table.{Table}
use Rattle.tables.proofs.Views.{view-pack}
use Rattle.tables.proofs.Written.{text-laid}
use Rattle.tables.proofs.Writes.{list_written}
use Rattle.reading_laws.proofs.Lays.{lay-holds}
use Rattle.tables.proofs.file.read_file.Reads as read-file
use Rattle.tables.proofs.write.write_list.Reads as write-list

-- what was written is read as the same table
pub read_what_was_written : (m : ℕ) (rows : List Rules.Row) (out : List ℕ) (place k : ℕ) (buffer : List ℕ)
    → made (Ok k) buffer ≡ written_list m rows out place
    → table_answer (read_file (take k (drop place buffer))) ≡ Ok (pack (record { m = m; rows = rows }))
unfolding written_list write_list wrote room_test accepts
read_what_was_written m rows out place k buffer e = by_cases (write_list m rows out place) refl e
  where
    tbl : Tables.Table
    tbl = record { m = m; rows = rows }

    file : List ℕ
    file = text tbl

    room : List Test
    room = room_test out place (length file) ∷ []

    by_cases : (a : Answer (List ℕ)) → write_list m rows out place ≡ a → made (Ok k) buffer ≡ wrote (length file) out a
        → table_answer (read_file (take k (drop place buffer))) ≡ Ok (pack tbl)
    by_cases (taken b) p q =
        let same : buffer ≡ b = ap (λ (w : Wrote). w.out) q in
        let answer : ◌≡◌ {A = Result ℕ Refusal} (Ok k) (Ok (length file)) = ap (λ (w : Wrote). w.answer) q in
        let size : k ≡ length file = cc in
        let settled = settle-taken (list_tests m rows ++ room) (lay out place file) b p in
        let both : T (passes (list_tests m rows) && passes room) = rw passes_append at settled.0 in
        let fine : T (accepts tbl) = and_left (passes (list_tests m rows)) (passes room) both in
        let space = and_right (passes (list_tests m rows)) (passes room) both in
        let fits : place + length file ≤ length out =
        nltb→le (length out) (place + length file) (and_left (not (ltb (length out) (place + length file))) true space)
        in
        rw (same, ← settled.1, size, lay-holds out place file fits, read-written tbl fine)
    by_cases (refused r l) p q =
        let answer : ◌≡◌ {A = Result ℕ Refusal} (Ok k) (Err r) = ap (λ (w : Wrote). w.answer) q in
        cc

-- what was read is written as the very same bytes
pub write_what_was_read : (s : List ℕ) (t : Table) → Ok t ≡ table_answer (read_file s)
    → (out : List ℕ) (place : ℕ) → place + length s ≤ length out
    → written_list (view t).m (view t).rows out place ≡ made (Ok (length s)) (lay out place s)
unfolding written_list write_list wrote room_test accepts
write_what_was_read s t e out place fits = by_cases (read_file s) refl e
  where
    by_cases : (a : Answer Tables.Table) → read_file s ≡ a → Ok t ≡ table_answer a
        → written_list (view t).m (view t).rows out place ≡ made (Ok (length s)) (lay out place s)
    by_cases (taken tbl) p q =
        let same : t ≡ pack tbl = cc in
        let says : view t ≡ tbl = ap view same ∙ view-pack tbl in
        let w = written_read s tbl p in
        ap (λ (x : Tables.Table). written_list x.m x.rows out place) says
        ∙ sym (list_written tbl.m tbl.rows w.1 out place)
        ∙ text-laid out place (text tbl) (length s) (ap length (sym w.0)) fits
        ∙ ap (λ (l : List ℕ). made (Ok (length s)) (lay out place l)) (sym w.0)
    by_cases (refused r l) p q = cc

-- ---- of any outcome that the contracts permit

-- Of `write_list`, a holds m, the list, the buffer and the place, in this order, and s the buffer at exit; of `read_file`, b holds
-- the file.

-- where `write_list` answered k bytes, `read_file` on those bytes answers the table of the list
pub write_then_read : (κs : _) (a : _) (r : _) (s : _) → write-list.Post κs a r s
    → (k : ℕ) → r ≡ Ok k
    → (ιs : _) (b : _) (x : _) (e : _) → read-file.Post ιs b x e
    → b.0.now ≡ take k (drop a.1.1.1.0 s.1.1.0.now)
    → x ≡ Ok (pack (record { m = a.0; rows = list_rows a.1.0.now }))
write_then_read κs a r s wrote k answered ιs b x e read bytes =
    read
    ∙ ap (λ (t : List ℕ). table_answer (read_file t)) bytes
    ∙ read_what_was_written a.0 (list_rows a.1.0.now) a.1.1.0.now a.1.1.1.0 k s.1.1.0.now
    (ap (λ (w : Result ℕ Refusal). made w s.1.1.0.now) (sym answered) ∙ wrote)

-- where `read_file` took a table, `write_list` of its m and rows into a buffer with room writes the very bytes of the file
pub read_then_write : (ιs : _) (b : _) (x : _) (e : _) → read-file.Post ιs b x e
    → (t : Table) → x ≡ Ok t
    → (κs : _) (a : _) (r : _) (s : _) → write-list.Post κs a r s
    → a.0 ≡ (view t).m → list_rows a.1.0.now ≡ (view t).rows
    → a.1.1.1.0 + length b.0.now ≤ length a.1.1.0.now
    → made r s.1.1.0.now ≡ made (Ok (length b.0.now)) (lay a.1.1.0.now a.1.1.1.0 b.0.now)
read_then_write ιs b x e read t took κs a r s wrote same_m same_rows room =
    wrote
    ∙ ap₂ (λ (m : ℕ) (rows : List Rules.Row). written_list m rows a.1.1.0.now a.1.1.1.0) same_m same_rows
    ∙ write_what_was_read b.0.now t (sym took ∙ read) a.1.1.0.now a.1.1.1.0 room
