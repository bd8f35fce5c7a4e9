-- What is returned for a row says of the row that was read.
use Rattle.std.proofs.Common.{◌≡◌, refl, sym, ap, ℕ, ◌≤◌, List, length, drop, Some, None, Ok, Err}
use Rattle.std.proofs.Math.Option.{Option, none, some}
use Rattle.laws.proofs.Tests.{never}
use Rattle.laws.specs.Lists.{at}
use Rattle.rules.specs.Refusals.{Answer, taken, and_then, first}
use Rattle.rules.specs.Results.{option}
use Rattle.rules.specs.Rows as Rules
use Rattle.rules.specs.Tables.{row_tests}
use Rattle.rules.specs.Frames.{Read, row, read_frame}
use Rattle.rules.specs.Files.{at_line, due_at, read_row}
use Rattle.rules.specs.declared.refusal.Refusal.{Refusal}
use Rattle.rules.specs.declared.refusal.Refusal.TheVariants.{BadLine}
use Rattle.rules.proofs.Results.{option_some, option_none, reply_at_line}
use Rattle.tables.specs.Views.{pack_row, view_row}
use Rattle.tables.specs.Pairs.{two_of}
use Rattle.tables.specs.Rows.{test_row, row_answer, row_read}
use Rattle.tables.specs.declared.table.Row.{Row}
use Rattle.tables.proofs.Pairs.{pair_rest}

-- where no frame was read
pub row_missing : (l : ℕ) (s : List ℕ) → option two_of (read_frame row s) ≡ None → Err (record { refusal = BadLine; line = l }) ≡ row_read (read_row l s)
unfolding read_row
row_missing l s e = rw (option_none two_of (read_frame row s) e)

-- where one was
pub row_found : (l : ℕ) (s : List ℕ) (c t : ℕ) → option two_of (read_frame row s) ≡ Some (c, t) → row_answer (test_row c t l) ≡ row_read (read_row l s)
unfolding read_row test_row
row_found l s c t e =
    let w = option_some two_of (read_frame row s) e in
    let ec : at w.0.got 1 ≡ c = ap (λ (p : ℕ × ℕ). p.0) w.2 in
    let et : at w.0.got 2 ≡ t = ap (λ (p : ℕ × ℕ). p.1) w.2 in
    rw (w.1, ec, et) (sym (reply_at_line pack_row (λ (a : Read Rules.Row). a.got) l _ _))

-- a row that is good was taken, and the text goes on after its line
pub row-taken : (l : ℕ) (s : List ℕ) (r : Row) → row_read (read_row l s) ≡ Ok r → (11 ≤ length s) × (read_row l s ≡ taken (record { got = view_row r; rest = drop 11 s }))
unfolding read_row
row-taken l s r e = by_cases (read_frame row s) refl e
  where
    -- the row of a frame's two numbers, with its tests
    tested : Read (List ℕ) → Answer (Read Rules.Row)
    tested a =
        let r : Rules.Row = record { c = at a.got 1; t = at a.got 2 } in
        at_line l (first (row_tests r)) (record { got = r; rest = a.rest })

    by_test : (o : Option Refusal) (x : Read Rules.Row) → x.rest ≡ drop 11 s → row_read (at_line l o x) ≡ Ok r
        → at_line l o x ≡ taken (record { got = view_row r; rest = drop 11 s })
    by_test none x q e =
        let same : pack_row x.got ≡ r = cc in
        rw (← q, ← same)
    by_test (some y) x q e = cc

    by_cases : (o : Option (Read (List ℕ))) → read_frame row s ≡ o → row_read (and_then (due_at l o) tested) ≡ Ok r
        → (11 ≤ length s) × (and_then (due_at l o) tested ≡ taken (record { got = view_row r; rest = drop 11 s }))
    by_cases none q e = never cc
    by_cases (some a) q e =
        let p = pair_rest s 2 4 a q in
        (p.0, by_test (first (row_tests _)) (record { got = record { c = at a.got 1; t = at a.got 2 }; rest = a.rest }) p.1 e)
