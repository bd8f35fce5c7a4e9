-- Writing a table's text line by line, each line through the lent tail.
use Rattle.std.proofs.Common.{Ok, Err}
use Prim.Native.Nat.{ℕ, ◌+◌, ◌-◌, ◌*◌, ◌≤◌, ◌<◌}
use mathlib.Core.Path.{◌≡◌, refl, sym, ap, ◌∙◌}
use mathlib.Core.List.{List, [], ◌∷◌, ◌++◌, map, map-append}
use native.Mathlib.Numerals.{add-one}
use native.Mathlib.Omega.{arith}
use borrow.Rule.Slice.PartMut.{mid_of, put_mid}
use lib.Dec.{T}
use lib.ListN.{length, get_or, take, drop, length-map, get_or-map}
use lib.Seq.{take-suc, take_all}
use Rattle.laws.specs.Lists.{join}
use Rattle.laws.proofs.Joins.{join_last}
use Rattle.rules.specs.Rows as Rules
use Rattle.rules.specs.Tables as Tables
use Rattle.rules.specs.Tables.{no_row, list_tests, take_list, accepts}
use Rattle.rules.specs.Frames.{frame}
use Rattle.rules.specs.Files.{header_line, row_line, text}
use Rattle.rules.specs.Answers.{write_list}
use Rattle.rules.specs.Refusals.{passes}
use Rattle.rules.specs.Results.{room_reply}
use Rattle.rules.specs.declared.refusal.Refusal.{Refusal}
use Rattle.rules.specs.declared.refusal.Refused.{Refused}
use Rattle.rules.proofs.Results.{reply_ok, reply_err}
use Rattle.reading_laws.proofs.Files.{length-rows, length-text}
use Rattle.reading_laws.proofs.Tests.{first_passed, first_stays, settle-taken, settle-refused, accepts-iff}
use Rattle.tables.specs.Views.{zero_row, view_row, pack, view, table_answer}
use Rattle.tables.specs.Pairs.{pair_shape}
use Rattle.tables.specs.Writes.{made, wrote, wrote_text, written_list}
use Rattle.tables.specs.declared.table.Row.{Row}
use Rattle.tables.specs.declared.table.Table.{Table}
use Rattle.tables.proofs.Written.{text_short, text-written}
use Rattle.reading_laws.proofs.Laying.{first, more, laid-front, Pieces, next_piece, all_pieces}
use Rattle.tables.proofs.Pairs.{length_pair}

-- the lines of the first rows
abbrev pub first_lines : List Rules.Row → ℕ → List ℕ
first_lines rows i = join (map row_line (take i rows))

-- one more line
more_lines : (rows : List Rules.Row) (i : ℕ) → i < length rows → first_lines rows (i + 1) ≡ first_lines rows i ++ row_line (get_or rows i no_row)
more_lines rows i l =
    let r : Rules.Row = get_or rows i no_row in
    rw (add-one i, take-suc rows i no_row l, map-append row_line (take i rows) (r ∷ [])) (join_last (map row_line (take i rows)) (row_line r))

-- the lines of the first i rows that are lent stand at the front
abbrev pub Lines : List Row → List ℕ → List ℕ → ℕ → ℕ → Type 0
Lines lent out₀ out at i = Pieces (first_lines (map view_row lent)) 11 (length (map view_row lent)) out₀ out at i

module _ (lent : List Row) {out₀ out : List ℕ} {at i : ℕ} (p : Lines lent out₀ out at i) where
  abbrev rows : List Rules.Row
  rows = map view_row lent

  module _ (l : i < length lent) where
    in_rows : i < length rows
    in_rows = omega (arith, length-map lent view_row)

    -- one more line is written through the lent tail
    pub next-line : {tail : List ℕ} → tail ≡ frame (pair_shape 2 4) ((get_or lent i zero_row).c ∷ (get_or lent i zero_row).t ∷ []) ++ drop 11 (mid_of at (length out - at) out)
        → Lines lent out₀ (put_mid at (length out - at) out tail) (at + 11) (i + 1)
    unfolding row_line
    next-line e =
        let c : ℕ = (get_or lent i zero_row).c in
        let d : ℕ = (get_or lent i zero_row).t in
        next_piece p in_rows (frame (pair_shape 2 4) (c ∷ d ∷ [])) (length_pair 2 4 c d) (more_lines rows i in_rows ∙ ap (λ (r : Rules.Row). first_lines rows i ++ row_line r) (get_or-map view_row lent i zero_row)) e

  -- all lines are written
  pub lines-written : length lent ≤ i → out ≡ join (map row_line rows) ++ drop (11 * length rows) out₀
  lines-written l =
      let all : length rows ≤ i = omega (arith, length-map lent view_row) in
      all_pieces p all ∙ ap (λ (x : List Rules.Row). join (map row_line x) ++ drop (11 * length rows) out₀) (take_all (length rows) rows (omega arith))

-- ---- a whole table

-- the header, and the lines of the rows right after it
module _ (out : List ℕ) (t : Table) (room : 7 + 11 * length (view t).rows ≤ length out)
    (n : ℕ) (counted : n ≡ length (view t).rows) (out₁ tail : List ℕ)
    (head-is : out₁ ≡ frame (pair_shape 1 2) (t.m.0 ∷ n ∷ []) ++ drop 7 out)
    (rest-is : tail ≡ join (map row_line (view t).rows) ++ drop (11 * length (view t).rows) (take (length out₁ - 7) (drop 7 out₁))) where
  -- the text of the table stands at the front, and nothing after it differs
  pub table-written : put_mid 7 (length out₁ - 7) out₁ tail ≡ text (view t) ++ drop (7 + 11 * length (view t).rows) out
  unfolding text header_line view
  table-written =
      let n₁ : ℕ = length (view t).rows in
      let top : List ℕ = frame (pair_shape 1 2) (t.m.0 ∷ n ∷ []) in
      let lines : List ℕ = join (map row_line (view t).rows) in
      let both = more out (first out top 7 (length_pair 1 2 t.m.0 n) head-is) lines (11 * n₁) (length-rows (view t).rows) room rest-is in
      let whole : top ++ lines ≡ text (view t) = rw counted in
      laid-front out both (7 + 11 * n₁) refl ∙ ap (λ (l : List ℕ). l ++ drop (7 + 11 * n₁) out) whole

-- ---- a list, with its tests

module _ (m : ℕ) (rows : List Rules.Row) where
  abbrev tbl : Tables.Table
  tbl = record { m = m; rows = rows }

  -- a list that is refused
  pub list_refused : (out : List ℕ) (place : ℕ) (x : Refused) → table_answer (take_list m rows) ≡ Err x → made (Err x.refusal) out ≡ written_list m rows out place
  unfolding take_list written_list write_list wrote
  list_refused out place x e =
      rw (first_stays (list_tests m rows) _ x.refusal (settle-refused (list_tests m rows) tbl (reply_err pack (take_list m rows) e)))

  -- the text of one that passes is written, where there is room
  pub list_written : T (passes (list_tests m rows)) → (out : List ℕ) (place : ℕ) → wrote_text out place (text tbl) ≡ written_list m rows out place
  unfolding wrote_text written_list write_list
  list_written fine out place = rw (first_passed (list_tests m rows) _ fine)

  -- a list that is taken
  module _ (t : Table) (e : table_answer (take_list m rows) ≡ Ok t) where
    passed : T (passes (list_tests m rows)) × (pack tbl ≡ t)
    unfolding take_list
    passed =
        let found = reply_ok pack (take_list m rows) e in
        let settled = settle-taken (list_tests m rows) tbl found.0 found.1 in
        (settled.0, ap pack settled.1 ∙ found.2)

    -- the struct of the table
    pub taken-table : t ≡ pack tbl
    taken-table = sym passed.1

    -- it has at most 64 rows
    pub taken-few : length rows ≤ 64
    unfolding accepts
    taken-few = ((accepts-iff tbl).0 passed.0).tasks.most

    module _ (out : List ℕ) (place : ℕ) where
      -- there is no room for the text
      pub no_room : {r : Refusal} → room_reply (length out) place (7 + 11 * length rows) ≡ Err r → made (Err r) out ≡ written_list m rows out place
      no_room l = text_short out place (text tbl) (7 + 11 * length rows) (length-text tbl) l ∙ list_written passed.0 out place

      -- there is room, and the text is laid from the place on
      pub room_given : {u : Unit {0}} (tail : List ℕ) → room_reply (length out) place (7 + 11 * length rows) ≡ Ok u
          → tail ≡ text tbl ++ drop (7 + 11 * length rows) (mid_of place (length out - place) out)
          → made (Ok (7 + 11 * length rows)) (put_mid place (length out - place) out tail) ≡ written_list m rows out place
      room_given tail l e = text-written out place (text tbl) (7 + 11 * length rows) (length-text tbl) l tail e ∙ list_written passed.0 out place
