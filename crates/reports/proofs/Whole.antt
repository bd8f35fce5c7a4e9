-- The text of an accepted table, all of it: its head, and then the slots and the totals.
use Prim.Native.Nat.{ℕ, ◌+◌, ◌-◌, ◌≤◌}
use mathlib.Core.Path.{◌≡◌, sym, ap, ◌∙◌}
use mathlib.Core.List.{List, ◌++◌, append_assoc}
use native.Mathlib.Omega.{arith}
use borrow.Rule.Slice.PartMut.{mid_of, put_mid}
use lib.ListN.{length, drop, length-append}
use Rattle.rules.specs.Tables as Rules
use Rattle.rules.specs.States.{fresh}
use Rattle.rules.specs.Runs.{after, slot_lines, totals_line}
use Rattle.rules.specs.Program.{report}
use Rattle.tables.specs.Views.{view}
use Rattle.tables.specs.declared.table.Table.{Table}
use Rattle.reading_laws.proofs.Laying.{Laid, first, more, laid-front}
use Rattle.machine.specs.Tables.{Opened}
use Rattle.reports.specs.Heads.{head, head_length}
use Rattle.reports.specs.Texts.{slots_of, run_lines, run_length, report_length}
use Rattle.reports.proofs.Heads.{length-head}
use Rattle.reports.proofs.Texts.{length-run_lines}

-- the head, and then the slots and the totals
report_parts : (tbl : Rules.Table) → head tbl ++ run_lines tbl (slots_of tbl) ≡ report tbl
unfolding report
report_parts tbl = sym (append_assoc (head tbl) (slot_lines (slots_of tbl) (fresh tbl)) (totals_line (after (slots_of tbl) (fresh tbl))))

pub length-report : (tbl : Rules.Table) → length (report tbl) ≡ report_length tbl
length-report tbl =
    ap length (sym (report_parts tbl))
    ∙ length-append (head tbl) (run_lines tbl (slots_of tbl))
    ∙ omega (arith, length-head tbl, length-run_lines tbl (slots_of tbl))

-- ---- in a buffer

-- the head stands at the front, and the slots and the totals go through the lent tail
module _ (t : Table) (o : Opened t) (out : List ℕ) (room : report_length (view t) ≤ length out) {at count : ℕ} (begins : at ≡ head_length (view t)) (many : count ≡ slots_of (view t)) {out' : List ℕ} (headed : out' ≡ head (view t) ++ drop (head_length (view t)) out) where
  abbrev tbl : Rules.Table
  tbl = view t

  all : at + run_length tbl.m count ≡ report_length tbl
  all = rw (begins, many)

  -- and they come right after it
  pub report-written : {tail : List ℕ} → tail ≡ run_lines tbl count ++ drop (run_length tbl.m count) (mid_of at (length out' - at) out')
      → put_mid at (length out' - at) out' tail ≡ report tbl ++ drop (report_length tbl) out
  report-written e =
      let one : Laid out (head tbl) out' at = first out (head tbl) at (length-head tbl ∙ sym begins) (headed ∙ ap (λ (k : ℕ). head tbl ++ drop k out) (sym begins)) in
      let two = more out one (run_lines tbl count) (run_length tbl.m count) (length-run_lines tbl count) (omega (arith, all)) e in
      laid-front out two (report_length tbl) all
      ∙ ap (λ (k : ℕ). head tbl ++ run_lines tbl k ++ drop (report_length tbl) out) many
      ∙ ap (λ (l : List ℕ). l ++ drop (report_length tbl) out) (report_parts tbl)
