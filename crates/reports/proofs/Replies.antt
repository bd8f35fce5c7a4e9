-- The text for an answer of the reader.
use Rattle.std.proofs.Common.{Result, Ok, Err}
use Prim.Native.Nat.{ℕ, ◌≤◌}
use mathlib.Core.Path.{◌≡◌, refl, sym, ap, ◌∙◌, subst}
use mathlib.Core.List.{List, [], ◌∷◌, ◌++◌}
use native.Mathlib.Omega.{arith}
use lib.ListN.{length, drop}
use Rattle.rules.specs.Refusals.{Answer, taken, refused, number_of}
use Rattle.rules.specs.Tables as Rules
use Rattle.rules.specs.Frames.{refusal, frame}
use Rattle.rules.specs.Files.{read_file}
use Rattle.rules.specs.Program.{report, reply}
use Rattle.rules.specs.declared.refusal.Refusal.{Refusal}
use Rattle.rules.specs.declared.refusal.Refused.{Refused}
use Rattle.rules.proofs.Results.{reply_ok}
use Rattle.reading_laws.specs.Outcomes.{Reads, no_header, bad_cores, bad_tasks, no_row, bad_row, trailing, bad_repeat}
use Rattle.reading_laws.proofs.Frames.{length-frame}
use Rattle.reading_laws.proofs.Outcomes.{reads}
use Rattle.reading_laws.proofs.Files.{written_read}
use Rattle.tables.specs.Views.{view, pack, table_answer}
use Rattle.tables.proofs.Views.{view-pack}
use Rattle.tables.specs.declared.table.Table.{Table}
use Rattle.machine.specs.Tables.{Opened}
use Rattle.machine.proofs.Starting.{opened}
use Rattle.reports.specs.Texts.{report_length}
use Rattle.reports.specs.Reports.{reply_to, Answered}
use Rattle.reports.proofs.Whole.{length-report}

-- ---- the line of a refusal

pub length-refusal : (a b : ℕ) → length (frame refusal (a ∷ b ∷ [])) ≡ 9
length-refusal a b = length-frame refusal (a ∷ b ∷ []) refl

line-few : {s : List ℕ} {r : Refusal} {l : ℕ} → Reads s (refused r l) → l ≤ 66
line-few (no_header h) = omega arith
line-few (bad_cores h b) = omega arith
line-few (bad_tasks h c b) = omega arith
line-few (no_row b l h) = omega (arith, b.tasks.most)
line-few (bad_row r rest b l f h) = omega (arith, b.tasks.most)
line-few (trailing tbl b) = omega (arith, b.tasks.most)
line-few (bad_repeat tbl b h) = omega arith

-- no file is refused at a line past 66
pub refused-line : (s : List ℕ) {r : Refusal} {l : ℕ} → read_file s ≡ refused r l → l ≤ 66
refused-line s e = line-few (subst (Reads s) e (reads s))

-- ---- what the struct of an answer says

pub reply-answer : (x : Answer Rules.Table) → reply_to (table_answer x) ≡ reply x
unfolding reply_to
reply-answer (taken tbl) = ap (λ (t : Rules.Table). reply (taken t)) (view-pack tbl)
reply-answer (refused r l) = refl

-- a text at the front of a buffer, by another name
at_front : (out : List ℕ) {a b : List ℕ} {n : ℕ} → a ≡ b → length b ≡ n → b ++ drop n out ≡ a ++ drop (length a) out
at_front out e len = rw (e, len)

module _ {a : Result Table Refused} (w : Answered a) where
  -- the reader gave a table: it is accepted, and its text is the report
  module _ {t : Table} (e : a ≡ Ok t) where
    pub taken-opened : Opened t
    taken-opened =
        let found = reply_ok pack (read_file w.file) (sym w.is ∙ e) in
        subst Opened found.2 (opened found.0 (written_read w.file found.0 found.1).1)

    taken-reply : reply_to a ≡ report (view t)
    unfolding reply_to reply
    taken-reply = rw e

    pub taken-length : length (reply_to a) ≡ report_length (view t)
    taken-length = ap length taken-reply ∙ length-report (view t)

    pub taken-written : (out : List ℕ) → report (view t) ++ drop (report_length (view t)) out ≡ reply_to a ++ drop (length (reply_to a)) out
    taken-written out = at_front out taken-reply (length-report (view t))

  -- it refused the file: the text is the frame
  module _ {r : Refused} (e : a ≡ Err r) where
    refused-reply : reply_to a ≡ frame refusal (number_of r.refusal ∷ r.line ∷ [])
    unfolding reply_to reply
    refused-reply = rw e

    pub refused-length : length (reply_to a) ≡ 9
    refused-length = ap length refused-reply ∙ length-refusal (number_of r.refusal) r.line

    pub refused-written : (out : List ℕ) {now : List ℕ} {k : ℕ} → now ≡ frame refusal (number_of r.refusal ∷ k ∷ []) ++ drop 9 out → k ≡ r.line
        → now ≡ reply_to a ++ drop (length (reply_to a)) out
    refused-written out e ek = e ∙ rw ek (at_front out refused-reply (length-refusal (number_of r.refusal) r.line))
