-- The text for any input: where it goes, and that it is never longer than the program's buffer.
use Rattle.std.proofs.Common.{Result, Ok, Err}
use Prim.Native.Nat.{ℕ, ◌+◌, ◌-◌, ◌≤◌, ◌<◌, min}
use mathlib.Core.Path.{◌≡◌, refl, sym, ap, ◌∙◌}
use mathlib.Core.List.{List, ◌++◌}
use native.Mathlib.Omega.{arith}
use borrow.Author.Tests.{lt-ltb, le-ltb}
use borrow.Rule.Slice.PartMut.{mid_of, put_mid}
use lib.ListN.{length, take, drop}
use Rattle.std.proofs.lemmas.List.{take_min}
use Rattle.laws.proofs.Tests.{never}
use Rattle.rules.specs.Limits.{input_max}
use Rattle.rules.specs.Refusals.{Answer, taken, refused, number_of}
use Rattle.rules.specs.Tables as Rules
use Rattle.rules.specs.Tables.{size}
use Rattle.rules.specs.Files.{read_file}
use Rattle.rules.specs.Program.{reply, program}
use Rattle.rules.specs.declared.refusal.Refusal.{Refusal}
use Rattle.rules.specs.declared.refusal.Refusal.TheVariants.{NoRoom}
use Rattle.rules.specs.declared.refusal.Refused.{Refused}
use Rattle.rules.specs.Results.{room_reply}
use Rattle.tables.specs.declared.table.Table.{Table}
use Rattle.slot_laws.proofs.Forms.{Accepted, accepted}
use Rattle.reading_laws.proofs.Lays.{lay-front}
use Rattle.reading_laws.proofs.Files.{written_read}
use Rattle.tables.specs.Views.{table_answer}
use Rattle.tables.specs.Writes.{Wrote, made}
use Rattle.reports.specs.Texts.{slots_of}
use Rattle.reports.specs.Reports.{text_max, report_of, Printed, reply_to}
use Rattle.reports.proofs.Texts.{text_bound}
use Rattle.reports.proofs.Whole.{length-report}
use Rattle.tables.proofs.Written.{text_short, text-laid, text-written}
use Rattle.reports.proofs.Replies.{length-refusal, reply-answer}

-- ---- the start of the input

pub start_is : (input : List ℕ) (k : ℕ) → k ≡ min (length input) input_max → take k input ≡ take input_max input
start_is input k e =
    let cut : k ≡ min input_max (length input) = omega (arith, e) in
    rw cut (take_min input_max input)

-- ---- where the text goes

module _ (input out : List ℕ) (place : ℕ) {a : Result Table Refused} (is : a ≡ table_answer (read_file (take input_max input))) {size : ℕ} (long : size ≡ length (reply_to a)) where
  text_is : reply_to a ≡ program input
  unfolding program
  text_is = ap reply_to is ∙ reply-answer (read_file (take input_max input))

  size_is : length (program input) ≡ size
  size_is = sym (long ∙ ap length text_is)

  -- there is no room for it
  pub no_room : length out < place + size → made (Err NoRoom) out ≡ report_of input out place
  unfolding report_of
  no_room h =
      let short : room_reply (length out) place size ≡ Err NoRoom = rw (lt-ltb (length out) (place + size) h) refl in
      text_short out place (program input) size size_is short

  -- there is, and it was written through the lent tail
  pub room_given : {tail : List ℕ} → place + size ≤ length out
      → tail ≡ reply_to a ++ drop (length (reply_to a)) (mid_of place (length out - place) out)
      → made (Ok size) (put_mid place (length out - place) out tail) ≡ report_of input out place
  unfolding report_of
  room_given {tail = tail} h e =
      let there : room_reply (length out) place size ≡ Ok tt = rw (le-ltb (length out) (place + size) h) refl in
      text-written out place (program input) size size_is there tail
      (e ∙ ap (λ (l : List ℕ). l ++ drop (length l) (mid_of place (length out - place) out)) text_is ∙ rw size_is)

-- ---- how long it is

reply_short : (s : List ℕ) (x : Answer Rules.Table) → read_file s ≡ x → length (reply x) ≤ text_max
unfolding reply
reply_short s (taken tbl) e =
    let ok : Accepted tbl = accepted tbl (written_read s tbl e).1 in
    omega (arith, length-report tbl, text_bound tbl.m (size tbl) (slots_of tbl) ok.cores_high ok.tasks_high (omega arith))
reply_short s (refused r l) e = omega (arith, length-refusal (number_of r) l)

-- no text is longer than the program's buffer
pub program_short : (input : List ℕ) → length (program input) ≤ text_max
unfolding program
program_short input = reply_short (take input_max input) (read_file (take input_max input)) refl

-- ---- a buffer that is long enough for any text

module _ (input out : List ℕ) (room : text_max ≤ length out) {r : Result ℕ Refusal} {out' : List ℕ} (made_so : made r out' ≡ report_of input out 0) where
  all-written : made r out' ≡ made (Ok (length (program input))) (program input ++ drop (length (program input)) out)
  unfolding report_of
  all-written =
      made_so
      ∙ text-laid out 0 (program input) (length (program input)) refl (omega (arith, program_short input))
      ∙ ap (made (Ok (length (program input)))) (lay-front out (program input))

  pub answer_is : r ≡ Ok (length (program input))
  answer_is = ap (λ (w : Wrote). w.answer) all-written

  -- is never refused
  pub never_refused : {x : Refusal} → r ≡ Err x → ⊥
  never_refused e = never (cc answer_is)

  -- and gets all of it
  pub printed : {n : ℕ} → r ≡ Ok n → Printed input out n out'
  printed e = record { count = cc answer_is; text = ap (λ (w : Wrote). w.out) all-written }
