-- The program's text: what its frames say of an accepted table, and of an admitted one.
use Rattle.std.proofs.Common.{Result, Ok, Err}
use Prim.Native.Nat.{ℕ, ◌+◌, ◌*◌, ◌≤◌}
use mathlib.Core.Path.{◌≡◌, refl, sym, ap, subst, ◌∙◌}
use mathlib.Core.List.{List, [], ◌∷◌, ◌++◌}
use native.Mathlib.Omega.{arith}
use lib.Dec.{T}
use lib.ListN.{length, take, drop, length-append}
use lib.Seq.{take_at}
use Rattle.laws.specs.Lists.{at}
use Rattle.laws.proofs.Tests.{never}
use Rattle.rules.specs.Limits.{input_max}
use Rattle.rules.specs.Refusals.{number_of, Answer, taken, refused, settle}
use Rattle.rules.specs.Tables.{Table, accepts}
use Rattle.rules.specs.Frames as Frames
use Rattle.rules.specs.Frames.{frame, read_frame}
use Rattle.rules.specs.Files.{read_file}
use Rattle.rules.specs.Verdicts.{admitted}
use Rattle.rules.specs.States.{fresh}
use Rattle.rules.specs.Runs.{after, slot_lines, totals_numbers, totals_line}
use Rattle.rules.specs.Answers.{lay, room_test}
use Rattle.rules.specs.Program.{report, reply, program}
use Rattle.rules.specs.declared.refusal.Refusal.{Refusal}
use Rattle.reading_laws.proofs.Frames.{read-frame, read_other}
use Rattle.reading_laws.proofs.Files.{written_read}
use Rattle.slot_laws.proofs.Forms.{accepted}
use Rattle.slot_laws.proofs.Books.{fresh_kept, run-kept}
use Rattle.slot_laws.proofs.Boundaries.{clock-at}
use Rattle.slot_laws.proofs.Lengths.{length-slot_lines}
use Rattle.tables.specs.Writes.{Wrote, made, wrote, wrote_text}
use Rattle.runs.specs.Slots.{frame_length}
use Rattle.reports.specs.Heads.{head, head_length}
use Rattle.reports.specs.Texts.{slots_of}
use Rattle.reports.specs.Reports.{text_max, report_of}
use Rattle.reports.proofs.Heads.{length-head}
use Rattle.reports.proofs.Replies.{refused-line}
use Rattle.reports.proofs.Reporting.{program_short}
use Rattle.capi.specs.Calls.{give_report}
use Rattle.capi.proofs.program.zq_report.Reads as zq-report
use Rattle.promises.specs.Buffers.{numbers_of, numbers_at, Holds}
use Rattle.promises.specs.Calls.{Call}
use Rattle.promises.specs.Frames.{Scheduled}
use Rattle.promises.specs.Texts.{Told, by_call, by_function, by_program, text_frames, text_totals, TextAccount, TextPromise, TextMeans, TextsMean}
use Rattle.promises.proofs.Holding.{lay-held, held_first, held_next, held-numbers, held-head, held-totals, held-frames}
use Rattle.promises.proofs.Counting.{scheduled-counted, scheduled_on_time, scheduled-totals, scheduled-lossless}
use Rattle.promises.proofs.Verdicts.{says-admitted}
use Rattle.promises.proofs.Replies.{number-bounds, zero-taken, taken-zero, laid-taken, laid-room, taken-laid}

-- ---- the text of a table

module _ (tbl : Table) (t : T (accepts tbl)) {out : List ℕ} {place : ℕ} (h : Holds out place (report tbl)) where
  abbrev k : ℕ
  k = slots_of tbl

  abbrev slots : List ℕ
  slots = slot_lines k (fresh tbl)

  abbrev totals : List ℕ
  totals = totals_line (after k (fresh tbl))

  -- its parts, one right after the other
  before_totals : Holds out place (head tbl ++ slots)
  unfolding report
  before_totals = held_first (head tbl ++ slots) totals h

  slots-held : Holds out (place + head_length tbl) slots
  slots-held = held_next (head tbl) slots (head_length tbl) (length-head tbl) before_totals

  slots-long : length slots ≡ k * frame_length tbl.m
  unfolding fresh
  slots-long = length-slot_lines k (fresh tbl)

  totals-held : Holds out (place + head_length tbl + k * frame_length tbl.m) totals
  unfolding report
  totals-held =
      subst (λ (p : ℕ). Holds out p totals) (omega arith)
      (held_next (head tbl ++ slots) totals (head_length tbl + k * frame_length tbl.m) (length-append (head tbl) slots ∙ omega (arith, length-head tbl, slots-long)) h)

  frames-read : Scheduled tbl k (text_frames tbl out place)
  unfolding fresh
  frames-read = record { are = held-frames k (fresh_kept tbl (accepted tbl t)) (omega arith) slots-held }

  totals_told : text_totals tbl out place ≡ totals_numbers (after k (fresh tbl))
  totals_told = held-totals (run-kept tbl t k) (omega (arith, clock-at tbl k)) totals-held

  pub text-account : TextAccount tbl out place
  text-account =
      record {
        head = held-head (accepted tbl t) (held_first (head tbl) slots before_totals);
        scheduled = frames-read;
        counted = scheduled-counted frames-read;
        totals = totals_told ∙ scheduled-totals frames-read;
      }

  pub text-promise : T (admitted tbl) → TextPromise tbl out place
  text-promise u =
      record {
        accepted = t;
        admitted = u;
        account = text-account;
        on_time = scheduled_on_time frames-read t u;
        lossless = totals_told ∙ scheduled-lossless frames-read t u;
      }

-- ---- the text of a refusal

-- the line of a refused file is no frame `11`
refused-read : {out : List ℕ} {place : ℕ} (vs : List ℕ) → Holds out place (frame Frames.refusal vs) → numbers_at Frames.verdict out place ≡ []
unfolding numbers_at
refused-read vs h =
    ap (λ (s : List ℕ). numbers_of (read_frame Frames.verdict s)) h.here ∙ ap numbers_of (read_other Frames.refusal Frames.verdict vs h.rest (omega arith) (λ e. omega arith))

-- ---- where it stands

-- as a function wrote it
written-holds : (out : List ℕ) (place : ℕ) (txt : List ℕ) {w : Result ℕ Refusal} {out' : List ℕ} {n : ℕ} → made w out' ≡ wrote_text out place txt → w ≡ Ok n
    → Holds out' place txt × (n ≡ length txt)
unfolding wrote_text wrote
written-holds out place txt {w} {out'} {n} e told = by_answer (settle (room_test out place (length txt) ∷ []) (lay out place txt)) refl e
  where
    by_answer : (a : Answer (List ℕ)) → settle (room_test out place (length txt) ∷ []) (lay out place txt) ≡ a → made w out' ≡ wrote (length txt) out a
        → Holds out' place txt × (n ≡ length txt)
    by_answer (taken buffer) f g =
        let r = laid-room out place txt f in
        let size : w ≡ Ok (length txt) = ap (λ (x : Wrote). x.answer) g in
        (subst (λ (l : List ℕ). Holds l place txt) (r.1 ∙ sym (ap (λ (x : Wrote). x.out) g)) (lay-held out place txt r.0), cc)
    by_answer (refused q l) f g = let other : w ≡ Err q = ap (λ (x : Wrote). x.answer) g in never cc

-- all of it, and nothing else
told_holds : {input out : List ℕ} {place n : ℕ} → Told input out place n → Holds out place (program input) × (n ≡ length (program input))
unfolding give_report report_of
told_holds (by_call c zero e) =
    let txt : List ℕ = program c.args.0.now in
    let w = taken-laid c.args.1.0.now c.args.1.1.0 txt (zero-taken _ (give_report c.args.0.now c.args.1.0.now c.args.1.1.0) c.permitted zero) in
    rw (← e)
    (subst (λ (l : List ℕ). Holds l c.args.1.1.0 txt) (sym w.buffer) (lay-held c.args.1.0.now c.args.1.1.0 txt w.room), w.size)
told_holds (by_function c told e) =
    rw (← e) (written-holds c.args.1.0.now c.args.1.1.0 (program c.args.0.now) c.permitted told)
told_holds (by_program p) = (record { rest = _; here = p.text }, p.count)

-- ---- the text of an input

module _ {input out : List ℕ} {place n : ℕ} (told : Told input out place n) where
  abbrev file : List ℕ
  file = take input_max input

  by_answer : (a : Answer Table) → read_file file ≡ a → Holds out place (reply a)
  unfolding program
  by_answer a e = subst (λ (x : Answer Table). Holds out place (reply x)) e (told_holds told).0

  -- an accepted file
  pub text-taken : {tbl : Table} → read_file file ≡ taken tbl → TextAccount tbl out place
  unfolding reply
  text-taken {tbl} e = text-account tbl (written_read file tbl e).1 (by_answer (taken tbl) e)

  -- a refused one: frame `1f` is read as the number and the line of the refusal
  pub text-refused : {q : Refusal} {l : ℕ} → read_file file ≡ refused q l → numbers_at Frames.refusal out place ≡ number_of q ∷ l ∷ []
  unfolding reply
  text-refused {q} {l} e =
      held-numbers Frames.refusal (frame Frames.refusal (number_of q ∷ l ∷ [])) (number_of q ∷ l ∷ [])
      (λ rest. read-frame Frames.refusal (number_of q ∷ l ∷ []) rest (omega arith) (omega (arith, number-bounds q), (omega (arith, refused-line file e), tt)))
      (by_answer (refused q l) e)

  -- the bytes of the text
  bytes_are : take n (drop place out) ≡ program input
  bytes_are =
      let w = told_holds told in
      ap (take n) w.0.here ∙ take_at (program input) w.0.rest n (sym w.1)

  -- one whose text begins with a frame `11` that says 01
  says_means : (a : Answer Table) → read_file file ≡ a → at (numbers_at Frames.verdict out place) 1 ≡ 1 → TextMeans input out place n
  unfolding reply program
  says_means (taken tbl) e says =
      let t : T (accepts tbl) = (written_read file tbl e).1 in
      let text : Holds out place (report tbl) = by_answer (taken tbl) e in
      record {
        tbl = tbl;
        read = e;
        text = bytes_are ∙ ap reply e;
        promise = text-promise tbl t text (says-admitted tbl (sym (ap (λ (l : List ℕ). at l 1) (text-account tbl t text).head.verdict) ∙ says));
      }
  says_means (refused q l) e says = absurd (omega (arith, says, ap (λ (v : List ℕ). at v 1) (refused-read (number_of q ∷ l ∷ []) (by_answer (refused q l) e))))

pub text_means : TextsMean
text_means input out place n told says = says_means told (read_file (take input_max input)) refl says

-- a call with room for the longest text is never refused
pub report_returns : (c : Call zq-report.Post) → c.args.1.1.0 + text_max ≤ length c.args.1.0.now → c.result ≡ 0
unfolding give_report
report_returns c room =
    taken-zero _ (give_report c.args.0.now c.args.1.0.now c.args.1.1.0) c.permitted
    (laid-taken c.args.1.0.now c.args.1.1.0 (program c.args.0.now) (omega (arith, program_short c.args.0.now)))
