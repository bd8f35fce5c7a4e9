-- The text of an accepted table: the slots and the totals after its head, and how long it is.
use Rattle.std.proofs.Common.{Result, Option, None, Ok}
use Prim.Native.Nat.{ℕ, ◌+◌, ◌-◌, ◌*◌, ◌≤◌, ◌<◌}
use mathlib.Core.Path.{◌≡◌, refl, sym, ap, ◌∙◌}
use mathlib.Core.List.{List, ◌++◌}
use native.Mathlib.Omega.{arith}
use native.Mathlib.Nat.{mul-le-mul_right}
use borrow.Rule.Slice.PartMut.{mid_of, put_mid}
use lib.Dec.{T}
use lib.ListN.{length, drop, length-append, length-take, length-drop}
use Rattle.rules.specs.Limits.{cores_max, tasks_max, slots_max}
use Rattle.rules.specs.Kinds.{repeat_of}
use Rattle.rules.specs.Repeat.{repeat_length}
use Rattle.rules.specs.Rows.{Row}
use Rattle.rules.specs.Tables as Rules
use Rattle.rules.specs.Tables.{size, accepts}
use Rattle.rules.specs.States.{fresh}
use Rattle.rules.specs.Forms.{well_formed}
use Rattle.rules.specs.Runs.{after, slot_lines, totals_line}
use Rattle.rules.specs.Answers.{lay, write_totals}
use Rattle.rules.specs.declared.kinds.Repeat.{Repeat}
use Rattle.rules.specs.declared.refusal.Refusal.{Refusal}
use Rattle.priority_laws.proofs.Repeat.{repeat_pos}
use Rattle.slot_laws.proofs.Books.{fresh-formed, run-formed}
use Rattle.slot_laws.proofs.Lengths.{length-slot_lines, length-totals_line}
use Rattle.reading_laws.proofs.Lays.{lay-front, length-lay}
use Rattle.tables.specs.Views.{view}
use Rattle.tables.specs.Writes.{Wrote, made, wrote}
use Rattle.tables.specs.declared.table.Table.{Table}
use Rattle.tables.proofs.Bounds.{repeat-refused}
use Rattle.reading_laws.proofs.Laying.{Laid, more, laid-front}
use Rattle.machine.specs.Tables.{Opened}
use Rattle.machine.specs.Views.{pack}
use Rattle.machine.specs.Answers.{asked}
use Rattle.machine.specs.declared.state.State.{State}
use Rattle.runs.specs.Slots.{frame_length}
use Rattle.runs.specs.Answers.{RunEnd, run_end, run_answer}
use Rattle.reports.specs.Heads.{head_length}
use Rattle.reports.specs.Texts.{slots_of, run_lines, run_length, report_length}
use Rattle.reports.specs.Reports.{text_max}
use Rattle.reports.proofs.Taking.{run-taken, totals-taken}

-- ---- how many slots are run

-- H is above its bound
pub above : (rows : List Row) {a : Option Repeat} → a ≡ repeat_of (repeat_length rows) → a ≡ None → slots_max < repeat_length rows
above rows is e = omega (arith, repeat-refused (repeat_length rows) (repeat_pos rows) (sym is ∙ e))

-- ---- how long the text is

pub length-run_lines : (tbl : Rules.Table) (count : ℕ) → length (run_lines tbl count) ≡ run_length tbl.m count
unfolding fresh
length-run_lines tbl count =
    length-append (slot_lines count (fresh tbl)) (totals_line (after count (fresh tbl)))
    ∙ omega (arith, length-slot_lines count (fresh tbl), length-totals_line (after count (fresh tbl)))

-- the text of a table whose m, n and slots are in their bounds
pub text_bound : (m n k : ℕ) → m ≤ cores_max → n ≤ tasks_max → k ≤ slots_max → 18 + 2 * n + (k * frame_length m + 51) ≤ text_max
text_bound m n k hm hn hk = omega (arith, mul-le-mul_right {m = k} {n = slots_max} (frame_length m) hk)

-- by the struct of the table
module _ (t : Table) (o : Opened t) where
  cores_is : (view t).m ≡ t.m.0
  unfolding view
  cores_is = refl

  pub cores-few : t.m.0 ≤ cores_max
  cores-few = omega (arith, cores_is, o.sound.bounds.cores.most)

  -- where the frames of a count of slots end
  pub slots_end : {at : ℕ} (count : ℕ) → at ≡ count * frame_length t.m.0 → at ≡ count * frame_length (view t).m
  slots_end count e = e ∙ ap (λ (m : ℕ). count * frame_length m) (sym cores_is)

  pub size_is : {before count slots : ℕ} → before ≡ head_length (view t) → count ≡ slots_of (view t) → slots ≡ count * frame_length t.m.0
      → before + (slots + 51) ≡ report_length (view t)
  size_is {before} {count} {slots} eb ec es = rw (eb, slots_end count es, ec)

-- ---- the slots and the totals

module _ (tbl : Rules.Table) (a : T (accepts tbl)) (count : ℕ) (few : count ≤ slots_max) (out : List ℕ) (room : run_length tbl.m count ≤ length out) where
  abbrev slots : List ℕ
  slots = slot_lines count (fresh tbl)

  abbrev end : ℕ
  end = count * frame_length tbl.m

  length-slots : length slots ≡ end
  unfolding fresh
  length-slots = length-slot_lines count (fresh tbl)

  formed-after : T (well_formed (after count (fresh tbl)))
  formed-after = run-formed tbl a count (omega arith)

  module _ {s : State} (started : s ≡ pack (fresh tbl)) {r : Result State Refusal} {out' : List ℕ} (ran : run_end r out' ≡ run_answer s count out 0) where
    -- the run is taken
    ended : run_end r out' ≡ run_end (Ok (pack (after count (fresh tbl)))) (lay out 0 slots)
    unfolding fresh
    ended =
        ran
        ∙ ap (λ (x : State). run_answer x count out 0) started
        ∙ run-taken (fresh tbl) (fresh-formed tbl a) out 0 count (omega arith) (omega arith)

    pub run-ended : r ≡ Ok (pack (after count (fresh tbl)))
    run-ended = ap (λ (x : RunEnd). x.answer) ended

    pub end_state : {s' : State} → r ≡ Ok s' → s' ≡ pack (after count (fresh tbl))
    end_state {s'} e =
        let same : Ok s' ≡ Ok (pack (after count (fresh tbl))) = sym e ∙ run-ended in
        cc

    -- its frames end where the totals begin
    module _ {at : ℕ} (ends : at ≡ count * frame_length tbl.m) where
      end_lines : Laid out slots out' at
      end_lines = record { whole = ap (λ (x : RunEnd). x.out) ended; ends = length-slots ∙ sym ends }

      end_length : length out' ≡ length out
      end_length = ap length end_lines.whole ∙ length-lay out 0 slots (omega (arith, length-slots))

      -- and the totals of the state at its end come right after them, through the lent tail
      module _ {w : Result ℕ Refusal} {tail : List ℕ} {s' : State}
          (e : made w tail ≡ wrote 51 (mid_of at (length out' - at) out') (asked s' (λ x. write_totals x (mid_of at (length out' - at) out') 0)))
          (end_is : s' ≡ pack (after count (fresh tbl))) where
        abbrev mid : List ℕ
        mid = mid_of at (length out' - at) out'

        abbrev line : List ℕ
        line = totals_line (after count (fresh tbl))

        laid : made w tail ≡ made (Ok 51) (lay mid 0 line)
        laid =
            let fits : 0 + 51 ≤ length mid = simp (length-take, length-drop) (omega (arith, end_length)) in
            e
            ∙ ap (λ (x : State). wrote 51 mid (asked x (λ y. write_totals y mid 0))) end_is
            ∙ totals-taken (after count (fresh tbl)) formed-after mid 0 fits

        pub totals-there : w ≡ Ok 51
        totals-there = ap (λ (x : Wrote). x.answer) laid

        pub run-written : put_mid at (length out' - at) out' tail ≡ slots ++ line ++ drop (run_length tbl.m count) out
        run-written =
            let at_front : tail ≡ line ++ drop 51 mid =
            ap (λ (x : Wrote). x.out) laid ∙ lay-front mid line ∙ ap (λ (k : ℕ). line ++ drop k mid) (length-totals_line (after count (fresh tbl)))
            in
            laid-front out (more out end_lines line 51 (length-totals_line (after count (fresh tbl))) (omega arith) at_front) (run_length tbl.m count) (omega arith)
