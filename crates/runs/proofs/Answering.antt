-- The tests of a run, one after the other, and the answer that each leads to.
use Rattle.std.proofs.Common.{Ok, Err}
use Prim.Native.Nat.{ℕ, ◌+◌, ◌-◌, ◌*◌, ◌≤◌}
use mathlib.Core.Path.{◌≡◌, refl, sym, ap, ◌∙◌}
use mathlib.Core.Bool.{Bool, true, false, cond}
use mathlib.Core.List.{List}
use mathlib.Core.Option.{none, some}
use native.Mathlib.Omega.{arith}
use borrow.Author.Tests.{lt-ltb, le-ltb}
use borrow.Rule.Slice.PartMut.{mid_of, put_mid}
use lib.Dec.{ltb}
use lib.ListN.{length}
use Rattle.rules.specs.Limits.{clock_max}
use Rattle.rules.specs.Refusals.{answered}
use Rattle.rules.specs.Runs.{slot_lines}
use Rattle.rules.specs.Answers.{room_test, run_slots}
use Rattle.rules.specs.Results.{room_reply}
use Rattle.rules.specs.declared.refusal.Refusal.{Refusal}
use Rattle.rules.specs.declared.refusal.Refusal.TheVariants.{NoRoom, PastClock, BadState}
use Rattle.rules.proofs.Results.{room_short, room_there}
use Rattle.slot_laws.proofs.Lengths.{length-slot_lines}
use Rattle.slot_laws.proofs.Answers.{run_tests, ran_so}
use Rattle.reading_laws.proofs.Lays.{lay-lent}
use Rattle.tables.specs.Views as Tables
use Rattle.machine.specs.Views.{view, formed}
use Rattle.machine.specs.declared.state.State.{State}
use Rattle.machine.proofs.Asking.{asked_ill, asked_well}
use Rattle.runs.specs.Slots.{frame_length}
use Rattle.runs.specs.Answers.{RunFormed, RunEnd, run_end, ended, run_answer}

clock_is : (s : State) → (view s).clock ≡ s.clock.0
unfolding view
clock_is s = refl

lines-length : (s : State) (count : ℕ) → length (slot_lines count (view s)) ≡ count * frame_length s.table.m.0
unfolding view Tables.view
lines-length s count = length-slot_lines count (view s)

module _ (s : State) (count : ℕ) (out : List ℕ) (place : ℕ) where
  pub refuse_state : formed s ≡ false → run_end (Err BadState) out ≡ run_answer s count out place
  unfolding run_answer run_slots
  refuse_state e = sym (ap (ended out) (asked_ill s (run_tests count out place) (ran_so count out place) e))

  module _ (good : formed s ≡ true) where
    -- what is left of the tests of a well formed state
    abbrev by_tests : Bool → Bool → RunEnd
    by_tests late short = ended out (answered (cond late (some PastClock) (cond short (some NoRoom) none)) (ran_so count out place (view s)))

    answer-formed : run_answer s count out place ≡ by_tests (ltb clock_max (s.clock.0 + count)) (ltb (length out) (place + count * frame_length s.table.m.0))
    unfolding run_answer run_slots room_test
    answer-formed =
        ap (ended out) (asked_well s (run_tests count out place) (ran_so count out place) good)
        ∙ (λ j. by_tests (ltb clock_max (clock_is s j + count)) (ltb (length out) (place + lines-length s count j)))

    pub refuse_clock : ltb clock_max (s.clock.0 + count) ≡ true → run_end (Err PastClock) out ≡ run_answer s count out place
    refuse_clock e = rw (answer-formed, e)

    -- the test of the room, by the number of bytes that was computed for it
    module _ (soon : ltb clock_max (s.clock.0 + count) ≡ false) {bytes : ℕ} (size : bytes ≡ count * frame_length s.table.m.0) where
      pub refuse_room : {r : Refusal} → room_reply (length out) place bytes ≡ Err r → run_end (Err r) out ≡ run_answer s count out place
      refuse_room e =
          let w = room_short (length out) place bytes e in
          rw (w.1, answer-formed, soon, ← size, lt-ltb (length out) (place + bytes) w.0)

      module _ {u : Unit {0}} (room : room_reply (length out) place bytes ≡ Ok u) where
        -- the place lies within the buffer, with room for all frames after it
        pub room_is : place + count * frame_length s.table.m.0 ≤ length out
        room_is = rw (← size) (room_there (length out) place bytes room)

        pub take-run : {r : State} {tail : List ℕ} → RunFormed s count (mid_of place (length out - place) out) r tail
            → run_end (Ok r) (put_mid place (length out - place) out tail) ≡ run_answer s count out place
        take-run {r} {tail} w =
            rw (answer-formed, soon, le-ltb (length out) (place + count * frame_length s.table.m.0) room_is)
            (λ j.
            run_end (Ok (w.state j))
            (lay-lent out place (count * frame_length s.table.m.0) (slot_lines count (view s)) tail (lines-length s count) (omega (arith, room_is)) w.lines j))
