-- A run and the totals of a well-formed state are taken where there is time and room.
use Rattle.std.proofs.Common.{Ok}
use Prim.Native.Nat.{ℕ, ◌+◌, ◌*◌, ◌≤◌}
use mathlib.Core.Path.{◌≡◌, ap, ◌∙◌}
use mathlib.Core.List.{List, [], ◌∷◌}
use borrow.Author.Tests.{le-ltb}
use lib.Dec.{T}
use lib.ListN.{length}
use Rattle.rules.specs.Limits.{clock_max}
use Rattle.rules.specs.Refusals.{Test}
use Rattle.rules.specs.States as States
use Rattle.rules.specs.Forms.{well_formed}
use Rattle.rules.specs.Runs.{after, slot_lines, totals_line}
use Rattle.rules.specs.Answers.{lay, room_test, run_slots, write_totals}
use Rattle.slot_laws.proofs.Forms.{formed-kept}
use Rattle.slot_laws.proofs.Lengths.{length-slot_lines, length-totals_line}
use Rattle.slot_laws.proofs.Answers.{run_tests, ran_so}
use Rattle.tables.specs.Writes.{made, wrote}
use Rattle.machine.specs.Views.{view, pack}
use Rattle.machine.specs.Answers.{asked}
use Rattle.machine.proofs.Packing.{view-pack}
use Rattle.machine.proofs.Packed.{kept-sized, struct_formed}
use Rattle.machine.proofs.Asking.{asked_well}
use Rattle.runs.specs.Slots.{frame_length}
use Rattle.runs.specs.Answers.{run_end, ended, run_answer}

module _ (st : States.State) (ok : T (well_formed st)) (out : List ℕ) (place : ℕ) where
  says : view (pack st) ≡ st
  says = view-pack st (kept-sized (formed-kept st ok))

  -- a run
  module _ (count : ℕ) where
    pub run-taken : st.clock + count ≤ clock_max → place + count * frame_length st.table.m ≤ length out
        → run_answer (pack st) count out place ≡ run_end (Ok (pack (after count st))) (lay out place (slot_lines count st))
    unfolding run_answer run_slots room_test
    run-taken soon room =
        ap (ended out) (asked_well (pack st) (run_tests count out place) (ran_so count out place) (struct_formed st ok))
        ∙ rw (
          says,
          le-ltb clock_max (st.clock + count) soon,
          length-slot_lines count st,
          le-ltb (length out) (place + count * frame_length st.table.m) room,
        )

  -- the totals
  abbrev room_only : States.State → List Test
  room_only x = room_test out place (length (totals_line x)) ∷ []

  abbrev lined : States.State → List ℕ
  lined x = lay out place (totals_line x)

  pub totals-taken : place + 51 ≤ length out → wrote 51 out (asked (pack st) (λ x. write_totals x out place)) ≡ made (Ok 51) (lay out place (totals_line st))
  unfolding write_totals wrote room_test
  totals-taken room =
      ap (wrote 51 out) (asked_well (pack st) room_only lined (struct_formed st ok))
      ∙ rw (says, length-totals_line st, le-ltb (length out) (place + 51) room)
