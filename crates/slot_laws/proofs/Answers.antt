-- What is asked of a well-formed state: it passes the test of its form, and a run of it is taken exactly where there is time and room.
use Prim.Native.Nat.{ℕ, ◌+◌, ◌≤◌}
use mathlib.Core.Path.{◌≡◌, sym, ◌∙◌}
use mathlib.Core.Bool.{not}
use mathlib.Core.List.{List, [], ◌∷◌}
use borrow.Author.Tests.{le-ltb}
use lib.Dec.{T, ltb, nltb→le}
use lib.ListN.{length}
use Rattle.laws.proofs.Tests.{of_T, and_left, and_right}
use Rattle.rules.specs.Limits.{clock_max}
use Rattle.rules.specs.Refusals.{Test, test, taken, settle}
use Rattle.rules.specs.States.{State}
use Rattle.rules.specs.Forms.{well_formed}
use Rattle.rules.specs.Runs.{after, slot_lines}
use Rattle.rules.specs.Answers.{Ran, lay, room_test, state_test, run_slots}
use Rattle.rules.specs.declared.refusal.Refusal.TheVariants.{PastClock}
use Rattle.reading_laws.proofs.Tests.{settle-taken}

-- the test of its form is passed
pub well_first : (st : State) → T (well_formed st) → {A : Type 0} (ts : List Test) (a : A) → settle (state_test st ∷ ts) a ≡ settle ts a
unfolding state_test
well_first st ok ts a = rw (of_T (well_formed st) ok)

module _ (count : ℕ) (out : List ℕ) (place : ℕ) (st : State) where
  -- the tests of a run behind that of the form, and what it gives where all are passed
  abbrev pub run_tests : List Test
  run_tests = test (ltb clock_max (st.clock + count)) PastClock ∷ room_test out place (length (slot_lines count st)) ∷ []

  abbrev pub ran_so : Ran
  ran_so = record { state = after count st; out = lay out place (slot_lines count st) }

  module _ (ok : T (well_formed st)) where
    pub run-taken : st.clock + count ≤ clock_max → place + length (slot_lines count st) ≤ length out → run_slots st count out place ≡ taken ran_so
    unfolding run_slots room_test
    run-taken soon room =
        well_first st ok run_tests ran_so
        ∙ rw (le-ltb clock_max (st.clock + count) soon, le-ltb (length out) (place + length (slot_lines count st)) room)

    pub taken_ran : {ran : Ran} → run_slots st count out place ≡ taken ran
        → (st.clock + count ≤ clock_max) × (place + length (slot_lines count st) ≤ length out) × (ran ≡ ran_so)
    unfolding run_slots room_test
    taken_ran {ran} e =
        let s = settle-taken run_tests ran_so ran (sym (well_first st ok run_tests ran_so) ∙ e) in
        let room = and_right (not (ltb clock_max (st.clock + count))) _ s.0 in (
          nltb→le clock_max (st.clock + count) (and_left (not (ltb clock_max (st.clock + count))) _ s.0),
          nltb→le (length out) (place + length (slot_lines count st)) (and_left (not (ltb (length out) (place + length (slot_lines count st)))) _ room),
          sym s.1,
        )
