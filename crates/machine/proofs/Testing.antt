-- What the test of a state's form tells of its answer, and what a state that passed has.
use Rattle.std.proofs.Common.{◌≡◌, sym, ap, ◌∙◌, true, false, Result, Ok, Err, ◌≤◌}
use Rattle.std.specs.Result.{IsErrAnd}
use lib.Dec.{T}
use Rattle.rules.specs.Limits.{cores_max, clock_max}
use Rattle.rules.specs.Tables.{size}
use Rattle.rules.specs.Forms.{well_formed}
use Rattle.rules.specs.declared.refusal.Refusal.{Refusal}
use Rattle.rules.specs.declared.refusal.Refusal.TheVariants.{BadState}
use Rattle.rules.proofs.Results.{passed_on}
use Rattle.slot_laws.proofs.Forms.{Kept, formed-kept, formed-clock}
use Rattle.tables.specs.Views as Tables
use Rattle.machine.specs.Answers.{Tested}
use Rattle.machine.specs.Views.{tasks, view, padded, formed}
use Rattle.machine.specs.declared.state.State.{State}
use Rattle.machine.specs.declared.formed.Formed.{Formed}
use Rattle.machine.proofs.Viewing.{size-view}
use Rattle.machine.proofs.Asking.{formed-says}

module _ (s : State) {r : Result Formed Refusal} (t : Tested s r) where
  -- the state that passed is the one that was given
  pub passed : {f : Formed} → r ≡ Ok f → f.state.now ≡ s
  passed e = rw e at t

  -- and it is well formed
  pub well : {f : Formed} → r ≡ Ok f → formed s ≡ true
  well {f} e = sym (ap formed (passed e)) ∙ f.good

  -- one that did not is not well formed, and `?` returns 9
  pub failed : {A : Type 0} {q : Result A Refusal} {e : Refusal} → r ≡ Err e → IsErrAnd q (λ y. y ≡ e) → (q ≡ Err BadState) × (formed s ≡ false)
  failed {q = q} e h =
      let told = rw e at t in
      (passed_on q h ∙ ap Err told.0, told.1)

module _ (f : Formed) where
  pub padded_of : T (padded f.state.now)
  padded_of = (formed-says f.state.now f.good).0

  pub formed_of : T (well_formed (view f.state.now))
  formed_of = (formed-says f.state.now f.good).1

  pub kept : Kept (view f.state.now)
  kept = formed-kept (view f.state.now) formed_of

  pub few_cores : f.state.now.table.m.0 ≤ cores_max
  unfolding view Tables.view
  few_cores = kept.taken.cores_high

  pub soon : f.state.now.clock.0 ≤ clock_max
  unfolding view
  soon = formed-clock (view f.state.now) formed_of

  pub sizes : size (view f.state.now).table ≡ tasks f.state.now
  unfolding view
  sizes = size-view f.state.now.table f.full.rows f.few
