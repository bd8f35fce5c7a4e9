-- `capi::table::open_table` meets its contract.
use Rattle.std.proofs.Common.{◌≡◌, refl, sym, ap, ◌∙◌, ℕ, List, Result, Err}
use Rattle.rules.specs.declared.refusal.Refusal.{Refusal}
use Rattle.rules.specs.declared.refusal.Refused.{Refused}
use Rattle.rules.proofs.Results.{passed_on}
use Rattle.tables.specs.declared.table.Table.{Table}
use Rattle.tables.specs.Writes.{made}
use Rattle.stored.specs.Answers.{stored_state}
use Rattle.capi.specs.Answers.{fresh_of}
use Rattle.capi.proofs.Opening.{fresh_stored}
use Rattle.capi.proofs.table.open_table.Goals as goal

ended : (taken : Result Table Refused) (state : List ℕ) {e : Refused} → taken ≡ Err e → made (Err e.refusal) state ≡ fresh_of taken state
unfolding fresh_of
ended taken state h = rw h refl

pub returns-in_err-taken : goal.returns-in_err-taken
returns-in_err-taken c =
    ap (λ (x : Result ℕ Refusal). made x c.args.state.now) (passed_on _ c.from_residual.ensures.1)
    ∙ ended c.args.taken c.args.state.now c.in_err-taken.was

pub returns : goal.returns
returns c =
    let t = c.in_ok-taken.field-0 in
    let state = c.args.state.now in
    let told = c.in_ok-taken.was in
    let answer : made c.store.result _ ≡ stored_state c.fresh.result state 0 = c.store.ensures in
    answer ∙ fresh_stored t (c.requires t told) _ c.fresh.ensures _ ∙ ap (λ (x : Result Table Refused). fresh_of x state) (sym told)
