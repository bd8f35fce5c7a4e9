-- `capi::state::run_over` meets its contract.
use Rattle.std.proofs.Common.{refl, sym, ap, ◌∙◌, ℕ, Result}
use Rattle.rules.specs.declared.refusal.Refusal.{Refusal}
use Rattle.rules.proofs.Results.{passed_on}
use Rattle.capi.specs.Answers.{ran_as}
use Rattle.capi.proofs.Loading.{loaded}
use Rattle.capi.proofs.Running.{run-missing, run-refused, cores-few, kept-ok, run-taken}
use Rattle.capi.proofs.state.run_over.Goals as goal

pub returns-in_err-s : goal.returns-in_err-s
returns-in_err-s c =
    let a = c.args in
    λ before.
    ap (λ (x : Result ℕ Refusal). ran_as before x a.state.now a.out.now) (passed_on _ c.from_residual.ensures.1)
    ∙ run-missing a.state.now a.count a.out.now a.at (sym c.load.ensures ∙ c.in_err-s.was) before

pub returns-in_err-after : goal.returns-in_err-after
returns-in_err-after c =
    let a = c.args in
    let found = loaded a.state.now (sym c.load.ensures ∙ c.in_ok-s.was) in
    λ before.
    ap (λ (x : Result ℕ Refusal). ran_as before x a.state.now c.run.new.out) (passed_on _ c.from_residual-in_err-after.ensures.1)
    ∙ run-refused a.state.now a.count a.out.now a.at found c.run.ensures c.in_err-after.was before

pub unwrap-requires : goal.unwrap-requires
unwrap-requires c =
    let a = c.args in
    let found = loaded a.state.now (sym c.load.ensures ∙ c.in_ok-s.was) in
    rw (kept-ok a.state.now a.count a.out.now a.at found c.run.ensures c.in_ok-after.was c.store.ensures) refl

pub length_of-requires : goal.length_of-requires
length_of-requires c =
    let a = c.args in
    let found = loaded a.state.now (sym c.load.ensures ∙ c.in_ok-s.was) in
    cores-few a.state.now a.count a.out.now a.at found c.run.ensures c.in_ok-after.was

pub returns : goal.returns
returns c =
    let a = c.args in
    let found = loaded a.state.now (sym c.load.ensures ∙ c.in_ok-s.was) in
    run-taken a.state.now a.count a.out.now a.at found c.run.ensures c.in_ok-after.was c.store.ensures c.length_of.ensures
