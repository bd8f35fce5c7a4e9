-- `runs::run::run` meets its contract: the tests in their order, then the run.
use Rattle.std.proofs.Common.{sym, ap, ◌∙◌, Result, arith}
use Rattle.rules.specs.declared.refusal.Refusal.{Refusal}
use Rattle.rules.proofs.Results.{passed_on}
use Rattle.machine.specs.declared.state.State.{State}
use Rattle.machine.proofs.Testing.{passed, well, failed, soon, few_cores}
use Rattle.runs.specs.Answers.{run_end}
use Rattle.runs.proofs.Answering.{refuse_state, refuse_clock, refuse_room, take-run}
use Rattle.runs.proofs.run.run.Goals as goal

pub returns-in_err-formed : goal.returns-in_err-formed
returns-in_err-formed c =
    let told = failed c.args.s c.try_from.ensures c.in_err-formed.was c.from_residual.ensures.1 in
    ap (λ (a : Result State Refusal). run_end a c.args.out.now) told.0 ∙ refuse_state _ _ _ _ told.1

pub is_past-requires : goal.is_past-requires
is_past-requires c = rw (← passed c.args.s c.try_from.ensures c.in_ok-formed.was) (soon c.in_ok-formed.formed)

pub returns-then-is_past : goal.returns-then-is_past
returns-then-is_past c =
    refuse_clock _ _ _ _ (well c.args.s c.try_from.ensures c.in_ok-formed.was) (sym c.is_past.ensures ∙ c.if-is_past.true)

pub length_of-requires : goal.length_of-requires
length_of-requires c = rw (← passed c.args.s c.try_from.ensures c.in_ok-formed.was) (few_cores c.in_ok-formed.formed)

pub returns-in_err-room : goal.returns-in_err-room
returns-in_err-room c =
    ap (λ (a : Result State Refusal). run_end a c.args.out.now) (passed_on _ c.from_residual-in_err-room.ensures.1)
    ∙ refuse_room _ _ _ _ (well c.args.s c.try_from.ensures c.in_ok-formed.was) (grind arith) c.length_of.ensures
    (sym c.room.ensures ∙ c.in_err-room.was)

pub returns : goal.returns
returns c =
    take-run _ _ _ _ (well c.args.s c.try_from.ensures c.in_ok-formed.was) (sym c.is_past.ensures ∙ c.if-is_past.false) c.length_of.ensures
    (sym c.room.ensures ∙ c.in_ok-room.was) (rw (passed c.args.s c.try_from.ensures c.in_ok-formed.was) at c.run_formed.ensures)
