-- `stored::store::store` meets its contract: the tests in their order, then the bytes through the lent tail.
use Rattle.std.proofs.Common.{sym, ap, ◌∙◌, ℕ, ◌-◌, length, drop, length-take, length-drop, arith, Result}
use Rattle.rules.specs.declared.refusal.Refusal.{Refusal}
use Rattle.rules.proofs.Results.{passed_on, room_there}
use Rattle.tables.specs.Writes.{made}
use Rattle.machine.proofs.Testing.{passed, failed}
use Rattle.stored.proofs.Storing.{store_ill, store_short, store-written}
use Rattle.stored.proofs.store.store.Goals as goal

pub returns-in_err-formed : goal.returns-in_err-formed
returns-in_err-formed c =
    let told = failed c.args.s c.try_from.ensures c.in_err-formed.was c.from_residual.ensures.1 in
    ap (λ (a : Result ℕ Refusal). made a c.args.out.now) told.0 ∙ store_ill _ _ _ told.1

pub returns-in_err-room : goal.returns-in_err-room
returns-in_err-room c =
    ap (λ (a : Result ℕ Refusal). made a c.args.out.now) (passed_on _ c.from_residual-in_err-room.ensures.1)
    ∙ store_short c.in_ok-formed.formed (passed c.args.s c.try_from.ensures c.in_ok-formed.was) _ _ (sym c.room.ensures ∙ c.in_err-room.was)

pub write_state-requires : goal.write_state-requires
write_state-requires c =
    let out = c.args.out.now in
    let at = c.args.at in
    let same = passed c.args.s c.try_from.ensures c.in_ok-formed.was in
    rw same (omega (arith, room_there _ _ _ (sym c.room.ensures ∙ c.in_ok-room.was), length-take (length out - at) (drop at out), length-drop at out))

pub returns : goal.returns
returns c =
    store-written c.in_ok-formed.formed (passed c.args.s c.try_from.ensures c.in_ok-formed.was) _ _ (sym c.room.ensures ∙ c.in_ok-room.was) _ c.write_state.ensures
