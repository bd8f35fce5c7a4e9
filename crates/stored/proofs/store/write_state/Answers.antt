-- `stored::store::write_state` meets its contract: the fixed part, and the records right after it.
use Rattle.stored.proofs.Storing.{state-written}
use Rattle.stored.proofs.store.write_state.Goals as goal

pub returns : goal.returns
returns c =
    state-written c.args.formed c.args.out.now _ _ c.requires c.write_fixed.ensures c.write_tasks.ensures
