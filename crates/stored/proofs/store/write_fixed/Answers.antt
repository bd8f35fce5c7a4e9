-- `stored::store::write_fixed` meets its contract: its numbers are those of the state.
use Rattle.stored.proofs.Storing.{fixed_numbers}
use Rattle.stored.proofs.store.write_fixed.Goals as goal

pub returns : goal.returns
returns c = rw (fixed_numbers c.args.formed, ← c.from.ensures, ← c.from-2.ensures, ← c.from-3.ensures) c.write_numbers.ensures
