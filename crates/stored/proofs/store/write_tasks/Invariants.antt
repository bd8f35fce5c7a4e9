-- `stored::store::write_tasks` meets its contract: so far the records of the first tasks stand at the front.
use Prim.Native.Nat.{◌*◌}
use Rattle.reading_laws.proofs.Laying.{Pieces}
use Rattle.machine.specs.Views.{tasks}
use Rattle.stored.proofs.Storing.{first_records}
use Rattle.stored.proofs.store.write_tasks.Given as goal

abbrev pub invariant-loop-i : goal.invariant-loop-i
invariant-loop-i l = Pieces (first_records l.fn.formed.state.now) 34 (tasks l.fn.formed.state.now) l.initial.out l.out (34 * l.i) l.i
