-- `stored::store::write_tasks` meets its contract: so far the records of the first tasks stand at the front.
use mathlib.Core.Path.{refl}
use Rattle.reading_laws.proofs.Laying.{no_piece, all_pieces}
use Rattle.stored.proofs.Storing.{next_record}
use Rattle.stored.proofs.store.write_tasks.Goals as goal

pub loop-i-init : goal.loop-i-init
loop-i-init c = no_piece refl c.requires

pub loop-i-preserved : goal.loop-i-preserved
loop-i-preserved c = next_record _ c.loop-i.invariant c.loop-i-test.true c.write_task.ensures

pub returns : goal.returns
returns c = all_pieces c.loop-i.invariant c.loop-i-test.false
