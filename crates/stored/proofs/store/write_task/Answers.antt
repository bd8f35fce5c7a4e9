-- `stored::store::write_task` meets its contract: its numbers are those of the task.
use Rattle.stored.proofs.Storing.{task-entries}
use Rattle.stored.proofs.store.write_task.Goals as goal

pub returns : goal.returns
returns c =
    rw (task-entries c.args.formed c.args.i c.requires.among, ← c.from.ensures, ← c.from-2.ensures, ← c.from-3.ensures, ← c.from-4.ensures)
    c.write_numbers.ensures
