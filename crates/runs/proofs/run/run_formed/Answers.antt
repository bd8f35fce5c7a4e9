-- `runs::run::run_formed` meets its contract: the state is taken apart, its slots are run on the fronts of the arrays, and it is put together.
use Rattle.runs.proofs.Running.{runnable, run-formed}
use Rattle.runs.proofs.run.run_formed.Goals as goal

pub run_slots-totals-requires : goal.run_slots-totals-requires
run_slots-totals-requires c = runnable c.args.formed c.requires c.apart.ensures

pub returns : goal.returns
returns c = run-formed c.args.formed c.requires c.apart.ensures c.run_slots-totals.ensures _ _ _ _ c.together.ensures
