-- `reports::table::slots_of` meets its contract: an H above its bound is above the bound of the slots.
use native.Mathlib.Omega.{arith}
use Rattle.tables.specs.Views.{view}
use Rattle.reports.proofs.Texts.{above}
use Rattle.reports.proofs.table.slots_of.Goals as goal

pub returns-in-None : goal.returns-in-None
returns-in-None c = omega (arith, above (view c.args.t).rows c.repeat_length.ensures c.in-None.is)
