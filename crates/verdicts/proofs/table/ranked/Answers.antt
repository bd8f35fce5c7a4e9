-- `verdicts::table::ranked` meets its contract: the order of the rows that count, and zeros past it.
use mathlib.Core.Path.{◌∙◌}
use Rattle.tables.proofs.Views.{table_full}
use Rattle.verdicts.proofs.Structs.{bounds_of, ranks-packed}
use Rattle.verdicts.proofs.table.ranked.Goals as goal

pub invariant_of-lent : goal.invariant_of-lent
invariant_of-lent c = record { bounds = bounds_of _ c.requires }

pub returns : goal.returns
returns c = c.numbered.ensures ∙ ranks-packed _ (table_full c.args.table _ c.well_formed.0) c.requires c.order.ensures
