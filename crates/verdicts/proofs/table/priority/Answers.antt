-- `verdicts::table::priority` meets its contract.
use Rattle.tables.proofs.Views.{table_full}
use Rattle.verdicts.proofs.Testing.{known}
use Rattle.verdicts.proofs.table.priority.Goals as goal

pub ranked-requires : goal.ranked-requires
ranked-requires c = (known _ c.test_table.ensures (table_full c.args.table _ c.well_formed.0) c.in_ok-test_table.was).sound
