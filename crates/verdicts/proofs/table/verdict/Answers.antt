-- `verdicts::table::verdict` meets its contract.
use Rattle.tables.proofs.Views.{table_full}
use Rattle.verdicts.proofs.Testing.{known}
use Rattle.verdicts.proofs.table.verdict.Goals as goal

pub judged-requires : goal.judged-requires
judged-requires c = known _ c.test_table.ensures (table_full c.args.table _ c.well_formed.0) c.in_ok-h.was
