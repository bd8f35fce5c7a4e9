-- `reports::table::report_length` meets its contract.
use Rattle.reports.proofs.Texts.{cores-few, size_is}
use Rattle.reports.proofs.table.report_length.Goals as goal

pub length_of-requires : goal.length_of-requires
length_of-requires c = cores-few c.args.t c.requires

pub returns : goal.returns
returns c = size_is _ c.requires c.head_length.ensures c.slots_of.ensures c.length_of.ensures
