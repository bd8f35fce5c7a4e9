-- `capi::table::zq_open_list` meets its contract.
use Rattle.capi.specs.Calls.{open_list}
use Rattle.capi.proofs.Opening.{list_takes, takes_startable, open_replied}
use Rattle.capi.proofs.table.zq_open_list.Goals as goal

pub open_table-requires : goal.open_table-requires
open_table-requires c = takes_startable _ (list_takes _ _) c.take_list.ensures

pub returns : goal.returns
unfolding open_list
returns c = open_replied _ _ _ c.settle.ensures c.take_list.ensures c.open_table.ensures
