-- `capi::table::zq_write_list` meets its contract.
use Rattle.tables.specs.Writes.{written_list}
use Rattle.capi.specs.Calls.{write_rows}
use Rattle.capi.proofs.Replying.{wrote-replied}
use Rattle.capi.proofs.table.zq_write_list.Goals as goal

pub returns : goal.returns
unfolding write_rows written_list
returns c = wrote-replied _ _ c.settle.ensures _ _ c.write_list.ensures
