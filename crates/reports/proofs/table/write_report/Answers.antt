-- `reports::table::write_report` meets its contract: the head, and right after it the slots and the totals.
use Rattle.reports.proofs.Whole.{report-written}
use Rattle.reports.proofs.table.write_report.Goals as goal

pub returns : goal.returns
returns c =
    report-written c.args.t c.requires.opened c.args.out.now c.requires.room c.head_length-at.ensures c.slots_of-count.ensures
    c.write_head.ensures
    c.write_run.ensures
