-- `capi::program::zq_report` meets its contract.
use Rattle.reports.specs.Reports.{report_of}
use Rattle.capi.specs.Calls.{give_report}
use Rattle.tables.specs.Writes.{wrote_text}
use Rattle.capi.proofs.Replying.{text-replied}
use Rattle.capi.proofs.program.zq_report.Goals as goal

pub returns : goal.returns
unfolding give_report report_of wrote_text
returns c = text-replied _ _ c.settle.ensures _ _ c.report.ensures
