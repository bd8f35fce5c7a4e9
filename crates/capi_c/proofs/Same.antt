-- What the contract of an export says of arguments, result and lent values is what that of `capi`'s function of its name says: so what is proved
-- of a call of the one holds of a call of the other.
use mathlib.Core.Path.{◌≡◌, refl}
use Rattle.capi.proofs.program.zq_report.Reads as report
use Rattle.capi.proofs.state.zq_lead.Reads as lead
use Rattle.capi.proofs.state.zq_run.Reads as run
use Rattle.capi.proofs.state.zq_totals.Reads as totals
use Rattle.capi.proofs.table.zq_open.Reads as open_file
use Rattle.capi.proofs.table.zq_open_list.Reads as open_list
use Rattle.capi.proofs.table.zq_write_list.Reads as write_list
use Rattle.capi.proofs.verdict.zq_verdict.Reads as verdict
use Rattle.capi_c.proofs.zq_lead.Reads as export_lead
use Rattle.capi_c.proofs.zq_open.Reads as export_open_file
use Rattle.capi_c.proofs.zq_open_list.Reads as export_open_list
use Rattle.capi_c.proofs.zq_report.Reads as export_report
use Rattle.capi_c.proofs.zq_run.Reads as export_run
use Rattle.capi_c.proofs.zq_totals.Reads as export_totals
use Rattle.capi_c.proofs.zq_verdict.Reads as export_verdict
use Rattle.capi_c.proofs.zq_write_list.Reads as export_write_list

pub zq_open_same : export_open_file.Post ≡ open_file.Post
zq_open_same = refl

pub zq_open_list_same : export_open_list.Post ≡ open_list.Post
zq_open_list_same = refl

pub zq_write_list_same : export_write_list.Post ≡ write_list.Post
zq_write_list_same = refl

pub zq_verdict_same : export_verdict.Post ≡ verdict.Post
zq_verdict_same = refl

pub zq_run_same : export_run.Post ≡ run.Post
zq_run_same = refl

pub zq_totals_same : export_totals.Post ≡ totals.Post
zq_totals_same = refl

pub zq_lead_same : export_lead.Post ≡ lead.Post
zq_lead_same = refl

pub zq_report_same : export_report.Post ≡ report.Post
zq_report_same = refl
