-- Each call's contract permits one outcome alone: one number, and one content of whatever was lent.
use Rattle.laws.proofs.Contracts.{One, both}
use Rattle.capi.specs.Calls.{reply, filled, read, run}
use Rattle.capi.proofs.table.zq_open.Reads as zq-open
use Rattle.capi.proofs.table.zq_open_list.Reads as zq-open-list
use Rattle.capi.proofs.table.zq_write_list.Reads as zq-write-list
use Rattle.capi.proofs.program.zq_report.Reads as zq-report
use Rattle.capi.proofs.verdict.zq_verdict.Reads as zq-verdict
use Rattle.capi.proofs.state.zq_run.Reads as zq-run
use Rattle.capi.proofs.state.zq_totals.Reads as zq-totals
use Rattle.capi.proofs.state.zq_lead.Reads as zq-lead

-- the number, the state, the size and the line
pub zq_open_once : One zq-open.Post (λ κs r s. read (reply r (filled s.1.0.now s.1.1.0.now)) s.1.1.1.0.now)
zq_open_once κs a x y s t p q = both p q

pub zq_open_list_once : One zq-open-list.Post (λ κs r s. reply r (filled s.1.1.0.now s.1.1.1.0.now))
zq_open_list_once κs a x y s t p q = both p q

pub zq_write_list_once : One zq-write-list.Post (λ κs r s. reply r (filled s.1.1.0.now s.1.1.1.1.0.now))
zq_write_list_once κs a x y s t p q = both p q

pub zq_verdict_once : One zq-verdict.Post (λ κs r s. reply r (filled s.1.0.now s.1.1.1.0.now))
zq_verdict_once κs a x y s t p q = both p q

-- the number, the state, the buffer and the size
pub zq_run_once : One zq-run.Post (λ κs r s. reply r (run s.0.now s.1.1.0.now s.1.1.1.1.0.now))
zq_run_once κs a x y s t p q = both p q

pub zq_totals_once : One zq-totals.Post (λ κs r s. reply r (filled s.1.0.now s.1.1.1.0.now))
zq_totals_once κs a x y s t p q = both p q

pub zq_lead_once : One zq-lead.Post (λ κs r s. reply r s.1.1.0.now)
zq_lead_once κs a x y s t p q = both p q

pub zq_report_once : One zq-report.Post (λ κs r s. reply r (filled s.1.0.now s.1.1.1.0.now))
zq_report_once κs a x y s t p q = both p q
