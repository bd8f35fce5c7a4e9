-- Each public function's contract permits one outcome alone: one result, and of a lent slice one content.
use Rattle.laws.proofs.Contracts.{One, both}
use Rattle.tables.specs.Writes.{made}
use Rattle.reports.proofs.head.head_length.Reads as head-length
use Rattle.reports.proofs.head.write_head.Reads as write-head
use Rattle.reports.proofs.report.report.Reads as report

pub head_length_once : One head-length.Post (λ κs r s. r)
head_length_once κs a x y s t p q = both p q

pub write_head_once : One write-head.Post (λ κs r s. s.0.now)
write_head_once κs a x y s t p q = both p q

pub report_once : One report.Post (λ κs r s. made r s.1.0.now)
report_once κs a x y s t p q = both p q
