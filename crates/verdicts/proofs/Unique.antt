-- Each public function's contract permits one outcome alone: one result, and of a lent slice one content.
use Rattle.laws.proofs.Contracts.{One, both}
use Rattle.verdicts.proofs.share.Fraction.of.Reads as fraction
use Rattle.verdicts.proofs.share.times.Reads as times
use Rattle.verdicts.proofs.share.is_heavy.Reads as is-heavy
use Rattle.verdicts.proofs.share.count_heavy.Reads as count-heavy
use Rattle.verdicts.proofs.limit.scaled_sum.Reads as scaled-sum
use Rattle.verdicts.proofs.limit.is_admitted.Reads as is-admitted
use Rattle.verdicts.proofs.limit.judge.Reads as judge
use Rattle.verdicts.proofs.order.order.Reads as order
use Rattle.verdicts.proofs.lines.write_verdict.Reads as write-verdict
use Rattle.verdicts.proofs.lines.write_order.Reads as write-order
use Rattle.verdicts.proofs.table.test_table.Reads as test_table
use Rattle.verdicts.proofs.table.plain.Reads as plain
use Rattle.verdicts.proofs.table.verdict.Reads as verdict
use Rattle.verdicts.proofs.table.priority.Reads as priority

pub fraction_once : One fraction.Post (λ κs r s. r)
fraction_once κs a x y s t p q = both p q

pub times_once : One times.Post (λ κs r s. r)
times_once κs a x y s t p q = both p q

pub is_heavy_once : One is-heavy.Post (λ κs r s. r)
is_heavy_once κs a x y s t p q = both p q

pub count_heavy_once : One count-heavy.Post (λ κs r s. r)
count_heavy_once κs a x y s t p q = both p q

pub scaled_sum_once : One scaled-sum.Post (λ κs r s. r)
scaled_sum_once κs a x y s t p q = both p q

pub is_admitted_once : One is-admitted.Post (λ κs r s. r)
is_admitted_once κs a x y s t p q = both p q

pub judge_once : One judge.Post (λ κs r s. r)
judge_once κs a x y s t p q = both p q

pub order_once : One order.Post (λ κs r s. s.1.0.now)
order_once κs a x y s t p q = both p q

pub write_verdict_once : One write-verdict.Post (λ κs r s. s.0.now)
write_verdict_once κs a x y s t p q = both p q

pub write_order_once : One write-order.Post (λ κs r s. s.0.now)
write_order_once κs a x y s t p q = both p q

pub test_table_once : One test_table.Post (λ κs r s. r)
test_table_once κs a x y s t p q = both p q

pub plain_once : One plain.Post (λ κs r s. r)
plain_once κs a x y s t p q = both p q

pub verdict_once : One verdict.Post (λ κs r s. r)
verdict_once κs a x y s t p q = both p q

pub priority_once : One priority.Post (λ κs r s. r)
priority_once κs a x y s t p q = both p q
