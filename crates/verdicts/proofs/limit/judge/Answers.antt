-- `verdicts::limit::judge` meets its contract.
use Rattle.verdicts.proofs.Judging.{sharing_of, weighed_of, judged}
use Rattle.verdicts.proofs.limit.judge.Goals as goal

pub scaled_sum-requires : goal.scaled_sum-requires
scaled_sum-requires c = sharing_of c.args.table.now _ c.requires

pub is_admitted-requires : goal.is_admitted-requires
is_admitted-requires c = rw c.scaled_sum.ensures (weighed_of c.args.table.now _ c.requires)

pub returns-then-is_admitted : goal.returns-then-is_admitted
returns-then-is_admitted c = judged c.args.table.now _ c.requires c.scaled_sum.ensures c.is_admitted.ensures c.if-is_admitted.true

pub returns-else-is_admitted : goal.returns-else-is_admitted
returns-else-is_admitted c = judged c.args.table.now _ c.requires c.scaled_sum.ensures c.is_admitted.ensures c.if-is_admitted.false
