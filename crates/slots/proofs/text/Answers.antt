-- `slots::text` meets its contract: no text is longer than the buffer.
use Rattle.std.proofs.Common.{refl}
use Rattle.reports.proofs.Reporting.{answer_is, printed}
use Rattle.slots.proofs.text.Goals as goal

pub unwrap-requires : goal.unwrap-requires
unwrap-requires c = rw (answer_is c.args.input.now c.args.out.now c.requires c.report.ensures) refl

pub returns : goal.returns
returns c = printed c.args.input.now c.args.out.now c.requires c.report.ensures c.unwrap.ensures
