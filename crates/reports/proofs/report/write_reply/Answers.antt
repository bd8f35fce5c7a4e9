-- `reports::report::write_reply` meets its contract: the text of the table, or the line of the refusal.
use mathlib.Core.Path.{◌∙◌}
use native.Mathlib.Omega.{arith}
use Rattle.reports.proofs.Replies.{taken-opened, taken-length, taken-written, refused-length, refused-written}
use Rattle.reports.proofs.report.write_reply.Goals as goal

pub write_report-requires : goal.write_report-requires
write_report-requires c =
    let taken = c.in-Ok.is in
    let answered = c.requires.answered in
    record {
      opened = taken-opened answered taken;
      room = omega (arith, taken-length answered taken, c.requires.room);
    }

pub write_refusal-requires : goal.write_refusal-requires
write_refusal-requires c =
    let told = c.in-Err.is in
    let answered = c.requires.answered in
    omega (arith, refused-length answered told, c.requires.room)

pub returns-in-Ok : goal.returns-in-Ok
returns-in-Ok c = c.write_report.ensures ∙ taken-written c.requires.answered c.in-Ok.is c.args.out.now

pub returns-in-Err : goal.returns-in-Err
returns-in-Err c = refused-written c.requires.answered c.in-Err.is c.args.out.now (rw c.from.ensures at c.write_refusal.ensures) (omega arith)
