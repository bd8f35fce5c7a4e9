-- `reports::report::reply_length` meets its contract.
use mathlib.Core.Path.{sym, ◌∙◌}
use Rattle.reports.proofs.Replies.{taken-opened, taken-length, refused-length}
use Rattle.reports.proofs.report.reply_length.Goals as goal

pub report_length-requires : goal.report_length-requires
report_length-requires c = taken-opened c.requires c.in-Ok.is

pub returns-in-Ok : goal.returns-in-Ok
returns-in-Ok c = c.report_length.ensures ∙ sym (taken-length c.requires c.in-Ok.is)

pub returns-in-Err : goal.returns-in-Err
returns-in-Err c = sym (refused-length c.requires c.in-Err.is)
