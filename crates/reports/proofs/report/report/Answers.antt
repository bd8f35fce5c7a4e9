-- `reports::report::report` meets its contract: the room is tested for all of the text, and then it is written.
use Rattle.std.proofs.Common.{sym, ap, ◌∙◌, ℕ, Result, Err, arith}
use Rattle.rules.specs.declared.refusal.Refusal.{Refusal}
use Rattle.rules.proofs.Results.{passed_on, room_short, room_there}
use Rattle.tables.specs.Writes.{made}
use Rattle.reports.proofs.Reporting.{no_room, room_given}
use Rattle.reports.proofs.report.report.Goals as goal

pub returns-in_err-room : goal.returns-in_err-room
returns-in_err-room c =
    let a = c.args in
    let short = room_short _ _ _ (sym c.room.ensures ∙ c.in_err-room.was) in
    ap (λ (r : Result ℕ Refusal). made r a.out.now) (passed_on _ c.from_residual.ensures.1 ∙ ap Err short.1)
    ∙ no_room a.input.now a.out.now a.at c.read_input-answer.ensures c.reply_length-size.ensures (omega (arith, short.0))

pub returns : goal.returns
returns c =
    let a = c.args in
    let there = room_there _ _ _ (sym c.room.ensures ∙ c.in_ok-room.was) in
    room_given a.input.now a.out.now a.at c.read_input-answer.ensures c.reply_length-size.ensures (omega (arith, there)) c.write_reply.ensures
