-- `machine::form::task_fits` meets its contract.
use mathlib.Core.Path.{◌≡◌, sym, ◌∙◌}
use Rattle.std.proofs.Common.{rules}
use Rattle.rules.specs.Rows.{releases}
use Rattle.machine.specs.Full.{Full}
use Rattle.machine.proofs.Fitting.{fits_at, task-at}
use Rattle.machine.proofs.form.task_fits.Goals as goal

pub returns-then-from-s : goal.returns-then-from-s
unfolding releases
returns-then-from-s c =
    let s = c.args.s.now in
    let here : c.books_hold.result ≡ fits_at s c.args.i = search rules in
    let full : Full s = record { rows = search rules; ranks = search rules; left = search rules; last = search rules; done = search rules; dropped = search rules } in
    here ∙ sym (task-at s full c.requires.ready.few c.args.i c.requires.place)

pub returns-else-from-s : goal.returns-else-from-s
unfolding releases
returns-else-from-s c =
    let s = c.args.s.now in
    let here : c.if-left-eq0.value ≡ fits_at s c.args.i = search rules in
    let full : Full s = record { rows = search rules; ranks = search rules; left = search rules; last = search rules; done = search rules; dropped = search rules } in
    here ∙ sym (task-at s full c.requires.ready.few c.args.i c.requires.place)
