-- `machine::form::released` meets its contract: the division is rounded up.
use Rattle.rules.specs.Rows.{released, releases_before, demand}
use Rattle.machine.proofs.Dividing.{rounded_up}
use Rattle.machine.proofs.form.released.Goals as goal

pub returns : goal.returns
unfolding released releases_before demand
returns c =
    let rounded = rounded_up c.args.clock c.args.row.t c.requires.low in
    cc
