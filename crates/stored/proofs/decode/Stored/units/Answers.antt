-- `stored::decode::Stored::units` meets its contract: what is given for each task is the number at its place.
use Prim.Native.Nat.{◌+◌, ◌*◌}
use mathlib.Core.Path.{◌≡◌, ap, ◌∙◌}
use lib.ListN.{get_or}
use Rattle.std.proofs.Common.{rules}
use Rattle.machine.specs.Views.{units as units_of, packed}
use Rattle.stored.specs.Places.{number_at, cell}
use Rattle.stored.proofs.Cells.{cell-next}
use Rattle.stored.proofs.Tasks.{each_packed}
use Rattle.stored.proofs.decode.Stored.units.Goals as goal

pub returns : goal.returns
unfolding packed
returns c =
    let bs = c.args.self.now.bytes.now in
    let made = c.each_task.ensures in
    each_packed units_of (units_of 0) (cell bs c.args.from 8) c.args.self.now.n _ c.args.self.now.few made.long (λ k less.
    let given = made.front k less in
    let here : get_or c.each_task.result k (units_of 0) ≡ units_of (number_at bs (c.args.from + 34 * k) 8) = search rules in
    here ∙ ap units_of (cell-next bs c.args.from 8 k))
    made.past
