-- `stored::decode::Stored::ranks` meets its contract: what is given for each task is the number at its place.
use Prim.Native.Nat.{◌+◌, ◌*◌}
use mathlib.Core.Path.{◌≡◌, ap, ◌∙◌}
use native.Mathlib.Omega.{arith}
use lib.ListN.{get_or}
use Rattle.std.proofs.Common.{rules}
use Rattle.machine.specs.Views.{task_number, packed}
use Rattle.stored.specs.Places.{cell}
use Rattle.stored.proofs.Cells.{byte_cell, cell-next}
use Rattle.stored.proofs.Tasks.{each_packed}
use Rattle.stored.proofs.decode.Stored.ranks.Goals as goal

pub returns : goal.returns
unfolding packed
returns c =
    let bs = c.args.self.now.bytes.now in
    let made = c.each_task.ensures in
    each_packed task_number (task_number 0) (cell bs 30 1) c.args.self.now.n _ c.args.self.now.few made.long (λ k less.
    let given = made.front k less in
    let here : get_or c.each_task.result k (task_number 0) ≡ task_number (get_or bs (30 + 34 * k) 0) = search rules in
    here ∙ ap task_number (byte_cell bs (30 + 34 * k) (omega (arith, c.args.self.now.long)) ∙ cell-next bs 30 1 k))
    made.past
