-- `stored::decode::Stored::rows` meets its contract: what is given for each task is the number at its place.
use Prim.Native.Nat.{ℕ, ◌+◌, ◌*◌}
use mathlib.Core.Path.{◌≡◌, ap, ◌∙◌}
use lib.ListN.{get_or}
use Rattle.std.proofs.Common.{rules}
use Rattle.tables.specs.Views.{pack_row, zero_row, pack_rows}
use Rattle.stored.specs.Layout.{place_of}
use Rattle.stored.specs.Places.{row_at}
use Rattle.stored.proofs.Cells.{place-next}
use Rattle.stored.proofs.Tasks.{each_packed}
use Rattle.stored.proofs.decode.Stored.rows.Goals as goal

pub returns : goal.returns
unfolding pack_rows
returns c =
    let bs = c.args.self.now.bytes.now in
    let made = c.each_task.ensures in
    each_packed pack_row zero_row (λ i. row_at bs (place_of i)) c.args.self.now.n _ c.args.self.now.few made.long (λ k less.
    let given = made.front k less in
    let here : get_or c.each_task.result k zero_row ≡ pack_row (row_at bs (22 + 34 * k)) = search rules in
    here ∙ ap (λ (p : ℕ). pack_row (row_at bs p)) (place-next k))
    made.past
