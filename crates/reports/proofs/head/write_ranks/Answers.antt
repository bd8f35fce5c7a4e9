-- `reports::head::write_ranks` meets its contract: the front of the array of ranks is the order.
use Prim.Native.Nat.{ℕ, ◌+◌, ◌*◌}
use mathlib.Core.Path.{refl, ap, ◌∙◌}
use mathlib.Core.List.{List, ◌++◌}
use native.Mathlib.Omega.{arith}
use lib.ListN.{length, drop}
use Rattle.rules.specs.Runs.{order_line}
use Rattle.rules.specs.Verdicts.{order}
use Rattle.priority_laws.proofs.Priority.{order-length}
use Rattle.tables.specs.Views.{view}
use Rattle.tables.proofs.Views.{table_full}
use Rattle.reports.proofs.Heads.{count_is, ordered, ranks-front}
use Rattle.reports.proofs.head.write_ranks.Goals as goal

pub unwrap-requires : goal.unwrap-requires
unwrap-requires c = rw (c.priority.ensures, ordered c.args.t c.requires.opened) refl

pub write_order-requires : goal.write_order-requires
write_order-requires c =
    let count = count_is _ (table_full _ _ c.well_formed.1.0) c.rows_of-n.ensures in
    let front = ranks-front _ c.requires.opened c.priority.ensures c.unwrap.ensures c.plain-ranks.ensures count in
    omega (arith, ap length front, order-length (view c.args.t), c.requires.room)

pub returns : goal.returns
returns c =
    let count = count_is _ (table_full _ _ c.well_formed.1.0) c.rows_of-n.ensures in
    let front = ranks-front _ c.requires.opened c.priority.ensures c.unwrap.ensures c.plain-ranks.ensures count in
    let tbl = view c.args.t in
    let out = c.args.out.now in
    c.write_order.ensures
    ∙ ap (λ (l : List ℕ). order_line l ++ drop (2 * length l + 3) out) front
    ∙ ap (λ (n : ℕ). order_line (order tbl) ++ drop (2 * n + 3) out) (order-length tbl)
