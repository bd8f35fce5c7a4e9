-- `verdicts::share::count_heavy` meets its contract.
use Rattle.std.proofs.Common.{◌≡◌, ◌∙◌, sym, rules}
use Rattle.std.specs.List.{count_by}
use Rattle.rules.specs.Verdicts.{fraction, heavy_at}
use Rattle.tables.specs.Views.{view_row}
use Rattle.verdicts.proofs.Counting.{heavy_rows}
use Rattle.verdicts.proofs.share.count_heavy.Goals as goal

pub returns : goal.returns
returns c =
    let e : c.count.result ≡ count_by (λ r. heavy_at (fraction c.args.table.now.m) (view_row r)) c.args.table.now.rows.now = search rules in
    e ∙ sym (heavy_rows c.args.table.now.m c.args.table.now.rows.now)
