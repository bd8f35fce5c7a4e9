-- `verdicts::limit::scaled_sum` meets its contract: no period is 0, and the sum is small.
use Prim.Native.Nat.{◌^◌, ◌≤◌, ◌<◌}
use mathlib.Core.Path.{◌≡◌, ◌∙◌, sym, ap}
use native.Mathlib.Omega.{arith}
use Rattle.std.proofs.Common.{rules, tests}
use Rattle.std.proofs.lemmas.Iterator.{YieldsList-from_slice}
use Rattle.std.proofs.lemmas.Iterator.Adapters.{serves_from_places}
use Rattle.std.specs.List.{sum_by}
use Rattle.rules.specs.Verdicts.{share}
use Rattle.tables.specs.Views.{view_row}
use Rattle.tables.specs.declared.table.Row.{Row}
use Rattle.verdicts.proofs.Summing.{shares_by, few, positive}
use Rattle.verdicts.proofs.limit.scaled_sum.Goals as goal

pub sum-requires-clause-can : goal.sum-requires-clause-can
sum-requires-clause-can c = (
  tt,
  serves_from_places (YieldsList-from_slice c.args.rows.now cc) (λ x q k. search (rules, tests))
      (λ x k more here.
      let pos : 1 ≤ x.now.t = omega (arith, ap (λ (r : Row). r.t) here, positive _ _ c.requires k x.now more) in
      search rules),
)

pub sum-requires-clause-fits : goal.sum-requires-clause-fits
sum-requires-clause-fits c =
    let h = c.args.h in
    let rows = c.args.rows.now in
    let small : sum_by (λ r. share h (view_row r)) rows < 2 ^ 64 = omega (arith, shares_by h rows, few h rows c.requires) in
    search rules

pub returns : goal.returns
returns c =
    let e : c.sum.result ≡ sum_by (λ r. share c.args.h (view_row r)) c.args.rows.now = search rules in
    e ∙ sym (shares_by c.args.h c.args.rows.now)
