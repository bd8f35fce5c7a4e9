-- `verdicts::table::judged` meets its contract: the rows that count are the table.
use mathlib.Core.Path.{ap, ◌∙◌}
use Rattle.rules.specs.Verdicts.{verdict, heavy_count}
use Rattle.tables.specs.Views.{view}
use Rattle.verdicts.proofs.Structs.{says, bounds_of}
use Rattle.verdicts.proofs.table.judged.Goals as goal

pub invariant_of-lent : goal.invariant_of-lent
invariant_of-lent c = record { bounds = bounds_of _ c.requires.sound }

pub judge-requires : goal.judge-requires
unfolding view
judge-requires c = c.requires.length

pub returns : goal.returns
returns c =
    let v = c.judge.ensures ∙ ap verdict (says c.args.table) in
    let k = c.count_heavy.ensures ∙ ap heavy_count (says c.args.table) in
    λ j. record { verdict = v j; heavy = k j; repeat = record { 0 = c.requires.length j } }
