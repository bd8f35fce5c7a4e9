-- `tables::repeat::repeat_length` meets its contract: the value at hand, taken on through the rows that are left, is H.
use Rattle.std.proofs.Common.{sym, ap, ◌∙◌, List, arith}
use Rattle.rules.specs.Kinds.{repeat_of}
use Rattle.rules.specs.Rows.{Row}
use Rattle.rules.specs.Repeat.{repeat_length}
use Rattle.tables.proofs.Views.{rows-lent}
use Rattle.tables.proofs.Repeats.{repeating_starts, repeating_goes_on, repeating_stops, repeating_ends}
use Rattle.tables.proofs.repeat.repeat_length.Goals as goal

pub loop-row-init : goal.loop-row-init
loop-row-init c = repeating_starts _

pub returns-in_err-h : goal.returns-in_err-h
returns-in_err-h c =
    let lent = rows-lent c.args.table c.well_formed.0 c.rows_of.ensures in
    c.from_residual.ensures
    ∙ sym (repeating_stops _ c.loop-row.invariant (omega arith) (sym c.lcm.ensures ∙ c.in_err-h.was))
    ∙ ap (λ (rows : List Row). repeat_of (repeat_length rows)) lent

pub loop-row-preserved : goal.loop-row-preserved
loop-row-preserved c = repeating_goes_on _ c.loop-row.invariant (omega arith) (sym c.lcm.ensures ∙ c.in_ok-h.was)

pub returns : goal.returns
returns c =
    let lent = rows-lent c.args.table c.well_formed.0 c.rows_of.ensures in
    sym (repeating_ends _ c.loop-row.invariant (omega arith)) ∙ ap (λ (rows : List Row). repeat_of (repeat_length rows)) lent
