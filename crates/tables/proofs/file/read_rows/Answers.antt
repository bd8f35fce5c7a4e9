-- `tables::file::read_rows` meets its contract: the rows that were read, and those that are read from here on, are the whole.
use Rattle.std.proofs.Common.{sym, ap, ◌∙◌, Err}
use Rattle.laws.proofs.Tails.{tail_lent}
use Rattle.rules.proofs.Results.{passed_on}
use Rattle.tables.specs.Views.{pack_rows}
use Rattle.tables.proofs.Rows.{row_missing, row_found}
use Rattle.tables.proofs.Files.{rows_start, rows_stop, rows_go_on, rows_end}
use Rattle.tables.proofs.file.read_rows.Goals as goal

pub loop-i-init : goal.loop-i-init
unfolding pack_rows
loop-i-init c = rows_start _ _

pub returns-in_default : goal.returns-in_default
returns-in_default c =
    let lent = tail_lent c.args.s.now c.loop-i.at c.loop-i.invariant.inside in
    ap Err c.at.ensures
    ∙ rows_stop _ _ _ _ _ c.loop-i.invariant c.loop-i-test.true _ (sym (row_missing _ _ (rw lent at (sym c.read.ensures ∙ c.in_default.is))))

pub returns-in_err-rows : goal.returns-in_err-rows
returns-in_err-rows c =
    let lent = tail_lent c.args.s.now c.loop-i.at c.loop-i.invariant.inside in
    let found = row_found _ _ _ _ (rw lent at (sym c.read.ensures ∙ c.in-Some.is)) in
    passed_on _ c.from_residual.ensures.1
    ∙ rows_stop _ _ _ _ _ c.loop-i.invariant c.loop-i-test.true _ (sym found ∙ sym c.test_row.ensures ∙ c.in_err-rows.was)

pub loop-i-preserved : goal.loop-i-preserved
loop-i-preserved c =
    let lent = tail_lent c.args.s.now c.loop-i.at c.loop-i.invariant.inside in
    let found = row_found _ _ _ _ (rw lent at (sym c.read.ensures ∙ c.in-Some.is)) in
    rw c.bytes.ensures (rows_go_on _ _ _ _ _ c.loop-i.invariant c.loop-i-test.true _ c.requires (sym found ∙ sym c.test_row.ensures ∙ c.in_ok-rows.was))

pub returns : goal.returns
returns c = rows_end _ _ _ _ _ c.loop-i.invariant c.loop-i-test.false
