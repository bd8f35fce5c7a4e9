-- `reports::table::write_run` meets its contract: the run from the fresh state is taken, and so are the totals after it.
use mathlib.Core.Path.{refl}
use native.Mathlib.Omega.{arith}
use Rattle.reports.proofs.Heads.{accepted}
use Rattle.reports.proofs.Texts.{cores-few, slots_end, run-ended, end_state, totals-there, run-written}
use Rattle.reports.proofs.table.write_run.Goals as goal

pub length_of-end-requires : goal.length_of-end-requires
length_of-end-requires c = cores-few c.args.t c.requires.opened

pub unwrap-state-requires : goal.unwrap-state-requires
unwrap-state-requires c =
    rw (run-ended _ (accepted _ c.requires.opened) _ c.requires.few _ c.requires.room c.fresh-start.ensures c.run.ensures) refl

pub slice_bounds-write_totals-count : goal.slice_bounds-write_totals-count
slice_bounds-write_totals-count c =
    omega (arith, slots_end _ c.requires.opened c.args.count c.length_of-end.ensures, c.requires.room)

pub slice_bounds-write_totals-start : goal.slice_bounds-write_totals-start
slice_bounds-write_totals-start c =
    omega (arith, slots_end _ c.requires.opened c.args.count c.length_of-end.ensures, c.requires.room)

pub unwrap-requires : goal.unwrap-requires
unwrap-requires c =
    let fine = accepted _ c.requires.opened in
    rw (totals-there _ fine _ c.requires.few _ c.requires.room c.fresh-start.ensures c.run.ensures
    (slots_end _ c.requires.opened c.args.count c.length_of-end.ensures) c.write_totals.ensures
    (end_state _ fine _ c.requires.few _ c.requires.room c.fresh-start.ensures c.run.ensures c.unwrap-state.ensures)) refl

pub returns : goal.returns
returns c =
    let fine = accepted _ c.requires.opened in
    run-written _ fine _ c.requires.few _ c.requires.room c.fresh-start.ensures c.run.ensures
    (slots_end _ c.requires.opened c.args.count c.length_of-end.ensures) c.write_totals.ensures
    (end_state _ fine _ c.requires.few _ c.requires.room c.fresh-start.ensures c.run.ensures c.unwrap-state.ensures)
