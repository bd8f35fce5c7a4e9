-- `reports::head::write_head` meets its contract: the two lines, one right after the other.
use Prim.Native.Nat.{◌+◌, ◌*◌}
use native.Mathlib.Omega.{arith}
use Rattle.rules.specs.Runs.{verdict_line, order_line}
use Rattle.rules.specs.Tables.{size}
use Rattle.rules.specs.Verdicts.{order}
use Rattle.tables.specs.Views.{view}
use Rattle.reading_laws.proofs.Laying.{first, more, laid-front}
use Rattle.reports.specs.Heads.{head_length}
use Rattle.reports.proofs.Heads.{length-verdict_line, length_ranks_line}
use Rattle.reports.proofs.head.write_head.Goals as goal

pub returns : goal.returns
returns c =
    let tbl = view c.args.t in
    let out = c.args.out.now in
    let one = first out (verdict_line tbl) 15 (length-verdict_line tbl) c.write_judgement.ensures in
    let two = more out one (order_line (order tbl)) (2 * size tbl + 3) (length_ranks_line tbl) (omega (arith, c.requires.room)) c.write_ranks.ensures in
    laid-front out two (head_length tbl) (omega arith)
