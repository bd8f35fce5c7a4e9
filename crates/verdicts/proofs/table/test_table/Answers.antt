-- `verdicts::table::test_table` meets its contract: the header, the rows, then the repeat length.
use Rattle.std.proofs.Common.{sym, ap, ◌∙◌}
use Rattle.std.specs.Prelude.{ok_or}
use Rattle.rules.proofs.Results.{passed_on}
use Rattle.verdicts.proofs.Testing.{header_stops, rows_stop, repeat_decides}
use Rattle.verdicts.proofs.table.test_table.Goals as goal

pub returns-in_err-test_header : goal.returns-in_err-test_header
returns-in_err-test_header c = passed_on _ c.from_residual.ensures.1 ∙ header_stops _ (sym c.test_header.ensures ∙ c.in_err-test_header.was)

pub returns-in_err-test_rows : goal.returns-in_err-test_rows
returns-in_err-test_rows c =
    passed_on _ c.from_residual-in_err-test_rows.ensures.1
    ∙ rows_stop _ (sym c.test_header.ensures ∙ c.in_ok-test_header.was) (sym c.test_rows.ensures ∙ c.in_err-test_rows.was)

pub returns : goal.returns
returns c =
    c.ok_or.ensures.value
    ∙ ap (ok_or c.repeat_length.result) c.at.ensures
    ∙ repeat_decides _ (sym c.test_header.ensures ∙ c.in_ok-test_header.was) (sym c.test_rows.ensures ∙ c.in_ok-test_rows.was) c.repeat_length.result c.repeat_length.ensures
