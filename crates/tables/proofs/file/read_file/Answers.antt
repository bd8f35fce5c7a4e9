-- `tables::file::read_file` meets its contract: the lines, then the tests of all rows together.
use Rattle.std.proofs.Common.{sym, ◌∙◌}
use Rattle.rules.proofs.Results.{passed_on}
use Rattle.tables.proofs.Files.{file_stops, file_goes_on}
use Rattle.tables.proofs.file.read_file.Goals as goal

pub returns-in_err-read_lines : goal.returns-in_err-read_lines
returns-in_err-read_lines c = passed_on _ c.from_residual.ensures.1 ∙ file_stops _ _ (sym c.read_lines.ensures ∙ c.in_err-read_lines.was)

pub test_whole-requires : goal.test_whole-requires
test_whole-requires c = (file_goes_on _ _ (sym c.read_lines.ensures ∙ c.in_ok-read_lines.was)).0

pub returns : goal.returns
returns c = c.test_whole.ensures ∙ (file_goes_on _ _ (sym c.read_lines.ensures ∙ c.in_ok-read_lines.was)).1
