-- `tables::header::read_header` meets its contract.
use Rattle.std.proofs.Common.{sym, ap, ◌∙◌, Err}
use Rattle.tables.proofs.Headers.{header_missing, header_found}
use Rattle.tables.proofs.header.read_header.Goals as goal

pub returns-in_default : goal.returns-in_default
returns-in_default c = ap Err c.at.ensures ∙ header_missing _ (sym c.read.ensures ∙ c.in_default.is)

pub returns : goal.returns
returns c = c.test_header.ensures ∙ header_found _ _ _ (sym c.read.ensures ∙ c.in-Some.is)
