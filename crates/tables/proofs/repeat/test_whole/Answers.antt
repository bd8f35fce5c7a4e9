-- `tables::repeat::test_whole` meets its contract.
use Rattle.std.proofs.Common.{sym, ap, ◌∙◌, Err}
use Rattle.tables.proofs.Repeats.{whole-taken, whole-refused}
use Rattle.tables.proofs.repeat.test_whole.Goals as goal

pub returns-in-Some : goal.returns-in-Some
returns-in-Some c = whole-taken _ _ c.requires (sym c.repeat_length.ensures ∙ c.in-Some.is)

pub returns-in-None : goal.returns-in-None
returns-in-None c = ap Err c.at.ensures ∙ whole-refused _ (sym c.repeat_length.ensures ∙ c.in-None.is)
