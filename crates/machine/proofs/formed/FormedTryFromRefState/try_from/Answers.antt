-- `Formed::try_from` meets its contract: what passed the test is well formed.
use mathlib.Core.Path.{sym, ◌∙◌}
use Rattle.machine.proofs.formed.FormedTryFromRefState.try_from.Goals as goal

pub invariant_of-result-clause-good : goal.invariant_of-result-clause-good
invariant_of-result-clause-good c = sym c.is_whole.ensures.form ∙ c.if-not-is_whole.false
