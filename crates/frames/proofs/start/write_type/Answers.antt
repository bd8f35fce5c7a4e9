-- `frames::start::write_type` meets its contract: a field of two digits is written, of the type's number.
use Rattle.std.proofs.Common.{ap, ◌∙◌, ℕ}
use Rattle.laws.specs.Digits.{field}
use Rattle.rules.specs.Answers.{lay}
use Rattle.frames.proofs.start.write_type.Goals as goal

pub returns : goal.returns
returns c = c.write_field.ensures ∙ ap (λ (n : ℕ). lay c.args.out.now 0 (field 2 n)) (c.from-2.ensures ∙ c.from.ensures)
