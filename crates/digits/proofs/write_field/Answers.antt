-- `digits::write_field` meets its contract: a field is a number in places.
use Rattle.std.proofs.Common.{rules}
use Rattle.laws.specs.Digits.{digit}
use Rattle.laws.proofs.Digits.{field_places}
use Rattle.digits.proofs.write_field.Goals as goal

pub returns : goal.returns
returns c = rw field_places (c.write_places.ensures.computed digit (λ d r less given. search rules))
