-- `stored::bytes::write_bytes` meets its contract: a number in bytes is one in places.
use Rattle.std.proofs.Common.{rules}
use Rattle.stored.proofs.Numbers.{bytes_places}
use Rattle.stored.proofs.bytes.write_bytes.Goals as goal

pub returns : goal.returns
returns c = rw bytes_places (c.write_places.ensures.computed (λ d. d) (λ d r less given. search rules))
