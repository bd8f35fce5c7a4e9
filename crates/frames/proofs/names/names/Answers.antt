-- `frames::names::names` meets its contract: the bytes are numbered from 0 on, and each gets its two digits.
use Rattle.std.proofs.Common.{rules}
use Rattle.frames.proofs.Lookup.{counted, all_named}
use Rattle.frames.proofs.names.names.Goals as goal

pub returns : goal.returns
returns c =
    all_named (counted c.from_fn-every.ensures.items (λ p i v q small call. search rules)) c.write_pairs.ensures
