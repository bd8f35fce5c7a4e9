-- `stored::bytes::read_bytes` meets its contract: the bytes are the last of eight, with zeros before them.
use Rattle.stored.proofs.Loops.{copied_reads}
use Rattle.stored.proofs.bytes.read_bytes.Goals as goal

pub returns : goal.returns
returns c = copied_reads c.requires (λ i. (c.type_inv.s i).fits) c.copy_from_slice.ensures.after c.from_be_bytes.ensures
