-- `stored::decode::Stored::state` meets its contract: each number is the one at its place.
use mathlib.Core.Path.{sym, ◌∙◌}
use native.Mathlib.Omega.{arith}
use Rattle.stored.proofs.Cells.{byte_cell, size_byte}
use Rattle.stored.proofs.Decoding.{placed-decoded}
use Rattle.stored.proofs.decode.Stored.state.Goals as goal

pub returns : goal.returns
returns c =
    let bs = c.args.self.now.bytes.now in
    placed-decoded bs c.args.self.now.said (record {
      m = c.from.ensures ∙ byte_cell bs 0 (omega (arith, c.args.self.now.long));
      n_is = c.from-2.ensures ∙ size_byte bs (omega (arith, c.args.self.now.long)) ∙ sym c.args.self.now.said;
      rows = c.rows.ensures;
      ranks = c.ranks.ensures;
      clock = c.read_bytes.ensures.value;
      left = c.units.ensures;
      last = c.cores.ensures;
      done = c.units-2.ensures;
      dropped = c.units-3.ensures;
      moves = c.read_bytes-2.ensures.value;
      misses = c.read_bytes-3.ensures.value;
    })
