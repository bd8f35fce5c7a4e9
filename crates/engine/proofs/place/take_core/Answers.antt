-- `engine::place::take_core` meets its contract.
use Prim.Native.Nat.{ℕ}
use mathlib.Core.Path.{ap}
use lib.ListN.{set}
use Rattle.rules.specs.Slots.{seat}
use Rattle.engine.proofs.place.take_core.Goals as goal

pub returns : goal.returns
unfolding seat
returns c = ap (λ (j : ℕ). set c.args.cores.now j c.args.i) c.from.ensures
