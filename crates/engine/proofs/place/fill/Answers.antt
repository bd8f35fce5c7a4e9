-- `engine::place::fill` meets its contract: a walk along the cores that seats the next task at each free one.
use Prim.Native.Nat.{◌<◌}
use native.Mathlib.Omega.{arith}
use lib.ListN.{length}
use Rattle.engine.proofs.Seating.{all_seated, took, passed_one, ended}
use Rattle.engine.proofs.place.fill.Goals as goal
use Rattle.engine.proofs.place.fill.Goals.{then-cores-k-eq0, else-cores-k-eq0}

pub loop-k-preserved : goal.loop-k-preserved
loop-k-preserved c =
    let pre = c.requires in
    let inv = c.loop-k.invariant in
    let more : c.loop-k.j < length c.args.others.now = omega (arith, inv.within, c.if-j-others.false) in
    let inside : c.loop-k.k < length c.loop-k.cores = omega arith in
    elim c.if-cores-k-eq0.branch [
      | then-cores-k-eq0 w ↦
          rw (w.last-is, w.cores-is, w.moves-is, w.j-is) (took pre inv more inside w.if-cores-k-eq0.true w.remember-moves.ensures)
      | else-cores-k-eq0 w ↦
          rw (w.last-is, w.cores-is, w.moves-is, w.j-is) (passed_one pre inv inside w.if-cores-k-eq0.false)
    ]

pub returns-then-j-others : goal.returns-then-j-others
returns-then-j-others c = ended c.requires c.loop-k.invariant (omega arith)

pub returns : goal.returns
returns c = ended c.requires c.loop-k.invariant (all_seated c.requires c.loop-k.invariant (omega arith))
