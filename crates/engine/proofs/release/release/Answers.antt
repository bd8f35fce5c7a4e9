-- `engine::release::release` meets its contract: a walk that puts each task's next left work.
use Prim.Native.Nat.{◌<◌}
use mathlib.Core.Path.{◌∙◌}
use native.Mathlib.Omega.{arith}
use lib.ListN.{length}
use Rattle.laws.proofs.Filling.{filled_turn, filled-here, filled_end, at_next}
use Rattle.engine.specs.Step.{released_on}
use Rattle.engine.proofs.release.release.Invariants.{next}
use Rattle.engine.proofs.release.release.Goals as goal

pub loop-i-preserved : goal.loop-i-preserved
loop-i-preserved c =
    let a = c.args in
    let i = c.loop-i.i in
    let inv = c.loop-i.invariant in
    let f = next a.phase.now a.c.now a.left.now in
    let h : i < length a.left.now = omega arith in
    filled_turn f a.left.now i h inv
    (c.at_release.ensures ∙ rw (at_next a.phase.now i, at_next a.c.now i, at_next a.left.now i, inv, filled-here f a.left.now i h))

pub returns : goal.returns
unfolding released_on
returns c =
    let a = c.args in
    c.loop-i.invariant ∙ filled_end (next a.phase.now a.c.now a.left.now) a.left.now c.loop-i.i (omega arith)
