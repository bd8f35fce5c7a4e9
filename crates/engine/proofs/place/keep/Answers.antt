-- `engine::place::keep` meets its contract: a walk along the chosen tasks that does their work and seats those whose last core is free.
use Prim.Native.Nat.{◌<◌}
use mathlib.Core.Path.{sym, ◌∙◌}
use native.Mathlib.Omega.{arith}
use lib.ListN.{length, get_or}
use Rattle.engine.proofs.Keeping.{start, took, passed, ended, last-high, free-low}
use Rattle.engine.proofs.Working as Work
use Rattle.engine.proofs.place.keep.Goals as goal
use Rattle.engine.proofs.place.keep.Goals.{then-is_free, else-is_free}

pub loop-i-init : goal.loop-i-init
loop-i-init c = (start _ _ _ _, Work.start _ _ _ c.requires.1)

pub serve-requires : goal.serve-requires
serve-requires c =
    Work.waiting _ _ _ c.requires.1 c.loop-i.invariant.1 (omega arith) (omega arith)

-- the task's last core is none or one of the cores
pub take_core-requires : goal.take_core-requires
take_core-requires c =
    omega (
      arith,
      free-low _ _ (sym c.is_free.ensures ∙ c.if-is_free.true),
      c.last_core-k.ensures,
      c.loop-i.auto.cores,
      last-high c.requires.0.placing (get_or c.args.chosen.now c.loop-i.i-index 0),
    )

pub loop-i-preserved : goal.loop-i-preserved
loop-i-preserved c =
    let inv = c.loop-i.invariant in
    let more : c.loop-i.i-index < length c.args.chosen.now = omega arith in
    let pre = c.requires in
    let room : c.loop-i.n < length c.loop-i.others = omega (arith, more, inv.0.few, c.loop-i.auto.others, pre.0.room) in
    let next = Work.turn _ _ _ pre.1 inv.1 more (omega arith) c.serve.ensures in
    elim c.if-is_free.branch [
      | then-is_free w ↦
          rw (w.cores-is, w.others-is, w.n-is)
          (took _ _ _ _ inv.0 more (omega arith) c.last_core-k.ensures (sym c.is_free.ensures ∙ w.if-is_free.true) w.take_core.ensures, next)
      | else-is_free w ↦
          rw (w.cores-is, w.others-is, w.n-is)
          (passed _ _ _ _ inv.0 more (omega arith) room c.last_core-k.ensures (sym c.is_free.ensures ∙ w.if-is_free.false), next)
    ]

pub returns : goal.returns
returns c =
    let pre = c.requires in
    let inv = c.loop-i.invariant in
    (ended _ _ _ _ pre.0 inv.0 (omega (arith, inv.0.few, c.loop-i.auto.others, pre.0.room)) (omega arith), Work.ended _ _ _ pre.1 inv.1 (omega arith))
