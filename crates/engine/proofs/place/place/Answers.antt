-- `engine::place::place` meets its contract: who can keeps its core, and the others fill the free ones.
use Rattle.engine.proofs.Placing.{handed, filling, both}
use Rattle.engine.proofs.place.place.Goals as goal

pub fill-requires : goal.fill-requires
fill-requires c =
    let pre = c.requires in
    rw (handed c.keep-n.ensures.0 _) (filling pre.0 pre.1 c.keep-n.ensures.0)

pub returns : goal.returns
returns c =
    let pre = c.requires in
    let keep = c.keep-n.ensures in
    (both pre.0 pre.1 keep.0 (rw (handed keep.0 _) at c.fill.ensures), keep.1)
