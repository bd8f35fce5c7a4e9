-- `engine::slot::slot` meets its contract: choose, place with the work, and end, one after the other.
use mathlib.Core.Path.{refl}
use lib.Seq.{length-take-le}
use Rattle.engine.proofs.Stepping.{placing, to-work, to_end, whole}
use Rattle.engine.proofs.slot.slot.Goals as goal

pub place-moves-requires : goal.place-moves-requires
place-moves-requires c =
    let ready = c.requires.0 in
    let room = length-take-le _ _ ready.few_cores in
    (placing ready room c.choose-k.ensures _ refl, c.requires.1, to-work ready room c.choose-k.ensures _)

pub end-misses-requires : goal.end-misses-requires
end-misses-requires c =
    let ready = c.requires.0 in
    to_end ready (length-take-le _ _ ready.few_cores) c.choose-k.ensures _ refl c.place-moves.ensures.0 c.place-moves.ensures.1

pub returns : goal.returns
returns c =
    let ready = c.requires.0 in
    whole ready (length-take-le _ _ ready.few_cores) c.choose-k.ensures _ refl c.place-moves.ensures.0 c.place-moves.ensures.1 c.end-misses.ensures
