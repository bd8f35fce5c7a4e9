-- `runs::slots::run_slots` meets its contract: a loop over the slots, whose turn is one slot and its frame.
use mathlib.Core.Path.{sym, ap}
use lib.ListN.{length}
use lib.Seq.{length-take-le}
use Rattle.runs.proofs.SlotLoop.{zeros_front, few_tasks, lengths, told, still, few_cores, cores_front, start, slot-ready, front-placing, front_long, moves_fit, misses_fit, turn, last_lengths, ended}
use Rattle.runs.proofs.slots.run_slots.Goals as goal

pub frame_length-width-requires : goal.frame_length-width-requires
frame_length-width-requires c = few_cores c.requires

pub release-requires : goal.release-requires
release-requires c = lengths c.requires

pub loop-k-init : goal.loop-k-init
loop-k-init c =
    let pre = c.requires in
    let e = c.release.ensures in
    rw (told pre e) (start _ pre e)

pub slice_bounds-cores-end : goal.slice_bounds-cores-end
slice_bounds-cores-end c = few_cores c.requires

pub slice_bounds-slot-end : goal.slice_bounds-slot-end
slice_bounds-slot-end c = sym (cores_front c.requires)

pub slot-shown-requires : goal.slot-shown-requires
slot-shown-requires c =
    (slot-ready (still c.requires c.release.ensures) c.loop-k.invariant (cores_front c.requires), zeros_front 32 c.args.m)

pub slice_bounds-cores-end-in-loop-k : goal.slice_bounds-cores-end-in-loop-k
slice_bounds-cores-end-in-loop-k c =
    front_long (still c.requires c.release.ensures) c.loop-k.invariant c.loop-k-test.true (cores_front c.requires) c.slot-shown.ensures _

pub slice_bounds-write_slot-end-in-loop-k : goal.slice_bounds-write_slot-end-in-loop-k
slice_bounds-write_slot-end-in-loop-k c =
    sym (length-take-le _ _ (front_long (still c.requires c.release.ensures) c.loop-k.invariant c.loop-k-test.true (cores_front c.requires) c.slot-shown.ensures _))

pub overflow_add-moves : goal.overflow_add-moves
overflow_add-moves c =
    record { fits = rw c.from-moves.ensures (moves_fit (still c.requires c.release.ensures) c.loop-k.invariant c.loop-k-test.true (cores_front c.requires) c.slot-shown.ensures) }

pub overflow_add-misses : goal.overflow_add-misses
overflow_add-misses c =
    record { fits = rw c.from-misses.ensures (misses_fit (still c.requires c.release.ensures) c.loop-k.invariant c.loop-k-test.true (cores_front c.requires) c.slot-shown.ensures) }

pub loop-k-preserved : goal.loop-k-preserved
loop-k-preserved c =
    let run = still c.requires c.release.ensures in
    let wide = cores_front c.requires in
    rw (c.from-moves.ensures, c.from-misses.ensures)
    (turn run c.loop-k.invariant c.loop-k-test.true wide c.slot-shown.ensures c.frame_length-width.ensures
    (rw (front-placing run c.loop-k.invariant c.loop-k-test.true wide c.slot-shown.ensures _) at c.write_slot.ensures))

pub slice_bounds-none-end : goal.slice_bounds-none-end
slice_bounds-none-end c = few_tasks c.requires

pub slice_bounds-release-end : goal.slice_bounds-release-end
slice_bounds-release-end c = sym (length-take-le _ _ (few_tasks c.requires))

pub release-requires-2 : goal.release-requires-2
release-requires-2 c =
    let pre = c.requires in
    let e = c.release.ensures in
    last_lengths (still pre e) c.loop-k.invariant _ (ap length (sym (told pre e))) (few_tasks pre)

pub returns : goal.returns
returns c =
    let pre = c.requires in
    let e = c.release.ensures in
    rw (told pre e) at (ended (still pre e) c.loop-k.invariant c.loop-k-test.false (length c.args.left.now) c.release-2.ensures)
