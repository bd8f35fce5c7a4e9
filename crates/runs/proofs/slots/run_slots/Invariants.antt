-- `runs::slots::run_slots` meets its contract: a loop over the slots, whose turn is one slot and its frame.
use Rattle.runs.specs.Slots.{state_of}
use Rattle.runs.proofs.SlotLoop.{Run, before}
use Rattle.runs.proofs.slots.run_slots.Given as goal

abbrev pub invariant-loop-k : goal.invariant-loop-k
invariant-loop-k l = Run (state_of l.m l.clock l.columns.c.now l.columns.t.now l.columns.ranks.now (before l.initial.phase l.initial.left) l.initial.last l.initial.done l.initial.dropped l.initial.moves l.initial.misses) l.count l.columns.c.now l.columns.t.now l.initial.out l.phase l.left l.last l.done l.dropped l.out l.moves l.misses l.place l.k
