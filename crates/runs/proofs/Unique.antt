-- Each public function's contract permits one outcome alone: one result, and of each lent slice one content.
use Prim.Native.Nat.{ℕ}
use mathlib.Core.List.{List}
use Rattle.laws.proofs.Contracts.{One, both}
use Rattle.runs.specs.Answers.{run_end}
use Rattle.runs.proofs.parts.apart.Reads as apart
use Rattle.runs.proofs.parts.together.Reads as together
use Rattle.runs.proofs.slots.frame_length.Reads as frame-length
use Rattle.runs.proofs.slots.run_slots.Reads as run-slots
use Rattle.runs.proofs.run.length_of.Reads as length-of
use Rattle.runs.proofs.run.run.Reads as run
use Rattle.runs.proofs.run.step.Reads as step

pub apart_once : One apart.Post (λ κs r s. r)
apart_once κs a x y s t p q = both p q

pub together_once : One together.Post (λ κs r s. r)
together_once κs a x y s t p q = both p q

pub frame_length_once : One frame-length.Post (λ κs r s. r)
frame_length_once κs a x y s t p q = both p q

-- the lists, the totals and the buffer
pub run_slots_once : One {S = List ℕ × List ℕ × List ℕ × List ℕ × List ℕ × ℕ × ℕ × List ℕ} run-slots.Post (λ κs r s. (s.1.1.1.1.1.0.now, s.1.1.1.1.1.1.0.now, s.1.1.1.1.1.1.1.0.now, s.1.1.1.1.1.1.1.1.0.now, s.1.1.1.1.1.1.1.1.1.0.now, r.moves, r.misses, s.1.1.1.1.1.1.1.1.1.1.0.now))
run_slots_once κs a x y s t p q =
    let state = both p.state q.state in
    λ j. (both p.phases q.phases j, (state j).left, (state j).last, (state j).done, (state j).dropped, (state j).moves, (state j).misses, both p.lines q.lines j)

pub length_of_once : One length-of.Post (λ κs r s. r)
length_of_once κs a x y s t p q = both p q

pub run_once : One run.Post (λ κs r s. run_end r s.1.1.0.now)
run_once κs a x y s t p q = both p q

pub step_once : One step.Post (λ κs r s. run_end r s.1.0.now)
step_once κs a x y s t p q = both p q
