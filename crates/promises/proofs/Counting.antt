-- The frames of a table's first slots: the placings that they show are those of its run, so what is counted from them are its
-- counts, and demand 3 holds of them.
use Prim.Native.Nat.{ℕ, suc, ◌+◌, ◌≤◌, ◌<◌}
use mathlib.Core.Path.{◌≡◌, sym, ap, ◌∙◌}
use mathlib.Core.List.{List, [], ◌∷◌, map, map-map, append-nil}
use native.Mathlib.Nat.{le_refl, zero-add}
use native.Mathlib.Omega.{arith}
use lib.Dec.{T}
use lib.ListN.{length, take, get_or}
use lib.Seq.{take_at, get_or-take, get_or-append-add}
use Rattle.laws.specs.Lists.{sum, from, each, at}
use Rattle.laws.proofs.Each.{get_or-map-from, each_cong, at-replicate}
use Rattle.laws.proofs.Entries.{sum-replicate}
use Rattle.rules.specs.Tables.{Table, size, accepts}
use Rattle.rules.specs.Verdicts.{admitted, lights}
use Rattle.rules.specs.States.{fresh}
use Rattle.rules.specs.Slots.{Shown, slot}
use Rattle.rules.specs.Runs.{after, slot_numbers, totals_numbers}
use Rattle.rules.specs.Counts.{cores_in, dropped_by}
use Rattle.slot_laws.proofs.After.{shows-each}
use Rattle.slot_laws.proofs.Boundaries.{cores-length}
use Rattle.slot_laws.proofs.WorkCounts.{done-counted}
use Rattle.slot_laws.proofs.MoveCounts.{moves_shown, moves-counted}
use Rattle.slot_laws.proofs.MissCounts.{misses_shown, misses-counted, dropped-counted}
use Rattle.slot_laws.proofs.Counts.{dropped_total}
use Rattle.slot_laws.proofs.SameSlots.{work-same, work-all-same, moved_same, moves-same, missed-same, misses-same, dropped-same}
use Rattle.bound.specs.Demand3.{Demand3}
use Rattle.bound.proofs.Demand3.{demand_3}
use Rattle.promises.specs.Buffers.{tasks_on, moves_of, misses_of, frame_of, placing}
use Rattle.promises.specs.Frames.{Scheduled, Counted, FramesOnTime, totals_of, lossless_of}

-- what stands in the frame of a showing of m cores
module _ {m : ℕ} (x : Shown) (wide : length x.cores ≡ m) where
  shows-cores : tasks_on m (slot_numbers x) ≡ x.cores
  shows-cores = take_at x.cores (x.moves ∷ x.misses ∷ []) m wide

  -- the number k behind the cores
  behind_cores : (i k : ℕ) → i ≡ suc (suc (length x.cores + k)) → at (slot_numbers x) i ≡ get_or (x.moves ∷ x.misses ∷ []) k 0
  behind_cores i k e = ap (at (slot_numbers x)) e ∙ get_or-append-add x.cores (x.moves ∷ x.misses ∷ []) k 0

  shows_moves : moves_of m (slot_numbers x) ≡ x.moves
  shows_moves = behind_cores (m + 2) 0 (omega arith)

  shows-misses : misses_of m (slot_numbers x) ≡ x.misses
  shows-misses = behind_cores (m + 3) 1 (omega arith)

module _ {tbl : Table} {b : ℕ} {frames : List (List ℕ)} (shown : Scheduled tbl b frames) where
  -- frame s is that of slot s
  frame_at : (s : ℕ) → s < b → frame_of frames s ≡ slot_numbers (slot (after s (fresh tbl))).shown
  frame_at s h =
      ap (λ (l : List (List ℕ)). get_or l s []) (shown.are ∙ ap (map slot_numbers) (shows-each b (fresh tbl)) ∙ map-map slot_numbers (λ i. (slot (after i (fresh tbl))).shown) (from 0 b))
      ∙ get_or-map-from [] (λ i. slot_numbers (slot (after i (fresh tbl))).shown) 0 b s h
      ∙ ap (λ (i : ℕ). slot_numbers (slot (after i (fresh tbl))).shown) (zero-add s)

  module _ (s : ℕ) (h : s < b) where
    wide : length (slot (after s (fresh tbl))).shown.cores ≡ tbl.m
    unfolding cores_in
    wide = cores-length tbl s

    -- it shows the placing of its slot, and the slot's moves and misses
    cores-shown : placing tbl.m frames s ≡ cores_in tbl s
    unfolding cores_in
    cores-shown = ap (tasks_on tbl.m) (frame_at s h) ∙ shows-cores (slot (after s (fresh tbl))).shown wide

    moves_read : moves_of tbl.m (frame_of frames s) ≡ (slot (after s (fresh tbl))).shown.moves
    moves_read = ap (moves_of tbl.m) (frame_at s h) ∙ shows_moves (slot (after s (fresh tbl))).shown wide

    misses-read : misses_of tbl.m (frame_of frames s) ≡ (slot (after s (fresh tbl))).shown.misses
    misses-read = ap (misses_of tbl.m) (frame_at s h) ∙ shows-misses (slot (after s (fresh tbl))).shown wide

  abbrev read : ℕ → List ℕ
  read = placing tbl.m frames

  -- the counts of the run are those over the frames
  pub scheduled-counted : Counted tbl b frames (after b (fresh tbl))
  scheduled-counted =
      record {
        done = λ i low high. done-counted tbl i low high b ∙ sym (work-same read (cores_in tbl) b cores-shown i b (le_refl b));
        dropped = λ i low high. dropped-counted tbl i low high b ∙ sym (dropped-same read (cores_in tbl) b cores-shown tbl i b (le_refl b));
        moves = moves-counted tbl b ∙ sym (moves-same read (cores_in tbl) b cores-shown tbl.m b (le_refl b));
        misses = misses-counted tbl b ∙ sym (misses-same read (cores_in tbl) b cores-shown tbl b (le_refl b));
        moves_shown = λ s h. moves_read s h ∙ moves_shown tbl s ∙ sym (moved_same read (cores_in tbl) b cores-shown tbl.m s h);
        misses_shown = λ s h. misses-read s h ∙ misses_shown tbl s ∙ sym (missed-same read (cores_in tbl) b cores-shown tbl s h);
      }

  -- and demand 3 holds of them
  pub scheduled_on_time : T (accepts tbl) → T (admitted tbl) → FramesOnTime tbl b frames
  scheduled_on_time t a =
      record {
        none_missed = λ s h. misses-read s h ∙ (demand_3 tbl t a b).none_shown s h;
        none_dropped =
            λ u i h low high.
            dropped-same read (cores_in tbl) b cores-shown tbl i u h
            ∙ sym (dropped-counted tbl i low high u)
            ∙ ap (λ (l : List ℕ). at l i) (demand_3 tbl t a u).no_drop
            ∙ at-replicate (size tbl) 0 i low high;
        lights_ahead = λ u k h. rw (work-all-same read (cores_in tbl) b cores-shown (take k (lights tbl)) u (omega arith)) ((demand_3 tbl t a u).lights_ahead k);
      }

  -- the totals
  pub scheduled-totals : totals_numbers (after b (fresh tbl)) ≡ totals_of tbl b frames
  scheduled-totals =
      let c : Counted tbl b frames (after b (fresh tbl)) = scheduled-counted in
      let dropped : sum (after b (fresh tbl)).dropped ≡ sum (each (size tbl) (λ i. dropped_by tbl read i b)) =
      dropped_total tbl b ∙ ap sum (each_cong (size tbl) _ _ (λ i low high. sym (dropped-same read (cores_in tbl) b cores-shown tbl i b (le_refl b))))
      in
      cc

  pub scheduled-lossless : T (accepts tbl) → T (admitted tbl) → totals_numbers (after b (fresh tbl)) ≡ lossless_of tbl b frames
  scheduled-lossless t a =
      let d : Demand3 tbl b = demand_3 tbl t a b in
      let dropped : sum (after b (fresh tbl)).dropped ≡ 0 = ap sum d.no_drop ∙ rw append-nil at (sum-replicate (size tbl) 0 []) ∙ omega arith in
      cc scheduled-counted.moves

-- the first of some frames say no less than all of them: what holds at a boundary held at every one before it
module _ {tbl : Table} {b : ℕ} {frames : List (List ℕ)} (w : FramesOnTime tbl b frames) (u : ℕ) (h : u ≤ b) where
  first_frame : (s : ℕ) → s < u → frame_of (take u frames) s ≡ frame_of frames s
  first_frame s l = get_or-take u frames s [] l

  first-placing : (s : ℕ) → s < u → placing tbl.m (take u frames) s ≡ placing tbl.m frames s
  first-placing s l = ap (tasks_on tbl.m) (first_frame s l)

  pub first_on_time : FramesOnTime tbl u (take u frames)
  first_on_time =
      record {
        none_missed = λ s l. ap (misses_of tbl.m) (first_frame s l) ∙ w.none_missed s (omega arith);
        none_dropped = λ v i l low high. dropped-same (placing tbl.m (take u frames)) (placing tbl.m frames) u first-placing tbl i v l ∙ w.none_dropped v i (omega arith) low high;
        lights_ahead =
            λ v k l.
            rw (work-all-same (placing tbl.m (take u frames)) (placing tbl.m frames) u first-placing (take k (lights tbl)) v (omega arith))
            (w.lights_ahead v k (omega arith));
      }
