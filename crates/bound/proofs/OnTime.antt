-- The theorem: a run of an accepted and admitted table is on time as long as it obeys.
use Prim.Native.Nat.{ℕ, ◌≤◌, ◌<◌}
use mathlib.Core.Path.{◌≡◌}
use mathlib.Core.List.{List}
use native.Mathlib.Nat.{le_refl, le_of_suc-le}
use native.Mathlib.Omega.{arith}
use lib.Dec.{leb→le}
use lib.ListN.{take}
use Rattle.rules.specs.Tables.{Table}
use Rattle.rules.specs.Verdicts.{fraction, admitted}
use Rattle.rules.specs.Obeys.{Priority, Rightly, lights_of}
use Rattle.slot_laws.proofs.Forms.{Accepted, accepted}
use Rattle.slot_laws.proofs.Given.{state_with}
use Rattle.slot_laws.proofs.SameSlots.{work-all-same}
use Rattle.bound.specs.OnTime.{OnTime, OnTimeAlways}
use Rattle.bound.proofs.Within.{WithinLimit}
use Rattle.bound.proofs.NoMiss.{slot-misses-none, run-misses-none, run-dropped-none}
use Rattle.bound.proofs.KeepUp.{lights_keep_up}
use Rattle.bound.proofs.Prolonged.{prolonged, prolonged_same, prolonged_state, prolonged_rightly}

-- a run that obeys in every slot is always on time
endless : (tbl : Table) → Accepted tbl → WithinLimit tbl → (ranks : List ℕ) (run : ℕ → List ℕ) → Priority tbl ranks
    → ((s : ℕ) → Rightly tbl ranks run s) → (b : ℕ) → OnTime tbl ranks run b
endless tbl a within ranks run r right b =
    record {
      no_miss = run-misses-none tbl a within ranks run r right b;
      no_drop = run-dropped-none tbl a within ranks run r right b;
      none_shown = λ s h. slot-misses-none tbl a within ranks run r right s;
      lights_ahead = lights_keep_up tbl ranks r run right a within b;
    }

pub on_time : OnTimeAlways
unfolding admitted fraction
on_time tbl t a ranks run b o u h =
    let within : WithinLimit tbl = omega (arith, leb→le) in
    let long : ℕ → List ℕ = prolonged tbl ranks run b in
    let w : OnTime tbl ranks long u = endless tbl (accepted tbl t) within ranks long o.priority (prolonged_rightly tbl ranks run b o.rightly) u in
    let state : (s : ℕ) → s ≤ u → state_with tbl ranks long s ≡ state_with tbl ranks run s = λ s l. prolonged_state tbl ranks run b s (omega arith) in
    let same : (s : ℕ) → s < u → long s ≡ run s = λ s l. prolonged_same tbl ranks run b s (omega arith) in
    record {
      no_miss = rw (state u (le_refl u)) at w.no_miss;
      no_drop = rw (state u (le_refl u)) at w.no_drop;
      none_shown = λ s l. rw (same s l, state s (le_of_suc-le l)) at (w.none_shown s l);
      lights_ahead = λ k. rw (work-all-same long run u same (take k (lights_of tbl ranks)) u (le_refl u)) at (w.lights_ahead k);
    }
