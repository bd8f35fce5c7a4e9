-- Demand 3 holds, for a table's own run obeys.
use native.Mathlib.Omega.{arith}
use Rattle.rules.specs.Verdicts.{order, lights}
use Rattle.rules.specs.Counts.{cores_in}
use Rattle.slot_laws.proofs.Given.{own_run, own_slot}
use Rattle.slot_laws.proofs.Obeying.{own_obeys}
use Rattle.bound.specs.OnTime.{OnTime}
use Rattle.bound.specs.Demand3.{Demand3Always}
use Rattle.bound.proofs.OnTime.{on_time}

pub demand_3 : Demand3Always
unfolding lights
demand_3 tbl t a b =
    let w : OnTime tbl (order tbl) (cores_in tbl) b = on_time tbl t a (order tbl) (cores_in tbl) b (own_obeys tbl b) b (omega arith) in
    record {
      no_miss = rw (own_run tbl b) w.no_miss;
      no_drop = rw (own_run tbl b) w.no_drop;
      none_shown = λ s h. rw (own_slot tbl s) (w.none_shown s h);
      lights_ahead = λ k. omega (arith, w.lights_ahead k);
    }
