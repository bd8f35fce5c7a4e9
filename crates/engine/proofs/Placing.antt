-- Placing in two passes: what the first pass is handed, what the second is handed, and that both make the placing.
use Prim.Native.Nat.{ℕ, ◌-◌, ◌≤◌, ◌<◌}
use mathlib.Core.Path.{◌≡◌, sym, ap, ◌∙◌, subst}
use mathlib.Core.Bool.{Bool, not}
use mathlib.Core.List.{List, ◌++◌}
use native.Mathlib.Omega.{arith}
use lib.Dec.{eqb}
use lib.ListN.{length, get_or, take, drop, replicate, length-replicate}
use Rattle.laws.specs.Lists.{filter, position}
use Rattle.laws.proofs.Filling.{front-taken, at_pred}
use Rattle.laws.proofs.Positions.{StandsAt, position_stands, count-filter-le}
use Rattle.laws.proofs.Sorted.{stands_get_or}
use Rattle.rules.specs.Slots.{place, keep_cores, placed}
use Rattle.slot_laws.proofs.Choosing.{Choice}
use Rattle.slot_laws.proofs.Placing.{keep_length, others-room, kept_or_other}
use Rattle.engine.specs.Choice.{Named}
use Rattle.engine.specs.Placing.{Idle, Placing, Kept, unplaced, Filling, Filled, Placed}
use Rattle.engine.proofs.Remembering.{kept-seated}

-- a part of tasks are tasks
named_part : (q : ℕ → Bool) {n : ℕ} {l : List ℕ} → Named n l → Named n (filter q l)
named_part q {n} {l} h =
    record {
      from = λ j more. stands (λ i. 1 ≤ i) h.from j more;
      to = λ j more. stands (λ i. i ≤ n) h.to j more;
    }
  where
    stands : (P : ℕ → Type 0) → ((j : ℕ) → j < length l → P (get_or l j 0)) → (j : ℕ) → j < length (filter q l) → P (get_or (filter q l) j 0)
    stands P all j more =
        let x : ℕ = get_or (filter q l) j 0 in
        let s : StandsAt x l (position x l) = position_stands x l (omega (arith, stands_get_or (filter q l) j more, count-filter-le q (eqb x) l)) in
        subst P (sym (at_pred l (position x l) s.low) ∙ s.here) (all (position x l - 1) (omega (arith, s.low, s.high)))

module _ {chosen last cores : List ℕ} (p : Placing chosen last cores) (idle : Idle cores) where
  module _ {lent kept others : List ℕ} {n : ℕ} (k : Kept chosen last cores lent kept others n) where
    kept_is : kept ≡ keep_cores last chosen (replicate (length cores) 0)
    kept_is = k.kept ∙ ap (keep_cores last chosen) idle

    choice : Choice (length cores) chosen
    choice = record { few = p.few; once = p.once; real = p.real }

    -- what the second pass asks: a free core for each of the others, who are tasks that have none yet
    pub filling : Filling (unplaced kept chosen) last kept
    filling =
        record {
          room = rw kept_is (others-room choice last);
          named = named_part (λ i. not (placed kept i)) p.named;
          once = λ i real. rw kept_is (omega (arith, kept_or_other choice last i real, p.once i));
          small = omega (arith, p.small, ap length kept_is, keep_length last chosen (replicate (length cores) 0), length-replicate {A = ℕ} (length cores) 0);
          kept = rw kept_is (kept-seated (length cores) last chosen);
        }

    -- the two passes make the placing
    pub both : {last' cores' : List ℕ} {moves : ℕ} → Filled (unplaced kept chosen) last kept last' cores' moves → Placed chosen last cores last' cores' moves
    unfolding place
    both f = record { placing = f.filled ∙ rw kept_is; seated = f.seated }

module _ {chosen last idle lent kept others : List ℕ} {n : ℕ} (k : Kept chosen last idle lent kept others n) (rest : List ℕ) where
  -- the others stand first in what the first pass wrote, whatever follows it
  pub handed : take n (others ++ rest) ≡ unplaced kept chosen
  handed = front-taken (unplaced kept chosen) (drop n lent) k.number k.entries rest
