-- The moves of a run are counted over its slots.
use Prim.Native.Nat.{ℕ, zero, suc, ◌≤◌, ◌<◌}
use mathlib.Core.Path.{◌≡◌, refl, sym, ◌∙◌}
use mathlib.Core.Bool.{Bool, not, ◌&&◌, and_assoc}
use mathlib.Core.List.{List}
use native.Mathlib.Nat.{le_refl, le_step}
use lib.Dec.{eqb, ltb}
use Rattle.laws.specs.Lists.{at, position}
use Rattle.laws.proofs.Each.{at-replicate, count_cong}
use Rattle.laws.proofs.Sums.{count_values}
use Rattle.laws.proofs.Tests.{eqb_sym}
use Rattle.rules.specs.Tables.{Table, size}
use Rattle.rules.specs.States.{fresh}
use Rattle.rules.specs.Slots.{placed, moved, slot}
use Rattle.rules.specs.Runs.{after}
use Rattle.rules.specs.Counts.{sum_before, cores_in, last_core, moved_to, moves_before, moves_at}
use Rattle.rules.specs.Verdicts.{order}
use Rattle.rules.specs.Obeys.{slot_with, after_with}
use Rattle.slot_laws.proofs.Given.{state_with, shown-moves_with, next-last_with, next-moves_with, own_run, own_slot}
use Rattle.slot_laws.proofs.Obeying.{Fair, own_fair}

-- task i last ran before slot s, on a core other than k
abbrev elsewhere : (ℕ → List ℕ) → ℕ → ℕ → ℕ → Bool
elsewhere run s i k = ltb 0 (last_core run i s) && not (eqb (last_core run i s) k)

-- ---- a run with any order and such placings

module _ (tbl : Table) (ranks : List ℕ) (run : ℕ → List ℕ) where
  -- the last core that the state keeps for a task is the one that the slots show
  pub last-counted_with : (i : ℕ) → 1 ≤ i → i ≤ size tbl → (b : ℕ) → at (state_with tbl ranks run b).last i ≡ last_core run i b
  unfolding after_with last_core placed
  last-counted_with i low high zero = at-replicate (size tbl) 0 i low high
  last-counted_with i low high (suc b) = next-last_with tbl ranks run b i low high ∙ rw (last-counted_with i low high b)

  -- the tasks that a slot moves, one for each of the cores that they stand on
  module _ (b : ℕ) where
    moved-from : (i : ℕ) → 1 ≤ i → i ≤ size tbl
        → moved (state_with tbl ranks run b).last (run b) i ≡ ltb 0 (position i (run b)) && elsewhere run b i (position i (run b))
    unfolding moved placed
    moved-from i low high =
        rw (last-counted_with i low high b, eqb_sym (position i (run b)) (last_core run i b)) (and_assoc (ltb 0 (position i (run b))) _ _)

    moved-to : (k : ℕ) → ltb 0 (at (run b) k) && elsewhere run b (at (run b) k) k ≡ moved_to run b k
    unfolding moved_to
    moved-to k = sym (and_assoc (ltb 0 (at (run b) k)) _ _)

    -- the moves that a slot shows are the cores whose task last ran on another core
    pub moves-shown_with : Fair tbl.m (size tbl) (run b) → (slot_with (state_with tbl ranks run b) (run b)).shown.moves ≡ moves_at tbl.m run b
    moves-shown_with f =
        shown-moves_with tbl ranks run b
        ∙ count_cong (size tbl) _ _ moved-from
        ∙ sym (count_values (size tbl) (run b) f.once f.none (elsewhere run b))
        ∙ rw f.width (count_cong tbl.m _ _ (λ k low high. moved-to k))

  -- the moves of a run are the pairs of a slot and a core whose task last ran on another core
  pub moves-counted_with : (b : ℕ) → ((s : ℕ) → s < b → Fair tbl.m (size tbl) (run s)) → (state_with tbl ranks run b).moves ≡ moves_before tbl.m run b
  unfolding after_with moves_before sum_before
  moves-counted_with zero fair = refl
  moves-counted_with (suc b) fair =
      next-moves_with tbl ranks run b ∙ rw (moves-counted_with b (λ s l. fair s (le_step l)), moves-shown_with b (fair b (le_refl (suc b))))

-- ---- a table's own run

module _ (tbl : Table) where
  pub moves_shown : (b : ℕ) → (slot (after b (fresh tbl))).shown.moves ≡ moves_at tbl.m (cores_in tbl) b
  moves_shown b = rw (own_slot tbl b) (moves-shown_with tbl (order tbl) (cores_in tbl) b (own_fair tbl (suc b) b (le_refl (suc b))))

  pub moves-counted : (b : ℕ) → (after b (fresh tbl)).moves ≡ moves_before tbl.m (cores_in tbl) b
  moves-counted b = rw (own_run tbl b) (moves-counted_with tbl (order tbl) (cores_in tbl) b (own_fair tbl b))
