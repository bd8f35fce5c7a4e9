-- What the slots of a table's run show, and the total of its dropped units, read off the placings alone.
use Prim.Native.Nat.{ℕ}
use mathlib.Core.Path.{◌≡◌, sym, ap, ◌∙◌}
use mathlib.Core.List.{map}
use Rattle.laws.specs.Lists.{sum, from, each}
use Rattle.laws.proofs.Each.{each_at, each_cong}
use Rattle.rules.specs.Tables.{Table, size}
use Rattle.rules.specs.Verdicts.{order}
use Rattle.rules.specs.States.{fresh}
use Rattle.rules.specs.Slots.{Shown, slot}
use Rattle.rules.specs.Runs.{after, shows}
use Rattle.rules.specs.Counts.{cores_in, dropped_by, misses_at, moves_at}
use Rattle.slot_laws.proofs.After.{shows-each}
use Rattle.slot_laws.proofs.Given.{own_run, dropped-length_with}
use Rattle.slot_laws.proofs.Boundaries.{shown-slot}
use Rattle.slot_laws.proofs.MoveCounts.{moves_shown}
use Rattle.slot_laws.proofs.MissCounts.{dropped-counted, misses_shown}

-- slot s: its number, its placing, and its own share of the moves and of the misses
abbrev pub shown_in : Table → ℕ → Shown
shown_in tbl s =
    record {
      slot = s;
      cores = cores_in tbl s;
      moves = moves_at tbl.m (cores_in tbl) s;
      misses = misses_at tbl (cores_in tbl) s;
    }

-- a slot of a table's run shows just that
pub shown-counted : (tbl : Table) (s : ℕ) → (slot (after s (fresh tbl))).shown ≡ shown_in tbl s
unfolding cores_in
shown-counted tbl s = λ i. record { slot = shown-slot tbl s i; cores = cores_in tbl s; moves = moves_shown tbl s i; misses = misses_shown tbl s i }

-- what the first b slots of a run show
pub shows-counted : (tbl : Table) (b : ℕ) → shows b (fresh tbl) ≡ map (shown_in tbl) (from 0 b)
shows-counted tbl b = shows-each b (fresh tbl) ∙ simp (shown-counted tbl)

-- the total of the dropped units
pub dropped_total : (tbl : Table) (b : ℕ) → sum (after b (fresh tbl)).dropped ≡ sum (each (size tbl) (λ i. dropped_by tbl (cores_in tbl) i b))
dropped_total tbl b =
    ap sum
    (sym (each_at (size tbl) (after b (fresh tbl)).dropped (rw (own_run tbl b) (dropped-length_with tbl (order tbl) (cores_in tbl) b)))
    ∙ each_cong (size tbl) _ _ (λ i low high. dropped-counted tbl i low high b))
