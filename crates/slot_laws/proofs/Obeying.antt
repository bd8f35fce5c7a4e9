-- What a right placing is, for an order by priority. A table's own run obeys.
use Prim.Native.Nat.{ℕ, ◌≤◌, ◌<◌}
use mathlib.Core.Path.{◌≡◌}
use mathlib.Core.Logic.{◌↔◌, inr}
use mathlib.Core.List.{List}
use native.Mathlib.Decide.{dec_lt}
use native.Mathlib.Omega.{arith}
use lib.Dec.{eqb}
use lib.ListN.{length}
use Rattle.laws.specs.Lists.{count, at}
use Rattle.laws.proofs.Sorted.{Stands}
use Rattle.rules.specs.Tables.{Table, size}
use Rattle.rules.specs.Verdicts.{order}
use Rattle.rules.specs.Slots.{choose}
use Rattle.rules.specs.Counts.{cores_in}
use Rattle.rules.specs.Obeys.{Priority, Rightly, Obeys}
use Rattle.priority_laws.proofs.Priority.{ranks-none, order-priority}
use Rattle.slot_laws.proofs.Choosing.{choose-le, choose_choice, choose-pending}
use Rattle.slot_laws.proofs.Books.{priority_ranking}
use Rattle.slot_laws.proofs.Given.{ready_with, own_run}
use Rattle.slot_laws.proofs.Boundaries.{cores-chosen, cores-length}

-- in the slots before b no task is given more than its left work
abbrev pub Modest : Table → List ℕ → (ℕ → List ℕ) → ℕ → Type 0
Modest tbl ranks run b = (s : ℕ) → s < b → (i : ℕ) → 1 ≤ i → i ≤ size tbl → count (eqb i) (run s) ≤ at (ready_with tbl ranks run s) i

-- a placing on m cores in which no task stands on two of them, and none but 1 to n on any
pub record Fair (m n : ℕ) (cores : List ℕ) : Type 0 where
  pub width : length cores ≡ m
  pub once : (i : ℕ) → 1 ≤ i → count (eqb i) cores ≤ 1
  pub none : (i : ℕ) → n < i → count (eqb i) cores ≡ 0

module _ {tbl : Table} {ranks : List ℕ} (r : Priority tbl ranks) (run : ℕ → List ℕ) (s : ℕ) where
  -- the first tasks of the order with left work
  abbrev first : List ℕ
  first = choose tbl.m ranks (ready_with tbl ranks run s)

  first_once : (i : ℕ) → count (eqb i) first ≤ 1
  first_once = (choose_choice tbl.m (ready_with tbl ranks run s) (priority_ranking r)).once

  module _ (right : Rightly tbl ranks run s) where
    -- no task is on two cores, or without left work; none but 1 to n is on any
    pub rightly_once : (i : ℕ) → 1 ≤ i → count (eqb i) (run s) ≤ 1
    rightly_once i low = rw (right i low) (first_once i)

    pub rightly-ready : (i : ℕ) → 1 ≤ i → count (eqb i) (run s) ≤ at (ready_with tbl ranks run s) i
    rightly-ready i low = rw (right i low) (choose-pending tbl.m (ready_with tbl ranks run s) (priority_ranking r) i)

    pub rightly-none : (i : ℕ) → size tbl < i → count (eqb i) (run s) ≡ 0
    rightly-none i above = omega (arith, right i (omega arith), choose-le tbl.m ranks (ready_with tbl ranks run s) i, ranks-none r i (inr above))

    pub rightly_fair : length (run s) ≡ tbl.m → Fair tbl.m (size tbl) (run s)
    rightly_fair width = record { width = width; once = rightly_once; none = rightly-none }

  -- a placing is right exactly where no task stands on two cores, and those that stand on some are the first with left work
  pub rightly-set : Rightly tbl ranks run s ↔ (((i : ℕ) → 1 ≤ i → count (eqb i) (run s) ≤ 1) × ((i : ℕ) → 1 ≤ i → Stands i (run s) ↔ Stands i first))
  rightly-set = (λ right. (rightly_once right, λ i low. (λ h. omega (arith, right i low), λ h. omega (arith, right i low))), λ w. by_sets w.0 w.1)
    where
      by_sets : ((i : ℕ) → 1 ≤ i → count (eqb i) (run s) ≤ 1) → ((i : ℕ) → 1 ≤ i → Stands i (run s) ↔ Stands i first) → Rightly tbl ranks run s
      by_sets once same i low =
          elim (dec_lt 0 (count (eqb i) (run s))) [
            | yes h ↦ omega (arith, once i low, first_once i, (same i low).0 h)
            | no h ↦
                elim (dec_lt 0 (count (eqb i) first)) [
                  | yes g ↦ absurd (omega (arith, (same i low).1 g))
                  | no g ↦ omega arith
                ]
          ]

-- a run that obeys gives no task more than its left work
pub obeys_modest : {tbl : Table} {ranks : List ℕ} {run : ℕ → List ℕ} {b : ℕ} → Obeys tbl ranks run b → Modest tbl ranks run b
obeys_modest {run = run} o s h i low high = rightly-ready o.priority run s (o.rightly s h) i low

-- ---- a table's own run

module _ (tbl : Table) (b : ℕ) where
  -- it obeys
  pub own_obeys : Obeys tbl (order tbl) (cores_in tbl) b
  own_obeys = record { priority = order-priority tbl; rightly = λ s h i low. rw (← own_run tbl s) (cores-chosen tbl s i low) }

  pub own_fair : (s : ℕ) → s < b → Fair tbl.m (size tbl) (cores_in tbl s)
  own_fair s h = rightly_fair (order-priority tbl) (cores_in tbl) s (own_obeys.rightly s h) (cores-length tbl s)
