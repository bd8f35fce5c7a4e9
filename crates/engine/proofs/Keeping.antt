-- The loop of `keep`: who keeps its core, and who is left over.
use Prim.Native.Nat.{ℕ, zero, suc, ◌+◌, ◌-◌, ◌≤◌, ◌<◌, zero-le}
use mathlib.Core.Path.{◌≡◌, refl, sym, ap, subst, ◌∙◌}
use mathlib.Core.Bool.{true, false, cond}
use mathlib.Core.Logic.{⊎_elim}
use mathlib.Core.List.{List, [], ◌∷◌, ◌++◌, append-nil}
use native.Mathlib.Numerals.{add-one}
use native.Mathlib.Omega.{arith}
use borrow.Author.Tests.{ltb-true, ltb-false, ne_eqb}
use lib.Dec.{eqb, ltb, ltb→lt}
use lib.ListN.{length, get_or, take, drop, set, length-set, drop_of_length-le, get_or-eq_default}
use lib.Seq.{drop-cons}
use Rattle.laws.specs.Lists.{count, at}
use Rattle.laws.proofs.Tests.{decide, to_T, and_left}
use Rattle.laws.proofs.Filling.{written_next, written-rest, written-number, written_list_lem}
use Rattle.laws.proofs.Positions.{hit_same, at_set_same, count-set-at, count-replicate}
use Rattle.rules.specs.Slots.{keep_cores, seat, free, placed}
use Rattle.slot_laws.proofs.Placing.{keep_length, keep_held, keep_holds, placed_stands, placed-none, real-first}
use Rattle.engine.specs.Placing.{Placing, Keeping, Kept, unplaced}

-- the tasks that do not keep their last core, in their order
unfoldable pub left_over : List ℕ → List ℕ → List ℕ → List ℕ
left_over last [] cores = []
left_over last (i ∷ is) cores =
    let k : ℕ = at last i in
    cond (free cores k) (left_over last is (seat cores k i)) (i ∷ left_over last is cores)

module _ (last is cores : List ℕ) (i : ℕ) where
  -- the first task takes its last core
  keep_takes : free cores (at last i) ≡ true → keep_cores last (i ∷ is) cores ≡ keep_cores last is (seat cores (at last i) i)
  unfolding keep_cores
  keep_takes e = rw e

  left_takes : free cores (at last i) ≡ true → left_over last (i ∷ is) cores ≡ left_over last is (seat cores (at last i) i)
  unfolding left_over
  left_takes e = rw e

  -- it does not
  keep_passes : free cores (at last i) ≡ false → keep_cores last (i ∷ is) cores ≡ keep_cores last is cores
  unfolding keep_cores
  keep_passes e = rw e

  left-passes : free cores (at last i) ≡ false → left_over last (i ∷ is) cores ≡ i ∷ left_over last is cores
  unfolding left_over
  left-passes e = rw e

-- cores are counted from 1, and so is a free one
pub free-low : (cores : List ℕ) (k : ℕ) → free cores k ≡ true → 1 ≤ k
unfolding free
free-low cores k e = ltb→lt 0 k (and_left (ltb 0 k) (eqb (at cores k) 0) (to_T e))

-- what holds of tasks still to be looked at: each is real, stands nowhere yet and once among them; last cores are cores
record Waiting (last is cores : List ℕ) : Type 0 where
  real : count (eqb 0) is ≡ 0
  once : (j : ℕ) → 1 ≤ j → count (eqb j) cores + count (eqb j) is ≤ 1
  high : (j : ℕ) → at last j ≤ length cores

module _ (last is cores : List ℕ) (i : ℕ) (w : Waiting last (i ∷ is) cores) where
  -- after the first task took its last core
  waiting_takes : free cores (at last i) ≡ true → Waiting last is (seat cores (at last i) i)
  unfolding seat
  waiting_takes e =
      record {
        real = omega (arith, w.real);
        once = λ j h. omega (arith, w.once j h, count-set-at cores (eqb j) (at last i) i (free-low cores (at last i) e) (w.high i));
        high = λ j. omega (arith, w.high j, length-set cores (at last i - 1) i);
      }

  takes_placed : free cores (at last i) ≡ true → placed (keep_cores last is (seat cores (at last i) i)) i ≡ true
  unfolding seat
  takes_placed e =
      let k : ℕ = at last i in
      let low : 1 ≤ k = free-low cores k e in
      let there : at (seat cores k i) k ≡ i = at_set_same cores k i low (w.high i) in
      placed_stands (keep_cores last is (seat cores k i)) i {k = k}
      (record {
        low = low;
        high = omega (arith, w.high i, keep_length last is (seat cores k i), length-set cores (k - 1) i);
        here = keep_held last is (seat cores k i) k (omega (arith, there, real-first i is w.real)) ∙ there;
      })

  -- after it did not
  waiting_passes : Waiting last is cores
  waiting_passes = record { real = omega (arith, w.real); once = λ j h. omega (arith, w.once j h); high = w.high }

  passes-unplaced : placed (keep_cores last is cores) i ≡ false
  passes-unplaced =
      let real : 1 ≤ i = real-first i is w.real in
      placed-none (keep_cores last is cores) i (omega (arith, keep_holds last is cores i real, w.once i real, hit_same {x = i} {y = i} refl))

-- the tasks left over are those that no core holds in the end
left-unplaced : (last is cores : List ℕ) → Waiting last is cores → left_over last is cores ≡ unplaced (keep_cores last is cores) is
unfolding left_over
left-unplaced last [] cores w = refl
left-unplaced last (i ∷ is) cores w =
    ⊎_elim
    (λ (e : free cores (at last i) ≡ true).
    left_takes last is cores i e
    ∙ left-unplaced last is (seat cores (at last i) i) (waiting_takes last is cores i w e)
    ∙ subst (λ (l : List ℕ). unplaced (keep_cores last is (seat cores (at last i) i)) is ≡ unplaced l (i ∷ is)) (sym (keep_takes last is cores i e))
    (rw (takes_placed last is cores i w e)))
    (λ (e : free cores (at last i) ≡ false).
    left-passes last is cores i e
    ∙ ap (λ (l : List ℕ). i ∷ l) (left-unplaced last is cores (waiting_passes last is cores i w))
    ∙ subst (λ (l : List ℕ). i ∷ unplaced (keep_cores last is cores) is ≡ unplaced l (i ∷ is)) (sym (keep_passes last is cores i e))
    (rw (passes-unplaced last is cores i w)))
    (decide (free cores (at last i)))

-- each last core is none or one of the cores
pub last-high : {chosen last cores : List ℕ} → Placing chosen last cores → (i : ℕ) → at last i ≤ length cores
last-high p zero = zero-le
last-high {last = last} p (suc j) =
    ⊎_elim (λ (h : ltb j (length last) ≡ true). p.lasts j (ltb-true j (length last) h))
    (λ (h : ltb j (length last) ≡ false). rw (get_or-eq_default last 0 (ltb-false j (length last) h)) zero-le)
    (decide (ltb j (length last)))

-- on idle cores all chosen tasks are still to be looked at
waiting : {chosen last cores others : List ℕ} → Keeping chosen last cores others → Waiting last chosen cores
waiting {chosen} {last} {cores} k =
    record {
      real = k.placing.real;
      once =
          λ j h.
          let idle : count (eqb j) cores ≡ 0 = ap (count (eqb j)) k.idle ∙ count-replicate (length cores) 0 j ∙ rw (ne_eqb j 0 (λ e. omega arith)) in
          omega (arith, k.placing.once j);
      high = last-high k.placing;
    }

-- after r chosen tasks were looked at, n of which are left over
pub record Going (chosen last before spare cores others : List ℕ) (n r : ℕ) : Type 0 where
  pub few : n ≤ r
  pub tail : drop n others ≡ drop n spare
  pub kept : keep_cores last (drop r chosen) cores ≡ keep_cores last chosen before
  pub whole : take n others ++ left_over last (drop r chosen) cores ≡ left_over last chosen before

module _ (chosen last before spare : List ℕ) where
  pub start : Going chosen last before spare before spare 0 0
  start = record { few = zero-le; tail = refl; kept = refl; whole = refl }

  module _ {cores others : List ℕ} {n r : ℕ} (g : Going chosen last before spare cores others n r) (more : r < length chosen) {i : ℕ} (is : i ≡ get_or chosen r 0) where
    next : drop r chosen ≡ i ∷ drop (r + 1) chosen
    next = drop-cons chosen r 0 more ∙ rw (add-one, is)

    -- the next task's last core is free: the task takes it
    pub took : {cores' : List ℕ} {k : ℕ} → k ≡ at last i → free cores k ≡ true → cores' ≡ seat cores k i
        → Going chosen last before spare cores' others n (r + 1)
    unfolding seat
    took {k = k} ek ef ec =
        let e : free cores (at last i) ≡ true = rw ek at ef in
        rw (ec, ek) (record {
          few = omega (arith, g.few);
          tail = g.tail;
          kept = sym (ap (λ (l : List ℕ). keep_cores last l cores) next ∙ keep_takes last (drop (r + 1) chosen) cores i e) ∙ g.kept;
          whole = ap (λ (l : List ℕ). take n others ++ l) (sym (ap (λ (l : List ℕ). left_over last l cores) next ∙ left_takes last (drop (r + 1) chosen) cores i e)) ∙ g.whole;
        })

    -- it is not: the task is left over
    pub passed : {k : ℕ} → n < length others → k ≡ at last i → free cores k ≡ false
        → Going chosen last before spare cores (set others n i) (n + 1) (r + 1)
    passed room ek ef =
        let e : free cores (at last i) ≡ false = rw ek at ef in
        record {
          few = omega (arith, g.few);
          tail = written-rest others n i spare g.tail;
          kept = sym (ap (λ (l : List ℕ). keep_cores last l cores) next ∙ keep_passes last (drop (r + 1) chosen) cores i e) ∙ g.kept;
          whole =
              written_next others n i (left_over last (drop (r + 1) chosen) cores) room
              ∙ ap (λ (l : List ℕ). take n others ++ l) (sym (ap (λ (l : List ℕ). left_over last l cores) next ∙ left-passes last (drop (r + 1) chosen) cores i e))
              ∙ g.whole;
        }

  -- no task is to be looked at any more
  pub ended : {cores others : List ℕ} {n r : ℕ} → Keeping chosen last before spare → Going chosen last before spare cores others n r → n ≤ length others → length chosen ≤ r
      → Kept chosen last before spare cores others n
  unfolding left_over keep_cores
  ended {cores} {others} {n} {r} k g fits done =
      let none : drop r chosen ≡ [] = drop_of_length-le chosen done in
      let all-kept : cores ≡ keep_cores last chosen before = ap (λ (l : List ℕ). keep_cores last l cores) (sym none) ∙ g.kept in
      let lefts : take n others ≡ unplaced cores chosen =
      sym (append-nil (take n others))
      ∙ ap (λ (l : List ℕ). take n others ++ left_over last l cores) (sym none)
      ∙ g.whole
      ∙ left-unplaced last chosen before (waiting k)
      ∙ ap (λ (l : List ℕ). unplaced l chosen) (sym all-kept) in
      record {
        kept = all-kept;
        number = written-number others n fits lefts;
        entries = written_list_lem others n spare lefts g.tail;
      }
