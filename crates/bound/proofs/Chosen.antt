-- The choice by rank: the task of rank k is chosen where it has left work and fewer than m tasks before it have.
use Prim.Native.Nat.{ℕ, zero, suc, ◌+◌, ◌-◌, ◌<◌, min}
use mathlib.Core.Path.{◌≡◌, refl, ap, ◌∙◌, fun_ext}
use mathlib.Core.Bool.{true, false, cond}
use mathlib.Core.Logic.{⊎_elim}
use mathlib.Core.List.{List, ◌∷◌}
use native.Mathlib.Nat.{le_of_suc-le}
use native.Mathlib.Omega.{arith}
use borrow.Author.Tests.{ltb-true, ltb-false, eq-eqb}
use lib.Dec.{eqb}
use lib.ListN.{length, take, drop, get_or}
use lib.Seq.{split_at}
use Rattle.laws.specs.Lists.{count, at, filter}
use Rattle.laws.proofs.Tests.{decide}
use Rattle.laws.proofs.Positions.{count-append, count-take, count-filter-le}
use Rattle.rules.specs.Slots.{choose}
use Rattle.rules.specs.Counts.{sum_before}
use Rattle.slot_laws.proofs.Choosing.{Ranking, pending, choose-append, choose-le}
use Rattle.bound.proofs.Prefixes.{count_of_first}

-- a test for left work as a number
pending-number : (left : List ℕ) (i : ℕ) → cond (pending left i) 1 0 ≡ min 1 (at left i)
pending-number left i =
    ⊎_elim (λ (e : pending left i ≡ true). rw e (omega (arith, ltb-true 0 (at left i) e)))
    (λ (e : pending left i ≡ false). rw e (omega (arith, ltb-false 0 (at left i) e)))
    (decide (pending left i))

taken-first : (m i : ℕ) (ys : List ℕ) → count (eqb i) ys ≡ 0 → count (eqb i) (take m (i ∷ ys)) ≡ min 1 m
taken-first zero i ys none = refl
taken-first (suc m) i ys none = rw (eq-eqb i i refl) (omega (arith, count-take (eqb i) m ys))

-- the first of the ranks, where it stands nowhere later
chosen-first : (m i : ℕ) (ys left : List ℕ) → count (eqb i) ys ≡ 0 → count (eqb i) (choose m (i ∷ ys) left) ≡ min (min 1 (at left i)) m
unfolding choose
chosen-first m i ys left none =
    let fewer : count (eqb i) (filter (pending left) ys) ≡ 0 = omega (arith, count-filter-le (pending left) (eqb i) ys) in
    ⊎_elim (λ (e : pending left i ≡ true). rw e (omega (arith, taken-first m i (filter (pending left) ys) fewer, ltb-true 0 (at left i) e)))
    (λ (e : pending left i ≡ false). rw e (omega (arith, count-take (eqb i) m (filter (pending left) ys), ltb-false 0 (at left i) e)))
    (decide (pending left i))

module _ (m : ℕ) {ranks : List ℕ} (r : Ranking ranks) (left : List ℕ) (k : ℕ) (h : k < length ranks) where
  -- the count of the task of rank k in the choice
  pub chosen_by_rank : count (eqb (get_or ranks k 0)) (choose m ranks left) ≡ min (min 1 (at left (get_or ranks k 0))) (m - sum_before k (λ j. min 1 (at left (get_or ranks j 0))))
  chosen_by_rank =
      let i : ℕ = get_or ranks k 0 in
      let xs : List ℕ = take k ranks in
      let ys : List ℕ = drop (suc k) ranks in
      let parts : count (eqb i) ranks ≡ count (eqb i) xs + (1 + count (eqb i) ys) =
      ap (count (eqb i)) (split_at ranks k 0 h) ∙ count-append (eqb i) xs (i ∷ ys) ∙ rw (eq-eqb i i refl)
      in
      let chosen : count (eqb i) (choose m ranks left) ≡ count (eqb i) (choose m xs left) + count (eqb i) (choose (m - count (pending left) xs) (i ∷ ys) left) =
      ap (λ l. count (eqb i) (choose m l left)) (split_at ranks k 0 h)
      ∙ ap (count (eqb i)) (choose-append m xs (i ∷ ys) left)
      ∙ count-append (eqb i) (choose m xs left) (choose (m - count (pending left) xs) (i ∷ ys) left)
      in
      let before : count (pending left) xs ≡ sum_before k (λ j. min 1 (at left (get_or ranks j 0))) =
      count_of_first ranks (pending left) k (le_of_suc-le h) ∙ ap (sum_before k) (fun_ext (λ j. pending-number left (get_or ranks j 0)))
      in
      omega (
        arith,
        r.once i,
        choose-le m xs left i,
        chosen-first (m - count (pending left) xs) i ys left (omega (arith, r.once i)),
      )
