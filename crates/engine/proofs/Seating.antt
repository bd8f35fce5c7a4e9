-- The loop of `fill`: the lowest free core is never before the one that was looked at last.
use Prim.Native.Nat.{ℕ, suc, ◌+◌, ◌≤◌, ◌<◌}
use mathlib.Core.Path.{◌≡◌, refl, sym, ap, ◌∙◌}
use mathlib.Core.Bool.{cond}
use mathlib.Core.List.{List, [], ◌∷◌, ◌++◌}
use native.Mathlib.Numerals.{add-one, sub-one}
use native.Mathlib.Omega.{arith}
use lib.Dec.{eqb}
use lib.ListN.{length, get_or, take, drop, set, drop_of_length-le}
use lib.Seq.{drop-cons, take_all, take-suc, take-suc-set}
use Rattle.laws.specs.Lists.{count, at, position}
use Rattle.laws.proofs.Positions.{hit_le, hit_other, hit_same, count-append, count_set, position_first}
use Rattle.rules.specs.Slots.{fill_cores, seat}
use Rattle.engine.specs.Placing.{moves_to, Remembered, Seated, Filling, Filled}
use Rattle.engine.proofs.Remembering.{seat-next}

-- after j of the others have a core; none of the first k cores is free
pub record Going (others last before last' cores : List ℕ) (moves j k : ℕ) : Type 0 where
  pub within : j ≤ length others
  pub passed : count (eqb 0) (take k cores) ≡ 0
  pub room : length others ≤ j + count (eqb 0) cores
  pub whole : fill_cores (drop j others) cores ≡ fill_cores others before
  pub once : (i : ℕ) → 1 ≤ i → count (eqb i) cores + count (eqb i) (drop j others) ≤ 1
  pub seated : Seated cores last last' moves
  pub few : moves ≤ k

-- the first task takes the lowest free core
fill_first : (is cores : List ℕ) (i k : ℕ) → position 0 cores ≡ suc k → fill_cores (i ∷ is) cores ≡ fill_cores is (set cores k i)
unfolding fill_cores seat
fill_first is cores i k e = rw (e, sub-one)

-- where none of the first k cores is free, and the next is not, none of k + 1 is
one_more_passed : (k v : ℕ) (l m : List ℕ) → take (suc k) m ≡ take k l ++ (v ∷ []) → count (eqb 0) (take k l) ≡ 0 → (0 ≡ v → ⊥)
    → count (eqb 0) (take (k + 1) m) ≡ 0
one_more_passed k v l m e none busy =
    ap (λ (n : ℕ). count (eqb 0) (take n m)) (add-one k)
    ∙ ap (count (eqb 0)) e
    ∙ omega (arith, count-append (eqb 0) (take k l) (v ∷ []), hit_other busy)

module _ {others last before : List ℕ} (f : Filling others last before) where
  module _ {last' cores : List ℕ} {moves j k : ℕ} (g : Going others last before last' cores moves j k) where
    -- there is a free core for each task, so past the last core no task is to be placed
    pub all_seated : length cores ≤ k → length others ≤ j
    all_seated past =
        let none : count (eqb 0) cores ≡ 0 = ap (count (eqb 0)) (sym (take_all k cores past)) ∙ g.passed in
        omega (arith, g.room)

    -- the next core is free: the next task takes it
    module _ (more : j < length others) (inside : k < length cores) where
      abbrev task : ℕ
      task = get_or others j 0

      pub low : 1 ≤ task
      low = f.named.from j more

      next : (i : ℕ) → count (eqb i) (drop j others) ≡ cond (eqb i task) 1 0 + count (eqb i) (drop (suc j) others)
      next i = ap (count (eqb i)) (drop-cons others j 0 more) ∙ omega arith

      none : count (eqb task) cores ≡ 0
      none = omega (arith, g.once task low, next task, hit_same {x = task} refl)

      pub took : get_or cores k 0 ≡ 0 → {last'' : List ℕ} {v : ℕ} → Remembered task (k + 1) last' last'' v
          → Going others last before last'' (set cores k task) (moves + v) (j + 1) (k + 1)
      took idle h =
          record {
            within = omega arith;
            passed = one_more_passed k task cores (set cores k task) (take-suc-set cores k task inside) g.passed (λ e. omega (arith, low));
            room = omega (arith, g.room, count_set (eqb 0) cores k task 0 inside, hit_other {x = 0} {y = task} (λ e. omega (arith, low)), hit_same (sym idle));
            whole =
                ap (λ (n : ℕ). fill_cores (drop n others) (set cores k task)) (add-one j)
                ∙ sym (fill_first (drop (suc j) others) cores task k (position_first 0 cores k inside g.passed idle))
                ∙ ap (λ (l : List ℕ). fill_cores l cores) (sym (drop-cons others j 0 more))
                ∙ g.whole;
            once =
                λ i real.
                rw (add-one j)
                (omega (arith, g.once i real, next i, count_set (eqb i) cores k task 0 inside, hit_other {x = i} {y = get_or cores k 0} (λ e. omega arith)));
            seated = seat-next g.seated task k low (f.named.to j more) none idle inside h;
            few = omega (arith, h.number, hit_le (moves_to (k + 1) (at last' task)), g.few);
          }

    -- it is not
    pub passed_one : k < length cores → (get_or cores k 0 ≡ 0 → ⊥) → Going others last before last' cores moves j (k + 1)
    passed_one more busy =
        record {
          within = g.within;
          passed = one_more_passed k (get_or cores k 0) cores cores (take-suc cores k 0 more) g.passed (λ e. busy (sym e));
          room = g.room;
          whole = g.whole;
          once = g.once;
          seated = g.seated;
          few = omega (arith, g.few);
        }

    -- no task is to be placed any more
    pub ended : length others ≤ j → Filled others last before last' cores moves
    unfolding fill_cores
    ended done =
        record {
          filled = ap (λ (l : List ℕ). fill_cores l cores) (sym (drop_of_length-le others done)) ∙ g.whole;
          seated = g.seated;
        }
