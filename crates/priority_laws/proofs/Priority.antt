-- Orders by priority: permutations of 1 to n with heavy tasks first and light periods never falling. The defined order is one.
use Prim.Native.Nat.{ℕ, zero, suc, ◌+◌, ◌≤◌, ◌<◌}
use mathlib.Core.Path.{◌≡◌, refl, sym, ap, ◌∙◌}
use mathlib.Core.Bool.{Bool, true, false, cond}
use mathlib.Core.Logic.{◌⊎◌, ⊎_elim}
use mathlib.Core.List.{List, ◌++◌, map}
use native.Mathlib.Nat.{le_trans, le_of_suc-le-suc, eq-or-lt_of_le}
use native.Mathlib.Omega.{arith}
use lib.Dec.{eqb}
use lib.ListN.{length, take, drop, get_or, length-append}
use lib.Seq.{take_at, drop_at, get_or-drop, get_or-take}
use borrow.Author.Tests.{not-true}
use Rattle.laws.specs.Lists.{filter, count, sum, numbers, at, position}
use Rattle.laws.proofs.Tests.{never}
use Rattle.laws.proofs.Each.{length_from}
use Rattle.laws.proofs.Entries.{count-numbers-le}
use Rattle.laws.proofs.Filters.{count_as_sum, length_as_sum, length-filter}
use Rattle.laws.proofs.Positions.{StandsAt, position_stands}
use Rattle.laws.proofs.Sorted.{Stands, stands_get_or, stands_from, stands_filter, count-from-none, count_from_once, at_sorted, sorted_at, passing_first}
use Rattle.laws.proofs.Sums.{same_sums, distinct_all}
use Rattle.rules.specs.Tables.{Table, size}
use Rattle.rules.specs.Verdicts.{heavy, light, heavy_count, order}
use Rattle.rules.specs.Obeys.{Priority, lights_of}
use Rattle.priority_laws.proofs.Order.{period_of, key_of, Before, order-count, order_sorted}

module _ {tbl : Table} {ranks : List ℕ} (r : Priority tbl ranks) where
  -- ---- sums and counts over the order are those over 1 to n

  pub ranks-sum : (f : ℕ → ℕ) → sum (map f ranks) ≡ sum (map f (numbers (size tbl)))
  ranks-sum f = same_sums f ranks (numbers (size tbl)) r.permutes (λ i. count-numbers-le i (size tbl))

  pub ranks-count : (p : ℕ → Bool) → count p ranks ≡ count p (numbers (size tbl))
  ranks-count p = count_as_sum p ranks ∙ ranks-sum (λ i. cond (p i) 1 0) ∙ sym (count_as_sum p (numbers (size tbl)))

  pub ranks-length : length ranks ≡ size tbl
  ranks-length =
      length_as_sum ranks ∙ ranks-sum (λ i. 1) ∙ sym (length_as_sum (numbers (size tbl))) ∙ length_from 1 (size tbl)

  -- each of 1 to n stands in the order once, and nothing else does
  pub ranks_once : (i : ℕ) → 1 ≤ i → i ≤ size tbl → count (eqb i) ranks ≡ 1
  ranks_once i low high = r.permutes i ∙ count_from_once i 1 (size tbl) low (omega arith)

  pub ranks-none : (i : ℕ) → (i ≡ 0) ⊎ (size tbl < i) → count (eqb i) ranks ≡ 0
  ranks-none i out =
      r.permutes i
      ∙ count-from-none i 1 (size tbl) (λ low high. ⊎_elim (λ z. omega arith) (λ l. omega arith) out)

  -- ---- heavy tasks first

  -- the order is its heavy tasks and then its light ones
  pub ranks_parts : ranks ≡ filter (heavy tbl) ranks ++ lights_of tbl ranks
  unfolding light
  ranks_parts = passing_first (heavy tbl) ranks (at_sorted (λ i j. heavy tbl j ≡ true → heavy tbl i ≡ true) ranks r.heavy_first)

  -- so many tasks are heavy
  ranks-heavies : length (filter (heavy tbl) ranks) ≡ heavy_count tbl
  unfolding heavy_count
  ranks-heavies = length-filter (heavy tbl) ranks ∙ ranks-count (heavy tbl)

  -- the heavy tasks and the light ones are all
  pub ranks-all : heavy_count tbl + length (lights_of tbl ranks) ≡ size tbl
  ranks-all = omega (arith, ranks-length, ap length ranks_parts, length-append (filter (heavy tbl) ranks) (lights_of tbl ranks), ranks-heavies)

  -- the task of rank heavy_count + j, from 0, is light task j
  pub light-at : (j : ℕ) → get_or ranks (heavy_count tbl + j) 0 ≡ get_or (lights_of tbl ranks) j 0
  light-at j =
      sym (get_or-drop (heavy_count tbl) ranks j 0)
      ∙ ap (λ l. get_or l j 0) (ap (drop (heavy_count tbl)) ranks_parts ∙ drop_at (filter (heavy tbl) ranks) (lights_of tbl ranks) (heavy_count tbl) ranks-heavies)

  -- the first ranks are of heavy tasks, the others of light ones
  pub heavy-at : (k : ℕ) → k < heavy_count tbl → heavy tbl (get_or ranks k 0) ≡ true
  heavy-at k h =
      let hs : List ℕ = filter (heavy tbl) ranks in
      let e : get_or ranks k 0 ≡ get_or hs k 0 =
      sym (get_or-take (heavy_count tbl) ranks k 0 h)
      ∙ ap (λ l. get_or l k 0) (ap (take (heavy_count tbl)) ranks_parts ∙ take_at hs (lights_of tbl ranks) (heavy_count tbl) ranks-heavies)
      in
      rw e (stands_filter (heavy tbl) (get_or hs k 0) ranks (stands_get_or hs k (rw ranks-heavies h))).0

  pub light-light : (j : ℕ) → j < length (lights_of tbl ranks) → heavy tbl (get_or ranks (heavy_count tbl + j) 0) ≡ false
  unfolding light
  light-light j h =
      let l : List ℕ = lights_of tbl ranks in
      rw (light-at j) (not-true (heavy tbl (get_or l j 0)) (stands_filter (light tbl) (get_or l j 0) ranks (stands_get_or l j h)).0)

  -- the light tasks go by periods that never fall
  pub light-rising : (i j : ℕ) → i < j → j < length (lights_of tbl ranks)
      → period_of tbl (get_or ranks (heavy_count tbl + i) 0) ≤ period_of tbl (get_or ranks (heavy_count tbl + j) 0)
  light-rising i j less high =
      r.rising (suc (heavy_count tbl + i)) (suc (heavy_count tbl + j)) (omega arith) (omega arith) (omega (arith, ranks-length, ranks-all)) (light-light i (omega arith)) (light-light j high)

  -- ---- ranks and tasks

  -- a task of the order is one of the table
  pub ranks_within : (i : ℕ) → Stands i ranks → (1 ≤ i) × (i ≤ size tbl)
  ranks_within i s = omega (arith, stands_from i 1 (size tbl) (rw (r.permutes i) at s))

  pub task-low : (k : ℕ) → k < size tbl → 1 ≤ get_or ranks k 0
  task-low k h = (ranks_within (get_or ranks k 0) (stands_get_or ranks k (rw ranks-length h))).0

  pub task-high : (k : ℕ) → k < size tbl → get_or ranks k 0 ≤ size tbl
  task-high k h = (ranks_within (get_or ranks k 0) (stands_get_or ranks k (rw ranks-length h))).1

  -- the rank of a task
  pub rank_of : (i : ℕ) → 1 ≤ i → i ≤ size tbl → (k : ℕ) × (k < size tbl) × (get_or ranks k 0 ≡ i)
  rank_of i low high = go (position i ranks) (position_stands i ranks (omega (arith, ranks_once i low high)))
    where
      go : (p : ℕ) → StandsAt i ranks p → (k : ℕ) × (k < size tbl) × (get_or ranks k 0 ≡ i)
      go zero s = absurd (omega (arith, s.low))
      go (suc k) s = (k, rw ranks-length at s.high, s.here)

-- ---- orders by key

-- heavy tasks have key 0 and light ones a key that grows with the period, so keys that never fall say the rest of an order by priority
key_heavy-first : (a b : Bool) (s t : ℕ) → cond a 0 (suc s) ≤ cond b 0 (suc t) → b ≡ true → a ≡ true
key_heavy-first true b s t h e = refl
key_heavy-first false true s t h e = absurd (omega arith)
key_heavy-first false false s t h e = e

key_rising : (a b : Bool) (s t : ℕ) → cond a 0 (suc s) ≤ cond b 0 (suc t) → a ≡ false → b ≡ false → s ≤ t
key_rising true b s t h e f = never cc
key_rising false true s t h e f = absurd (omega arith)
key_rising false false s t h e f = omega arith

pub by_key : {tbl : Table} {ranks : List ℕ} → ((i : ℕ) → count (eqb i) ranks ≡ count (eqb i) (numbers (size tbl)))
    → ((a b : ℕ) → 1 ≤ a → a < b → b ≤ length ranks → key_of tbl (at ranks a) ≤ key_of tbl (at ranks b))
    → Priority tbl ranks
by_key {tbl} {ranks} permutes keys =
    record {
      permutes = permutes;
      heavy_first =
          λ a b low less high.
          key_heavy-first (heavy tbl (at ranks a)) (heavy tbl (at ranks b)) (period_of tbl (at ranks a)) (period_of tbl (at ranks b)) (keys a b low less high);
      rising =
          λ a b low less high.
          key_rising (heavy tbl (at ranks a)) (heavy tbl (at ranks b)) (period_of tbl (at ranks a)) (period_of tbl (at ranks b)) (keys a b low less high);
    }

-- what a walk along the order sees: n tasks from 1 to n, none twice, and no key below the one before it
never_falls : (f : ℕ → ℕ) (n : ℕ) → ((a : ℕ) → 1 ≤ a → a < n → f a ≤ f (suc a)) → (a b : ℕ) → 1 ≤ a → a < b → b ≤ n → f a ≤ f b
never_falls f n step a zero low less high = absurd (omega arith)
never_falls f n step a (suc b) low less high =
    ⊎_elim (λ (e : a ≡ b). rw e (step b (omega arith) high))
    (λ l. le_trans (never_falls f n step a b low l (omega arith)) (step b (omega arith) high))
    (eq-or-lt_of_le (le_of_suc-le-suc less))

pub by_steps : {tbl : Table} {ranks : List ℕ} → length ranks ≡ size tbl → ((i : ℕ) → count (eqb i) ranks ≤ 1) → ((i : ℕ) → Stands i ranks → (1 ≤ i) × (i ≤ size tbl))
    → ((a : ℕ) → 1 ≤ a → a < length ranks → key_of tbl (at ranks a) ≤ key_of tbl (at ranks (suc a)))
    → Priority tbl ranks
by_steps {tbl} {ranks} len once within step =
    by_key (distinct_all (size tbl) ranks len once within) (never_falls (λ a. key_of tbl (at ranks a)) (length ranks) step)

-- the defined order is one by priority
pub order-priority : (tbl : Table) → Priority tbl (order tbl)
order-priority tbl =
    by_key (λ i. order-count tbl (eqb i)) (λ a b low less high.
    before_keys (at (order tbl) a) (at (order tbl) b) (sorted_at (Before (key_of tbl)) (order tbl) a b (order_sorted tbl) low less high))
  where
    before_keys : (i j : ℕ) → Before (key_of tbl) i j → key_of tbl i ≤ key_of tbl j
    before_keys i j b = ⊎_elim (λ l. omega arith) (λ e. omega arith) b

module _ (tbl : Table) where
  -- so it has n tasks, each of 1 to n once, and nothing else
  pub order-length : length (order tbl) ≡ size tbl
  order-length = ranks-length (order-priority tbl)

  pub order_once : (i : ℕ) → 1 ≤ i → i ≤ size tbl → count (eqb i) (order tbl) ≡ 1
  order_once = ranks_once (order-priority tbl)

  pub order-none : (i : ℕ) → (i ≡ 0) ⊎ (size tbl < i) → count (eqb i) (order tbl) ≡ 0
  order-none = ranks-none (order-priority tbl)
