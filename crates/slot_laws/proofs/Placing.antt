-- Placing: each chosen task stands on one core and nothing else does; who keeps its core, and where the others go.
use Prim.Native.Nat.{ℕ, zero, suc, ◌+◌, ◌-◌, ◌≤◌, ◌<◌}
use mathlib.Core.Path.{◌≡◌, refl, sym, ap, ap₂, ◌∙◌}
use mathlib.Core.Bool.{true, false, cond, not, ◌&&◌, true≢false}
use mathlib.Core.Logic.{⊎_elim, ◌≢◌, ◌↔◌}
use mathlib.Core.List.{List, [], ◌∷◌, ◌++◌, map, append_assoc}
use native.Mathlib.Omega.{arith}
use borrow.Author.Tests.{ltb-true, ltb-false, lt-ltb, le-ltb, leb-true, leb-false, eqb-true, eqb-false, eq-eqb, ne_eqb}
use lib.Dec.{eqb, ltb, leb, ltb→lt, eqb→eq}
use lib.ListN.{length, take, replicate, length-replicate, set, length-set}
use lib.Seq.{set_out}
use Rattle.laws.specs.Lists.{filter, count, numbers, at, position}
use Rattle.laws.proofs.Tests.{decide, to_T, and_left, and_right}
use Rattle.laws.proofs.Positions.{hit_le, hit_same, hit_other, count-append, count_not, count-replicate, count-filter, count-filter-le, count-set-at}
use Rattle.laws.proofs.Filters.{length-filter}
use Rattle.laws.proofs.Positions.{filter-from-first, at_zeros, at_set_same, at_set_other}
use Rattle.laws.proofs.Positions.{StandsAt, stands_count, position-count, position_stands, position-le, position_once}
use Rattle.rules.specs.States.{State}
use Rattle.rules.specs.Slots.{slot, effect, release, choose, place, keep_cores, fill_cores, seat, free, placed}
use Rattle.slot_laws.proofs.Choosing.{Choice, Ranking, choose_choice}

-- ---- one task takes one free core

-- task i takes core k, which is free: from the cores a to the cores b
record Took (i k : ℕ) (a b : List ℕ) : Type 0 where
  low : 1 ≤ k
  high : k ≤ length a
  idle : at a k ≡ 0
  is : b ≡ set a (k - 1) i

module _ {i k : ℕ} {a b : List ℕ} (t : Took i k a b) where
  took_length : length b ≡ length a
  took_length = ap length t.is ∙ length-set a (k - 1) i

  took_here : at b k ≡ i
  took_here = rw t.is (at_set_same a k i t.low t.high)

  took_other : (j : ℕ) → (j ≡ k → ⊥) → at b j ≡ at a j
  took_other j n = rw t.is (at_set_other a k i j t.low n)

  took_stays : (j : ℕ) → 1 ≤ at a j → at b j ≡ at a j
  took_stays j h = took_other j (λ e. let idle : at a j ≡ 0 = ap (at a) e ∙ t.idle in omega arith)

  -- the count of every task goes by what it takes, and at most one free core fewer is left
  took_count : (j : ℕ) → 1 ≤ j → count (eqb j) b ≡ count (eqb j) a + cond (eqb j i) 1 0
  took_count j h =
      let e : count (eqb j) b ≡ count (eqb j) (set a (k - 1) i) = ap (count (eqb j)) t.is in
      omega (arith, count-set-at a (eqb j) k i t.low t.high, hit_other {x = j} {y = at a k} (λ q. omega arith))

  took_free : count (eqb 0) a ≤ suc (count (eqb 0) b)
  took_free =
      let e : count (eqb 0) b ≡ count (eqb 0) (set a (k - 1) i) = ap (count (eqb 0)) t.is in
      omega (arith, count-set-at a (eqb 0) k i t.low t.high, hit_le (eqb 0 (at a k)))

module _ (cores : List ℕ) (k i : ℕ) where
  seat_takes : 1 ≤ k → k ≤ length cores → at cores k ≡ 0 → Took i k cores (seat cores k i)
  unfolding seat
  seat_takes low high idle = record { low = low; high = high; idle = idle; is = refl }

  seat-out : length cores < k → seat cores k i ≡ cores
  unfolding seat
  seat-out h = set_out cores (k - 1) i (omega arith)

module _ (cores : List ℕ) (k : ℕ) (e : free cores k ≡ true) where
  free_real : 1 ≤ k
  unfolding free
  free_real = ltb→lt 0 k (and_left (ltb 0 k) (eqb (at cores k) 0) (to_T e))

  free-idle : at cores k ≡ 0
  unfolding free
  free-idle = eqb→eq (at cores k) 0 (and_right (ltb 0 k) (eqb (at cores k) 0) (to_T e))

free_not : (cores : List ℕ) (k : ℕ) → free cores k ≡ false → 1 ≤ k → 1 ≤ at cores k
unfolding free
free_not cores k e low =
    ⊎_elim (λ (w : eqb (at cores k) 0 ≡ true). absurd (true≢false (sym (ap₂ ◌&&◌ (lt-ltb 0 k low) w) ∙ e)))
    (λ (w : eqb (at cores k) 0 ≡ false). let n : at cores k ≢ 0 = eqb-false (at cores k) 0 w in omega arith)
    (decide (eqb (at cores k) 0))

-- ---- the cores that hold a task are left alone

record Stays (a b : List ℕ) : Type 0 where
  size : length b ≡ length a
  held : (k : ℕ) → 1 ≤ at a k → at b k ≡ at a k

stays_same : {a b : List ℕ} → b ≡ a → Stays a b
stays_same e = record { size = ap length e; held = λ k h. ap (λ c. at c k) e }

stays_took : {i k : ℕ} {a b c : List ℕ} → Took i k a b → Stays b c → Stays a c
stays_took t s =
    record {
      size = s.size ∙ took_length t;
      held = λ j h. s.held j (omega (arith, took_stays t j h)) ∙ took_stays t j h;
    }

-- what was taken is held to the end
took_holds : {i k : ℕ} {a b c : List ℕ} → Took i k a b → Stays b c → 1 ≤ i → StandsAt i c k
took_holds {k = k} t s h =
    record {
      low = t.low;
      high = omega (arith, t.high, took_length t, s.size);
      here = s.held k (omega (arith, took_here t)) ∙ took_here t;
    }

-- ---- a core holds a task

module _ (cores : List ℕ) (i : ℕ) where
  -- what stands on a core is placed, and what stands on none is not
  pub placed_stands : {k : ℕ} → StandsAt i cores k → placed cores i ≡ true
  unfolding placed
  placed_stands s = lt-ltb 0 (position i cores) (omega (arith, position-count i cores, stands_count i cores s))

  pub placed-none : count (eqb i) cores ≡ 0 → placed cores i ≡ false
  unfolding placed
  placed-none e = le-ltb 0 (position i cores) (omega (arith, position-count i cores))

  placed_true : placed cores i ≡ true → 1 ≤ count (eqb i) cores
  unfolding placed
  placed_true e = omega (arith, position-count i cores, ltb-true 0 (position i cores) e)

  placed_false : placed cores i ≡ false → count (eqb i) cores ≡ 0
  unfolding placed
  placed_false e = omega (arith, position-count i cores, ltb-false 0 (position i cores) e)

-- a task of a list without 0 has a number from 1 on
pub real-first : (i : ℕ) (is : List ℕ) → count (eqb 0) (i ∷ is) ≡ 0 → 1 ≤ i
real-first zero is h = omega arith
real-first (suc i) is h = omega arith

-- ---- keeping

-- a task can keep its core: that is one of the m cores, and none of the tasks before it last ran there
pub record Keeps (m : ℕ) (last before : List ℕ) (i : ℕ) : Type 0 where
  pub low : 1 ≤ at last i
  pub high : at last i ≤ m
  pub first : count (λ j. eqb (at last j) (at last i)) before ≡ 0

-- each task stands on its last core
record OnLast (last cores : List ℕ) : Type 0 where
  stood : (k : ℕ) → 1 ≤ at cores k → at last (at cores k) ≡ k

took_last : {last a b : List ℕ} {i : ℕ} → Took i (at last i) a b → OnLast last a → OnLast last b
took_last {last} {a} {b} {i} t o =
    record {
      stood =
          λ k h.
          ⊎_elim
          (λ (e : eqb k (at last i) ≡ true).
          let there : k ≡ at last i = eqb-true k (at last i) e in
          ap (at last) (ap (at b) there ∙ took_here t) ∙ sym there)
          (λ (e : eqb k (at last i) ≡ false).
          let same : at b k ≡ at a k = took_other t k (eqb-false k (at last i) e) in
          ap (at last) same ∙ o.stood k (omega arith))
          (decide (eqb k (at last i)));
    }

-- tasks that in their order keep their last cores where these are free: from the cores of the second list to those of the third
data Keeping (last : List ℕ) : List ℕ → List ℕ → List ℕ → Type 0 where
  done : {a : List ℕ} → Keeping last [] a a
  passes : {i : ℕ} {is a c : List ℕ} → (1 ≤ at last i → at last i ≤ length a → 1 ≤ at a (at last i)) → Keeping last is a c
      → Keeping last (i ∷ is) a c
  takes : {i : ℕ} {is a b c : List ℕ} → Took i (at last i) a b → Keeping last is b c → Keeping last (i ∷ is) a c

keeping : (last is cores : List ℕ) → Keeping last is cores (keep_cores last is cores)
unfolding keep_cores
keeping last [] cores = done
keeping last (i ∷ is) cores =
    let k : ℕ = at last i in
    ⊎_elim
    (λ (e : free cores k ≡ true).
    ⊎_elim
    (λ (w : leb k (length cores) ≡ true).
    rw e (takes (seat_takes cores k i (free_real cores k e) (leb-true k (length cores) w) (free-idle cores k e)) (keeping last is (seat cores k i))))
    (λ (w : leb k (length cores) ≡ false).
    let out : length cores < k = leb-false k (length cores) w in
    rw (e, seat-out cores k i out) (passes {i = i} {a = cores} (λ low high. omega arith) (keeping last is cores)))
    (decide (leb k (length cores))))
    (λ (e : free cores k ≡ false). rw e (passes (λ low high. free_not cores k e low) (keeping last is cores)))
    (decide (free cores k))

module _ {last : List ℕ} where
  keep_stays : {is a c : List ℕ} → Keeping last is a c → Stays a c
  keep_stays done = stays_same refl
  keep_stays (passes n r) = keep_stays r
  keep_stays (takes t r) = stays_took t (keep_stays r)

  -- a task is kept no more often than it is among them
  keep_count : {is a c : List ℕ} → Keeping last is a c → (j : ℕ) → 1 ≤ j → count (eqb j) c ≤ count (eqb j) a + count (eqb j) is
  keep_count done j h = omega arith
  keep_count (passes n r) j h = omega (arith, keep_count r j h)
  keep_count (takes t r) j h = omega (arith, took_count t j h, keep_count r j h)

  -- each core that was free and is not so any more went to one of them
  keep_room : {is a c : List ℕ} → Keeping last is a c → count (eqb 0) is ≡ 0 → count (eqb 0) a ≤ count (eqb 0) c + count (placed c) is
  keep_room done h = omega arith
  keep_room (passes n r) h = omega (arith, keep_room r (omega arith))
  keep_room (takes {i = i} {is = is} {c = c} t r) h =
      let here : placed c i ≡ true = placed_stands c i (took_holds t (keep_stays r) (real-first i is h)) in
      rw here (omega (arith, keep_room r (omega arith), took_free t))

  -- a task that can keep its core takes it
  keep_first : (xs ys : List ℕ) {i : ℕ} {a c : List ℕ} → Keeping last (xs ++ i ∷ ys) a c → 1 ≤ i → Keeps (length a) last xs i
      → at a (at last i) ≡ 0 → StandsAt i c (at last i)
  keep_first [] ys (passes n r) real k idle = absurd (omega (arith, n k.low k.high))
  keep_first [] ys (takes t r) real k idle = took_holds t (keep_stays r) real
  keep_first (x ∷ xs) ys (passes n r) real k idle = keep_first xs ys r real (omega (arith, k.first)) idle
  keep_first (x ∷ xs) ys {i} (takes t r) real k idle =
      let apart : at last i ≢ at last x = λ e. omega (arith, k.first, hit_same (sym e)) in
      keep_first xs ys r real (omega (arith, k.first, took_length t)) (took_other t (at last i) apart ∙ idle)

  -- a task that stands on its last core could keep it
  keep_only : (xs ys : List ℕ) {i : ℕ} {a c : List ℕ} → Keeping last (xs ++ i ∷ ys) a c → count (eqb 0) xs ≡ 0 → count (eqb i) xs ≡ 0
      → StandsAt i c (at last i) → at a (at last i) ≡ 0 → count (λ j. eqb (at last j) (at last i)) xs ≡ 0
  keep_only [] ys r real once stood idle = refl
  keep_only (x ∷ xs) ys {i} {a} (passes n r) real once stood idle =
      let apart : at last x ≢ at last i = λ e. omega (arith, n (omega arith) (omega (arith, (keep_stays r).size)), ap (at a) e) in
      omega (arith, hit_other apart, keep_only xs ys r (omega arith) (omega arith) stood idle)
  keep_only (x ∷ xs) ys {i} {c = c} (takes t r) real once stood idle =
      let there : at c (at last x) ≡ x = (took_holds t (keep_stays r) (real-first x xs real)).here in
      let apart : at last x ≢ at last i = λ e. omega (arith, hit_same (sym stood.here ∙ ap (at c) (sym e) ∙ there)) in
      let idle' : _ = took_other t (at last i) (λ e. apart (sym e)) ∙ idle in
      omega (arith, hit_other apart, keep_only xs ys r (omega arith) (omega arith) stood idle')

  -- what is kept stands on its last core
  keep_last : {is a c : List ℕ} → Keeping last is a c → OnLast last a → OnLast last c
  keep_last done o = o
  keep_last (passes n r) o = keep_last r o
  keep_last (takes t r) o = keep_last r (took_last t o)

-- ---- keeping from any cores

module _ (last is cores : List ℕ) where
  -- there are as many cores as before
  pub keep_length : length (keep_cores last is cores) ≡ length cores
  keep_length = (keep_stays (keeping last is cores)).size

  -- a core that holds a task goes on holding it
  pub keep_held : (k : ℕ) → 1 ≤ at cores k → at (keep_cores last is cores) k ≡ at cores k
  keep_held = (keep_stays (keeping last is cores)).held

  -- a task holds cores that it held before, and one more for each time that it is among the tasks
  pub keep_holds : (j : ℕ) → 1 ≤ j → count (eqb j) (keep_cores last is cores) ≤ count (eqb j) cores + count (eqb j) is
  keep_holds = keep_count (keeping last is cores)

-- ---- filling

fill_length : (is cores : List ℕ) → length (fill_cores is cores) ≡ length cores
unfolding fill_cores seat
fill_length [] cores = refl
fill_length (i ∷ is) cores = fill_length is (set cores (position 0 cores - 1) i) ∙ length-set cores (position 0 cores - 1) i

-- tasks that in their order take the lowest free core each
data Filling : List ℕ → List ℕ → List ℕ → Type 0 where
  done : {a : List ℕ} → Filling [] a a
  takes : {i : ℕ} {is a b c : List ℕ} → Took i (position 0 a) a b → Filling is b c → Filling (i ∷ is) a c

filling : (is cores : List ℕ) → length is ≤ count (eqb 0) cores → Filling is cores (fill_cores is cores)
unfolding fill_cores
filling [] cores h = done
filling (i ∷ is) cores h =
    let s : StandsAt 0 cores (position 0 cores) = position_stands 0 cores (omega arith) in
    let t : Took i (position 0 cores) cores (seat cores (position 0 cores) i) = seat_takes cores (position 0 cores) i s.low s.high s.here in
    takes t (filling is (seat cores (position 0 cores) i) (omega (arith, took_free t)))

fill_stays : {is a c : List ℕ} → Filling is a c → Stays a c
fill_stays done = stays_same refl
fill_stays (takes t r) = stays_took t (fill_stays r)

fill_count : {is a c : List ℕ} → Filling is a c → (j : ℕ) → 1 ≤ j → count (eqb j) c ≡ count (eqb j) a + count (eqb j) is
fill_count done j h = omega arith
fill_count (takes t r) j h = omega (arith, took_count t j h, fill_count r j h)

-- ---- placing

-- the cores after keeping
abbrev pub kept_of : ℕ → List ℕ → List ℕ → List ℕ
kept_of m last chosen = keep_cores last chosen (replicate m 0)

-- the chosen tasks that did not keep a core
abbrev pub others_of : ℕ → List ℕ → List ℕ → List ℕ
others_of m last chosen = filter (λ i. not (placed (kept_of m last chosen) i)) chosen

module _ (m : ℕ) (last chosen : List ℕ) where
  kept : Keeping last chosen (replicate m 0) (kept_of m last chosen)
  kept = keeping last chosen (replicate m 0)

  kept-length : length (kept_of m last chosen) ≡ m
  kept-length = (keep_stays kept).size ∙ length-replicate m 0

  -- a task that is placed after keeping stands on its last core
  pub kept-position : (i : ℕ) → 1 ≤ i → placed (kept_of m last chosen) i ≡ true → position i (kept_of m last chosen) ≡ at last i
  kept-position i real e =
      let cores : List ℕ = kept_of m last chosen in
      let s : StandsAt i cores (position i cores) = position_stands i cores (placed_true cores i e) in
      let o : OnLast last cores = keep_last kept (record { stood = λ k h. absurd (omega (arith, at_zeros m k)) }) in
      sym (o.stood (position i cores) (omega (arith, s.here))) ∙ ap (at last) s.here

  kept_stands : (i : ℕ) → 1 ≤ i → placed (kept_of m last chosen) i ≡ true → StandsAt i (kept_of m last chosen) (at last i)
  kept_stands i real e =
      let cores : List ℕ = kept_of m last chosen in
      rw (← kept-position i real e) (position_stands i cores (placed_true cores i e))

module _ {m : ℕ} {chosen : List ℕ} (c : Choice m chosen) (last : List ℕ) where
  -- there is a free core for each of the others
  pub others-room : length (others_of m last chosen) ≤ count (eqb 0) (kept_of m last chosen)
  others-room =
      omega (
        arith,
        length-filter (λ i. not (placed (kept_of m last chosen) i)) chosen,
        count_not (placed (kept_of m last chosen)) chosen,
        keep_room (kept m last chosen) c.real,
        count-replicate m 0 0,
        c.few,
      )

  filled : Filling (others_of m last chosen) (kept_of m last chosen) (place m last chosen)
  unfolding place
  filled = filling (others_of m last chosen) (kept_of m last chosen) others-room

  -- each chosen task has kept a core or is one of the others
  pub kept_or_other : (i : ℕ) → 1 ≤ i → count (eqb i) (kept_of m last chosen) + count (eqb i) (others_of m last chosen) ≡ count (eqb i) chosen
  kept_or_other i h =
      let cores : List ℕ = kept_of m last chosen in
      let none : _ = rw (ne_eqb i 0 (λ q. omega arith)) at (count-replicate m 0 i) in
      let others : _ = count-filter (λ j. not (placed cores j)) i chosen in
      ⊎_elim
      (λ (e : placed cores i ≡ true).
      omega (arith, rw e at others, none, keep_count (kept m last chosen) i h, placed_true cores i e, c.once i))
      (λ (e : placed cores i ≡ false). omega (arith, rw e at others, placed_false cores i e))
      (decide (placed cores i))

-- a placing has one entry for each core
pub place-length : (m : ℕ) (last chosen : List ℕ) → length (place m last chosen) ≡ m
unfolding place
place-length m last chosen = fill_length (others_of m last chosen) (kept_of m last chosen) ∙ kept-length m last chosen

-- the cores hold each chosen task exactly once and no other
pub place-holds : {m : ℕ} {chosen : List ℕ} → Choice m chosen → (last : List ℕ) (i : ℕ) → 1 ≤ i
    → count (eqb i) (place m last chosen) ≡ count (eqb i) chosen
place-holds c last i h = fill_count (filled c last) i h ∙ kept_or_other c last i h

-- what keeping has placed stays where it is
pub place_stays : {m : ℕ} {chosen : List ℕ} → Choice m chosen → (last : List ℕ) (k : ℕ) → 1 ≤ at (kept_of m last chosen) k
    → at (place m last chosen) k ≡ at (kept_of m last chosen) k
place_stays c last = (fill_stays (filled c last)).held

-- ---- who keeps its core

module _ {m : ℕ} (last xs : List ℕ) (i : ℕ) (ys : List ℕ) (c : Choice m (xs ++ i ∷ ys)) where
  chosen-real : 1 ≤ i
  chosen-real = real-first i ys (omega (arith, c.real, count-append (eqb 0) xs (i ∷ ys)))

  before_real : count (eqb 0) xs ≡ 0
  before_real = omega (arith, c.real, count-append (eqb 0) xs (i ∷ ys))

  before_once : count (eqb i) xs ≡ 0
  before_once = omega (arith, c.once i, count-append (eqb i) xs (i ∷ ys), hit_same {x = i} {y = i} refl)

  keeps_stands : Keeps m last xs i → StandsAt i (kept_of m last (xs ++ i ∷ ys)) (at last i)
  keeps_stands k =
      keep_first xs ys (kept m last (xs ++ i ∷ ys)) chosen-real (omega (arith, k.first, length-replicate {A = ℕ} m 0)) (at_zeros m (at last i))

  -- a chosen task that can keep its core keeps it
  pub place_keeps : Keeps m last xs i → at (place m last (xs ++ i ∷ ys)) (at last i) ≡ i
  place_keeps k =
      let s : StandsAt i (kept_of m last (xs ++ i ∷ ys)) (at last i) = keeps_stands k in
      place_stays c last (at last i) (omega (arith, chosen-real, s.here)) ∙ s.here

  -- and only such a task has a core after keeping: all others are to be placed yet
  pub kept-iff : (placed (kept_of m last (xs ++ i ∷ ys)) i ≡ true) ↔ Keeps m last xs i
  kept-iff = (
    λ e.
        let s : StandsAt i (kept_of m last (xs ++ i ∷ ys)) (at last i) = kept_stands m last (xs ++ i ∷ ys) i chosen-real e in
        record {
          low = s.low;
          high = omega (arith, s.high, kept-length m last (xs ++ i ∷ ys));
          first = keep_only xs ys (kept m last (xs ++ i ∷ ys)) before_real before_once s (at_zeros m (at last i));
        },
    λ k. placed_stands (kept_of m last (xs ++ i ∷ ys)) i (keeps_stands k),
  )

-- where two last ran on one core, the first of them keeps it: it stands there, and the later one is to be placed yet
pub place-taken : {m : ℕ} (last xs : List ℕ) (j : ℕ) (zs : List ℕ) (i : ℕ) (ys : List ℕ) → Choice m (xs ++ j ∷ zs ++ i ∷ ys) → Keeps m last xs j
    → at last i ≡ at last j
    → (at (place m last (xs ++ j ∷ zs ++ i ∷ ys)) (at last i) ≡ j) × (placed (kept_of m last (xs ++ j ∷ zs ++ i ∷ ys)) i ≡ false)
place-taken {m} last xs j zs i ys c k e =
    let cores : List ℕ = kept_of m last (xs ++ j ∷ zs ++ i ∷ ys) in
    let regroup : _ = append_assoc xs (j ∷ zs) (i ∷ ys) in
    let taken : _ = count-append (λ x. eqb (at last x) (at last i)) xs (j ∷ zs) in (
      rw (regroup, e) (place_keeps last xs j (zs ++ i ∷ ys) (rw regroup at c) k),
      ⊎_elim
          (λ (w : placed cores i ≡ true). absurd (omega (arith, ((kept-iff last (xs ++ j ∷ zs) i ys c).0 w).first, taken, hit_same (sym e))))
          (λ (w : placed cores i ≡ false). w)
          (decide (placed cores i)),
    )

-- ---- where the others go

-- the free ones of the cores 1 to m, in rising order
abbrev pub free_of : ℕ → List ℕ → List ℕ
free_of m cores = filter (λ k. eqb (at cores k) 0) (numbers m)

-- the lowest free core, and what is free when it is taken
took_lowest : {i : ℕ} {a b : List ℕ} → Took i (position 0 a) a b → 1 ≤ i
    → free_of (length a) a ≡ position 0 a ∷ free_of (length b) b
took_lowest {i} {a} {b} t real =
    rw (took_length t)
    (filter-from-first (λ k. eqb (at a k) 0) (λ k. eqb (at b k) 0) 1 (length a) (position 0 a) t.low (omega (arith, t.high))
    (eq-eqb (at a (position 0 a)) 0 t.idle)
    (ne_eqb (at b (position 0 a)) 0 (λ e. omega (arith, took_here t)))
    (λ j low before. ne_eqb (at a j) 0 (λ e. omega (arith, position-le 0 a (record { low = low; high = omega (arith, t.high); here = e }))))
    (λ j n. ap (λ x. eqb x 0) (took_other t j n)))

-- the tasks that fill take the first free cores, in their order
fill_where : {is a c : List ℕ} → Filling is a c → count (eqb 0) is ≡ 0 → ((i : ℕ) → 1 ≤ i → count (eqb i) c ≤ 1)
    → map (λ i. position i c) is ≡ take (length is) (free_of (length a) a)
fill_where done real once = refl
fill_where (takes {i = i} {is = is} {a = a} {c = c} t r) real once =
    let low : 1 ≤ i = real-first i is real in
    rw (took_lowest t low, position_once i c (once i low) (took_holds t (fill_stays r) low), fill_where r (omega arith) once)

-- each other chosen task, in priority order, takes the lowest free core
pub place-others : {m : ℕ} {chosen : List ℕ} → Choice m chosen → (last : List ℕ)
    → map (λ i. position i (place m last chosen)) (others_of m last chosen) ≡ take (length (others_of m last chosen)) (free_of m (kept_of m last chosen))
place-others {m} {chosen} c last =
    let real : count (eqb 0) (others_of m last chosen) ≡ 0 =
    omega (arith, c.real, count-filter-le (λ i. not (placed (kept_of m last chosen) i)) (eqb 0) chosen) in
    fill_where (filled c last) real (λ i h. omega (arith, place-holds c last i h, c.once i))
    ∙ ap (λ n. take (length (others_of m last chosen)) (free_of n (kept_of m last chosen))) (kept-length m last chosen)

-- ---- one slot

module _ (st : State) (r : Ranking st.ranks) (i : ℕ) (low : 1 ≤ i) where
  -- a task stands on one core where it is chosen, and else on none
  pub slot-chosen : count (eqb i) (slot st).shown.cores ≡ count (eqb i) (choose st.table.m st.ranks (release st.table st.clock st.left))
  unfolding slot effect
  slot-chosen = place-holds (choose_choice st.table.m (release st.table st.clock st.left) r) st.last i low

  -- so it never holds two cores
  pub slot_once : count (eqb i) (slot st).shown.cores ≤ 1
  slot_once = rw slot-chosen ((choose_choice st.table.m (release st.table st.clock st.left) r).once i)
