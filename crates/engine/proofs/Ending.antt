-- The loop of `end`: after i tasks.
use Prim.Native.Nat.{ℕ, ◌+◌, ◌≤◌, ◌<◌, zero-le}
use mathlib.Core.Path.{◌≡◌, refl, sym, ap, ◌∙◌}
use mathlib.Core.Bool.{Bool, true, false, cond, ◌&&◌}
use mathlib.Core.List.{List}
use native.Mathlib.Nat.{le_refl}
use native.Mathlib.Omega.{arith}
use lib.Dec.{eqb, ltb}
use lib.ListN.{length, get_or, set}
use mir.Val.{bool_byte}
use Rattle.laws.specs.Lists.{count, numbers, at}
use Rattle.laws.proofs.Filling.{filled, filled_turn, filled-here, at_next, count_next}
use Rattle.engine.specs.Ends.{next_phase, ending, Ending}

-- a part is no more than the whole
cond-le : (b : Bool) (x : ℕ) → cond b x 0 ≤ x
cond-le true x = le_refl x
cond-le false x = zero-le

-- some work is lost where the deadline falls on the slot's end and some is left
lost_some : (b : Bool) (x : ℕ) → ltb 0 (cond b x 0) ≡ (b && ltb 0 x)
lost_some true x = refl
lost_some false x = refl

-- a test as a number
as_number : (b : Bool) → bool_byte b ≡ cond b 1 0
as_number true = refl
as_number false = refl

module _ (c t phase left dropped : List ℕ) where
  abbrev phase_of : ℕ → ℕ
  phase_of i = next_phase (at phase i) (at t i)

  abbrev left_of : ℕ → ℕ
  left_of i = cond (ending phase t i) (at c i) (at left i)

  abbrev dropped_of : ℕ → ℕ
  dropped_of i = at dropped i + cond (ending phase t i) (at left i) 0

  abbrev miss_of : ℕ → Bool
  miss_of i = ending phase t i && ltb 0 (at left i)

  -- after i tasks
  pub record Going (phase' left' dropped' : List ℕ) (misses i : ℕ) : Type 0 where
    pub phases : phase' ≡ filled phase_of phase i
    pub lefts : left' ≡ filled left_of left i
    pub drops : dropped' ≡ filled dropped_of dropped i
    pub number : misses ≡ count miss_of (numbers i)
    pub small : misses ≤ i

  module _ (e : Ending c t phase left dropped) where
    module _ {phase' left' dropped' : List ℕ} {misses i : ℕ} (g : Going phase' left' dropped' misses i) where
      module _ (more : i < length left) where
        -- what the loop reads of the next task is as it was
        phase-here : get_or phase' i 0 ≡ get_or phase i 0
        phase-here = ap (λ (l : List ℕ). get_or l i 0) g.phases ∙ filled-here phase_of phase i (omega (arith, e.phase_size))

        left_here : get_or left' i 0 ≡ get_or left i 0
        left_here = ap (λ (l : List ℕ). get_or l i 0) g.lefts ∙ filled-here left_of left i more

        dropped-here : get_or dropped' i 0 ≡ get_or dropped i 0
        dropped-here = ap (λ (l : List ℕ). get_or l i 0) g.drops ∙ filled-here dropped_of dropped i (omega (arith, e.dropped_size))

        -- one task's turn, with the values that the loop computes for it
        pub turn : {p u d v : ℕ} → p ≡ next_phase (get_or phase' i 0) (get_or t i 0) → u ≡ cond (eqb p 0) (get_or c i 0) (get_or left' i 0)
            → d ≡ cond (eqb p 0) (get_or left' i 0) 0 → v ≡ bool_byte (ltb 0 d)
            → Going (set phase' i p) (set left' i u) (set dropped' i (get_or dropped' i 0 + d)) (misses + v) (i + 1)
        turn {p} {u} {d} {v} ep eu ed ev =
            let p_more : i < length phase = omega (arith, e.phase_size) in
            let d_more : i < length dropped = omega (arith, e.dropped_size) in
            let next : p ≡ phase_of (i + 1) = ep ∙ rw (phase-here, at_next phase i, at_next t i) in
            let units : get_or left' i 0 ≡ at left (i + 1) = left_here ∙ sym (at_next left i) in
            let miss : v ≡ cond (miss_of (i + 1)) 1 0 = ev ∙ as_number (ltb 0 d) ∙ rw (ed, lost_some (eqb p 0) (get_or left' i 0), next, units) in
            record {
              phases = filled_turn phase_of phase i p_more g.phases next;
              lefts = filled_turn left_of left i more g.lefts (eu ∙ rw (next, units, at_next c i));
              drops = filled_turn dropped_of dropped i d_more g.drops (rw (ed, next, units, dropped-here, at_next dropped i));
              number = rw (g.number, miss) (sym (count_next miss_of i));
              small = omega (arith, miss, cond-le (miss_of (i + 1)) 1);
            }
