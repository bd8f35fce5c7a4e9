-- Whoever takes a core remembers it: what the last cores and the moves are after some of the tasks are placed.
use Prim.Native.Nat.{ℕ, suc, ◌+◌, ◌≤◌, ◌<◌}
use mathlib.Core.Path.{◌≡◌, refl, sym, ap, ◌∙◌}
use mathlib.Core.Bool.{true, false, cond, and-false}
use mathlib.Core.Logic.{⊎_elim}
use mathlib.Core.List.{List}
use native.Mathlib.Numerals.{add-one}
use native.Mathlib.Omega.{arith}
use borrow.Author.Tests.{eq-eqb, lt-ltb}
use lib.Dec.{eqb, ltb}
use lib.ListN.{length, get_or, set}
use Rattle.laws.specs.Lists.{count, numbers, at, position}
use Rattle.laws.proofs.Tests.{decide}
use Rattle.laws.proofs.Each.{at_each, each_at, each_cong, count_cong}
use Rattle.laws.proofs.Entries.{count_false}
use Rattle.laws.proofs.Changes.{position-set, position_put, each_put, count_put}
use Rattle.rules.specs.Slots.{placed, moved}
use Rattle.slot_laws.proofs.Placing.{kept_of, kept-position, placed-none}
use Rattle.engine.specs.Placing.{moves_to, Remembered, Seated}

-- a task's last core where the cores hold these tasks
abbrev last_of : List ℕ → List ℕ → ℕ → ℕ
last_of last cs i = cond (placed cs i) (position i cs) (at last i)

-- ---- who keeps its core has it as its last, and does not move

module _ (m : ℕ) (last chosen : List ℕ) where
  same-last : (i : ℕ) → 1 ≤ i → at last i ≡ last_of last (kept_of m last chosen) i
  same-last i low =
      ⊎_elim (λ (e : placed (kept_of m last chosen) i ≡ true). rw e (sym (kept-position m last chosen i low e)))
      (λ (e : placed (kept_of m last chosen) i ≡ false). rw e)
      (decide (placed (kept_of m last chosen) i))

  no_move : (i : ℕ) → 1 ≤ i → moved last (kept_of m last chosen) i ≡ false
  unfolding moved
  no_move i low =
      ⊎_elim
      (λ (e : placed (kept_of m last chosen) i ≡ true). rw (e, eq-eqb _ _ (kept-position m last chosen i low e), and-false))
      (λ (e : placed (kept_of m last chosen) i ≡ false). rw e)
      (decide (placed (kept_of m last chosen) i))

  pub kept-seated : Seated (kept_of m last chosen) last last 0
  kept-seated =
      record {
        lasts = sym (each_at (length last) last refl) ∙ each_cong (length last) (at last) (last_of last (kept_of m last chosen)) (λ i low high. same-last i low);
        number =
            sym (count_cong (length last) (moved last (kept_of m last chosen)) (λ i. false) (λ i low high. no_move i low) ∙ count_false (numbers (length last)));
      }

-- ---- one task more takes a core that is free

module _ {cs last last' : List ℕ} {moves : ℕ} (s : Seated cs last last' moves) where
  module _ (x k : ℕ) (low : 1 ≤ x) (high : x ≤ length last) (none : count (eqb x) cs ≡ 0) where
    last-here : at last' x ≡ at last x
    last-here = ap (λ (l : List ℕ). at l x) s.lasts ∙ at_each (length last) (last_of last cs) x low high ∙ rw (placed-none cs x none)

    moved_before : moved last cs x ≡ false
    unfolding moved
    moved_before = rw (placed-none cs x none)

    module _ (idle : get_or cs k 0 ≡ 0) (inside : k < length cs) where
      now_placed : placed (set cs k x) x ≡ true
      unfolding placed
      now_placed = rw (position_put x cs k none inside) (lt-ltb 0 (suc k) (omega arith))

      moved_now : moved last (set cs k x) x ≡ moves_to (k + 1) (at last x)
      unfolding moved
      moved_now = rw (now_placed, position_put x cs k none inside, add-one k)

      -- nothing changes for any other task
      module _ (i : ℕ) (real : 1 ≤ i) (other : i ≡ x → ⊥) where
        position-same : position i cs ≡ position i (set cs k x)
        position-same = sym (position-set i x cs k (λ e. omega (arith, idle)) other)

        placed_same : placed cs i ≡ placed (set cs k x) i
        unfolding placed
        placed_same = ap (ltb 0) position-same

        last-same : last_of last cs i ≡ last_of last (set cs k x) i
        last-same = rw (placed_same, position-same)

        moved_same : moved last cs i ≡ moved last (set cs k x) i
        unfolding moved
        moved_same = rw (placed_same, position-same)

      pub seat-next : {last'' : List ℕ} {v : ℕ} → Remembered x (k + 1) last' last'' v → Seated (set cs k x) last last'' (moves + v)
      seat-next {v = v} h =
          let move : v ≡ cond (moved last (set cs k x) x) 1 0 = h.number ∙ rw (last-here, moved_now) in
          record {
            lasts =
                h.lasts
                ∙ rw s.lasts
                (each_put (length last) x low high (last_of last cs) (last_of last (set cs k x)) (rw (now_placed, position_put x cs k none inside, add-one k)) (λ i l u other. last-same i l other));
            number =
                rw (move, s.number)
                (sym (count_put (length last) x low high (moved last cs) (moved last (set cs k x)) moved_before (λ i l u other. moved_same i l other)));
          }
