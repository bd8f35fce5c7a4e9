-- The loop of `choose`: what was chosen so far, and what is still to come of the ranks, make the whole choice.
use Prim.Native.Nat.{ℕ, suc, ◌+◌, ◌-◌, ◌≤◌, ◌<◌, zero-le}
use mathlib.Core.Path.{◌≡◌, sym, ap, ◌∙◌}
use mathlib.Core.Bool.{Bool, true, false, cond}
use mathlib.Core.List.{List, ◌∷◌, ◌++◌}
use native.Mathlib.Nat.{le_refl, add-zero, sub-zero}
use native.Mathlib.Numerals.{add-one}
use native.Mathlib.Omega.{arith}
use lib.Dec.{ltb}
use lib.ListN.{length, get_or, take, drop, set}
use lib.Seq.{drop-cons, take-set-le}
use mir.Val.{bool_byte}
use Rattle.laws.specs.Lists.{filter, at}
use Rattle.laws.proofs.Filling.{written_next}
use Rattle.rules.specs.Slots.{choose}

-- the task has left work
abbrev pub waits : List ℕ → ℕ → Bool
waits left i = ltb 0 (at left i)

-- the first of n + 1 taken, and the n after it
one_taken : {n n' : ℕ} {l xs : List ℕ} {x : ℕ} → n ≡ suc n' → l ≡ x ∷ xs → take n l ≡ x ∷ take n' xs
one_taken e f = rw (e, f)

-- after r ranks were looked at and k tasks chosen
pub record Going (ranks left before chosen : List ℕ) (k r : ℕ) : Type 0 where
  pub few : k ≤ length before
  pub whole : take k chosen ++ take (length before - k) (filter (waits left) (drop r ranks)) ≡ choose (length before) ranks left

module _ (ranks left before : List ℕ) where
  pub start : Going ranks left before before 0 0
  unfolding choose
  start =
      record {
        few = zero-le;
        whole = ap (λ (n : ℕ). take n (filter (waits left) ranks)) (sub-zero (length before));
      }

  module _ {chosen : List ℕ} {k r : ℕ} (g : Going ranks left before chosen k r) (more : r < length ranks) where
    rest : List ℕ
    rest = filter (waits left) (drop (r + 1) ranks)

    split : filter (waits left) (drop r ranks) ≡ cond (waits left (get_or ranks r 0)) (get_or ranks r 0 ∷ rest) rest
    unfolding rest
    split = ap (filter (waits left)) (drop-cons ranks r 0 more) ∙ rw add-one

    -- the next rank's task is put down, and stays if it has left work
    pub turn : length chosen ≡ length before → k < length before → (w : Bool) → waits left (get_or ranks r 0) ≡ w
        → Going ranks left before (set chosen k (get_or ranks r 0)) (k + bool_byte w) (r + 1)
    unfolding rest
    turn places room true e =
        let i = get_or ranks r 0 in
        let room' : k < length chosen = omega arith in
        let fits : length before - k ≡ suc (length before - (k + 1)) = omega arith in
        record {
          few = omega arith;
          whole =
              written_next chosen k i (take (length before - (k + 1)) rest) room'
              ∙ ap (λ (l : List ℕ). take k chosen ++ l) (sym (one_taken fits (split ∙ rw e)))
              ∙ g.whole;
        }
    turn places room false e =
        let i = get_or ranks r 0 in
        rw add-zero
        (record {
          few = g.few;
          whole =
              rw (take-set-le k chosen k i (le_refl k))
              (ap (λ (l : List ℕ). take k chosen ++ take (length before - k) l) (sym (split ∙ rw e)) ∙ g.whole);
        })
