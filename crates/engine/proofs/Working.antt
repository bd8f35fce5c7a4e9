-- The work in the loop of `keep`: after j chosen tasks, all is as the work of those alone would leave it.
use Prim.Native.Nat.{ℕ, ◌+◌, ◌-◌, ◌≤◌, ◌<◌}
use mathlib.Core.Path.{◌≡◌, refl, sym, ap, ◌∙◌}
use mathlib.Core.Bool.{cond}
use mathlib.Core.List.{List, [], ◌∷◌, ◌++◌}
use native.Mathlib.Nat.{sub-zero, add-zero}
use native.Mathlib.Numerals.{add-one}
use native.Mathlib.Omega.{arith}
use lib.Dec.{eqb}
use lib.ListN.{length, get_or, take}
use lib.Seq.{take-suc, take_all}
use Rattle.laws.specs.Lists.{count, at}
use Rattle.laws.proofs.Each.{length-each, at_each, each_at, each_cong}
use Rattle.laws.proofs.Filling.{at_pred}
use Rattle.laws.proofs.Positions.{count-append, count-take, hit_same, hit_other}
use Rattle.laws.proofs.Changes.{each_put}
use Rattle.engine.specs.Work.{Waiting, Served, Working, Worked}

module _ (chosen left done : List ℕ) (w : Working chosen left done) where
  abbrev n : ℕ
  n = length left

  abbrev left_of : List ℕ → ℕ → ℕ
  left_of l i = at left i - count (eqb i) l

  abbrev done_of : List ℕ → ℕ → ℕ
  done_of l i = at done i + count (eqb i) l

  pub start : Worked [] left done left done
  start =
      record {
        lefts = sym (each_at n left refl) ∙ each_cong n (at left) (left_of []) (λ i l u. sym (sub-zero (at left i)));
        dones = sym (each_at n done w.done_size) ∙ each_cong n (at done) (done_of []) (λ i l u. sym (add-zero (at done i)));
      }

  module _ {l left' done' : List ℕ} (g : Worked l left done left' done') where
    pub left_size : length left' ≡ length left
    left_size = ap length g.lefts ∙ length-each n _

    pub done_size : length done' ≡ length left
    done_size = ap length g.dones ∙ length-each n _

  module _ {left' done' : List ℕ} {j : ℕ} (g : Worked (take j chosen) left done left' done') where
    -- the next task
    module _ (more : j < length chosen) {task : ℕ} (is : task ≡ get_or chosen j 0) where
      low : 1 ≤ task
      low = omega (arith, is, w.named.from j more)

      high : task ≤ n
      high = omega (arith, is, w.named.to j more)

      next : (i : ℕ) → count (eqb i) (take (j + 1) chosen) ≡ count (eqb i) (take j chosen) + cond (eqb i task) 1 0
      next i =
          ap (λ (k : ℕ). count (eqb i) (take k chosen)) (add-one j)
          ∙ ap (count (eqb i)) (take-suc chosen j 0 more ∙ ap (λ (k : ℕ). take j chosen ++ (k ∷ [])) (sym is))
          ∙ omega (arith, count-append (eqb i) (take j chosen) (task ∷ []))

      one_more : count (eqb task) (take (j + 1) chosen) ≡ count (eqb task) (take j chosen) + 1
      one_more = omega (arith, next task, hit_same {x = task} refl)

      left_here : get_or left' (task - 1) 0 ≡ at left task - count (eqb task) (take j chosen)
      left_here = sym (at_pred left' task low) ∙ ap (λ (l : List ℕ). at l task) g.lefts ∙ at_each n (left_of (take j chosen)) task low high

      done-here : get_or done' (task - 1) 0 ≡ at done task + count (eqb task) (take j chosen)
      done-here = sym (at_pred done' task low) ∙ ap (λ (l : List ℕ). at l task) g.dones ∙ at_each n (done_of (take j chosen)) task low high

      -- it has a unit left, and room for one more done
      pub waiting : Waiting task left' done'
      waiting =
          record {
            low = low;
            high = omega (arith, high, left_size g);
            done_size = done_size g ∙ sym (left_size g);
            one_left = omega (arith, left_here, one_more, count-take (eqb task) (j + 1) chosen, w.pending task low high);
            fits = omega (arith, done-here, one_more, count-take (eqb task) (j + 1) chosen, w.fits task low high);
          }

      pub turn : {left'' done'' : List ℕ} → Served task left' done' left'' done'' → Worked (take (j + 1) chosen) left done left'' done''
      turn h =
          record {
            lefts =
                h.lefts
                ∙ rw (left_here, g.lefts)
                (each_put n task low high (left_of (take j chosen)) (left_of (take (j + 1) chosen)) (omega (arith, one_more)) (λ i l u other. omega (arith, next i, hit_other other)));
            dones =
                h.dones
                ∙ rw (done-here, g.dones)
                (each_put n task low high (done_of (take j chosen)) (done_of (take (j + 1) chosen)) (omega (arith, one_more)) (λ i l u other. omega (arith, next i, hit_other other)));
          }

    -- after the last task
    pub ended : length chosen ≤ j → Worked chosen left done left' done'
    ended h = rw (take_all j chosen h) at g
