-- The parts of one slot in their order: what each asks follows from what the slot asks, and together they leave what it says.
use Prim.Native.Nat.{ℕ, zero, suc, ◌+◌, ◌-◌, ◌≤◌, ◌<◌, zero-le}
use mathlib.Core.Path.{◌≡◌, sym, ap, ◌∙◌}
use mathlib.Core.Bool.{cond, ◌&&◌}
use mathlib.Core.Logic.{⊎_elim}
use mathlib.Core.List.{List, ◌++◌}
use native.Mathlib.Nat.{le_trans, not-suc-le-zero, eq-or-lt_of_le}
use native.Mathlib.Decide.{dec_le}
use native.Mathlib.Omega.{arith}
use lib.Dec.{eqb, ltb}
use lib.ListN.{length, get_or, take, get_or-eq_default}
use lib.Seq.{take-append-le}
use Rattle.laws.specs.Lists.{count, numbers, each, at, position}
use Rattle.laws.proofs.Each.{length-each, at_each, each_cong}
use Rattle.laws.proofs.Filling.{at_pred}
use Rattle.laws.proofs.Positions.{StandsAt, position_stands}
use Rattle.laws.proofs.Sorted.{stands_get_or}
use Rattle.rules.specs.Slots.{choose, given, placed, moved}
use Rattle.slot_laws.proofs.Choosing.{Choice, Ranking, choose_choice, choose-pending}
use Rattle.slot_laws.proofs.Placing.{place-holds}
use Rattle.engine.specs.Choice.{Named, Chose}
use Rattle.engine.specs.Ends.{next_phase, Ending, Ended}
use Rattle.engine.specs.Ends.{ending as ends_at}
use Rattle.engine.specs.Placing.{Placing, Placed}
use Rattle.engine.specs.Work.{Working, Worked}
use Rattle.engine.specs.Step.{Stepped, stepped, cores_on, worked_on, effect_on, step_on, Ready}

-- where a number other than 0 stands is a position of the list
at-positive : (l : List ℕ) (i : ℕ) → 1 ≤ at l i → (1 ≤ i) × (i ≤ length l)
at-positive l zero h = absurd (not-suc-le-zero h)
at-positive l (suc i) h =
    (omega arith, elim (dec_le (suc i) (length l)) [ yes within ↦ within | no beyond ↦ absurd (omega (arith, get_or-eq_default l 0 {n = i} (omega arith))) ])

-- no task is numbered 0
named-real : {n : ℕ} {l : List ℕ} → Named n l → count (eqb 0) l ≡ 0
named-real {l = l} named =
    ⊎_elim sym
    (λ (h : 0 < count (eqb 0) l).
    let s : StandsAt 0 l (position 0 l) = position_stands 0 l h in
    absurd (omega (arith, named.from (position 0 l - 1) (omega (arith, s.low, s.high)), at_pred l (position 0 l) s.low, s.here)))
    (eq-or-lt_of_le zero-le)

module _ {m : ℕ} {c t ranks phase left last done dropped : List ℕ} (r : Ready m c t ranks phase left last done dropped) where
  abbrev chosen : List ℕ
  chosen = choose m ranks left

  abbrev cores : List ℕ
  cores = cores_on m ranks last left

  ranking : Ranking ranks
  ranking = record { once = r.once; real = named-real r.named }

  choice : Choice m chosen
  choice = choose_choice m left ranking

  -- a chosen task is a task
  chosen_within : (i : ℕ) → 1 ≤ count (eqb i) chosen → (1 ≤ i) × (i ≤ length left)
  chosen_within i h = at-positive left i (le_trans h (choose-pending m left ranking i))

  -- What each part asks, of what the parts before it leave.

  named-chosen : Named (length last) chosen
  named-chosen =
      rw r.last_size
      (record {
        from = λ j h. (chosen_within (get_or chosen j 0) (stands_get_or chosen j h)).0;
        to = λ j h. (chosen_within (get_or chosen j 0) (stands_get_or chosen j h)).1;
      })

  -- the cores hold no task twice
  cores_once : (i : ℕ) → 1 ≤ i → count (eqb i) cores ≤ 1
  unfolding cores_on
  cores_once i low = omega (arith, place-holds choice last i low, choice.once i)

  -- so whatever a slot may leave, no task holds two cores in it
  pub one_core_a_task : {phase' left' last' done' dropped' cores' : List ℕ} {moves misses : ℕ}
      → stepped phase' left' last' done' dropped' cores' moves misses ≡ step_on m c t ranks phase left last done dropped → (i : ℕ) → 1 ≤ i → count (eqb i) cores' ≤ 1
  unfolding step_on effect_on
  one_core_a_task e i low = rw (ap (λ (s : Stepped). s.cores) e) (cores_once i low)

  working : Working chosen left done
  working =
      record {
        done_size = r.done_size;
        named = rw r.last_size at named-chosen;
        pending = λ i low high. choose-pending m left ranking i;
        fits = λ i low high. omega (arith, choice.once i, r.done_fits i low high);
      }

  -- each chosen task is on one core, and no other task is on any
  given_chosen : (i : ℕ) → 1 ≤ i → count (eqb i) chosen ≡ given cores i
  unfolding cores_on given
  given_chosen i low = sym (place-holds choice last i low)

  worked-size : length (worked_on left cores) ≡ length left
  unfolding worked_on
  worked-size = length-each (length left) _

  worked-small : (i : ℕ) → 1 ≤ i → i ≤ length left → at (worked_on left cores) i ≤ at c i
  unfolding worked_on
  worked-small i low high =
      rw (at_each (length left) (λ j. at left j - given cores j) i low high) (omega (arith, r.lefts i low high))

  ending : Ending c t phase (worked_on left cores) dropped
  ending =
      record {
        few = omega (arith, r.few_tasks, worked-size);
        c_size = r.c_size ∙ sym worked-size;
        t_size = r.t_size ∙ sym worked-size;
        phase_size = r.phase_size ∙ sym worked-size;
        dropped_size = r.dropped_size ∙ sym worked-size;
        phases = λ j h. r.phases (suc j) (omega arith) (omega (arith, worked-size));
        fits = λ j h. omega (arith, r.dropped_fits (suc j) (omega arith) (omega (arith, worked-size)), worked-small (suc j) (omega arith) (omega (arith, worked-size)));
      }

  -- The parts of the code, one after the other.

  -- after the choice
  module _ {lent picked : List ℕ} {k : ℕ} (room : length lent ≡ m) (chose : Chose ranks left lent picked k) (rest : List ℕ) where
    chosen_is : choose (length lent) ranks left ≡ chosen
    chosen_is = rw room

    count_is : k ≡ length chosen
    count_is = chose.number ∙ ap length chosen_is

    picked_is : take k (picked ++ rest) ≡ chosen
    picked_is = take-append-le k picked rest (omega (arith, count_is, choice.few, chose.places, room)) ∙ chose.front ∙ chosen_is

    -- what placing asks
    pub placing : {before : List ℕ} → length before ≡ m → Placing (take k (picked ++ rest)) last before
    placing width =
        rw picked_is
        (record {
          few = omega (arith, choice.few);
          once = choice.once;
          real = choice.real;
          named = named-chosen;
          lasts = λ j h. omega (arith, r.lasts (suc j) (omega arith) (omega (arith, r.last_size)));
          small = omega (arith, r.few_cores);
        })

    -- what the work asks
    pub to-work : Working (take k (picked ++ rest)) left done
    to-work = rw picked_is working

    -- after the placing and the work
    module _ {before last₁ cores₁ left₂ done₁ : List ℕ} {moves : ℕ} (width : length before ≡ m)
        (put : Placed (take k (picked ++ rest)) last before last₁ cores₁ moves) (worked : Worked (take k (picked ++ rest)) left done left₂ done₁) where
      cores_is : cores₁ ≡ cores
      unfolding cores_on
      cores_is = put.placing ∙ rw (width, picked_is)

      lasts_are : last₁ ≡ each (length left) (λ i. cond (placed cores i) (position i cores) (at last i))
      lasts_are = put.seated.lasts ∙ rw (cores_is, r.last_size)

      moves-are : moves ≡ count (moved last cores) (numbers (length left))
      moves-are = put.seated.number ∙ rw (cores_is, r.last_size)

      worked_on_lem : Worked chosen left done left₂ done₁
      worked_on_lem = rw picked_is at worked

      worked_is : left₂ ≡ worked_on left cores
      unfolding worked_on
      worked_is = worked_on_lem.lefts ∙ each_cong (length left) _ _ (λ i low high. ap (λ (d : ℕ). at left i - d) (given_chosen i low))

      dones-are : done₁ ≡ each (length left) (λ i. at done i + given cores i)
      dones-are = worked_on_lem.dones ∙ each_cong (length left) _ _ (λ i low high. ap (λ (d : ℕ). at done i + d) (given_chosen i low))

      -- what the end asks
      pub to_end : Ending c t phase left₂ dropped
      to_end = rw worked_is ending

      -- after the end
      module _ {phase₁ left₃ dropped₁ : List ℕ} {misses : ℕ} (ended : Ended c t phase left₂ dropped phase₁ left₃ dropped₁ misses) where
        ended_on : Ended c t phase (worked_on left cores) dropped phase₁ left₃ dropped₁ misses
        ended_on = rw worked_is at ended

        -- all that the slot leaves
        pub whole : stepped phase₁ left₃ last₁ done₁ dropped₁ cores₁ moves misses ≡ step_on m c t ranks phase left last done dropped
        unfolding step_on effect_on
        whole =
            let size : length (worked_on left cores) ≡ length left = worked-size in
            λ j.
            record {
              phase = (ended_on.phases ∙ ap (λ (n : ℕ). each n (λ i. next_phase (at phase i) (at t i))) size) j;
              left = (ended_on.lefts ∙ ap (λ (n : ℕ). each n (λ i. cond (ends_at phase t i) (at c i) (at (worked_on left cores) i))) size) j;
              last = lasts_are j;
              done = dones-are j;
              dropped = (ended_on.drops ∙ ap (λ (n : ℕ). each n (λ i. at dropped i + cond (ends_at phase t i) (at (worked_on left cores) i) 0)) size) j;
              cores = cores_is j;
              moves = moves-are j;
              misses = (ended_on.number ∙ ap (λ (n : ℕ). count (λ i. ends_at phase t i && ltb 0 (at (worked_on left cores) i)) (numbers n)) size) j;
            }
