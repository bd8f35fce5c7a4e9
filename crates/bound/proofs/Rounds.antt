-- Why a run repeats: every period divides H, so at boundary H no task has left work, as in the fresh state, and the same
-- releases and deadlines fall H slots later.
use Prim.Native.Nat.{ℕ, zero, suc, ◌+◌, ◌*◌, ◌/◌, ◌%◌, ◌≤◌, ◌<◌}
use mathlib.Core.Path.{◌≡◌, refl, sym, ap, ◌∙◌}
use native.Mathlib.Nat.{zero-mod, suc-add, add-mul-mod_self_right, mod-lt, div-add-mod'}
use native.Mathlib.Omega.{arith}
use borrow.Author.Tests.{eq-eqb}
use lib.Dec.{T, eqb}
use lib.ListN.{length}
use Rattle.laws.specs.Lists.{count, at}
use Rattle.laws.proofs.Each.{count_cong, each_cong, ext_at}
use Rattle.rules.specs.Rows.{releases, due}
use Rattle.rules.specs.Tables.{Table, size, row_of, accepts}
use Rattle.rules.specs.Repeat.{repeat_length}
use Rattle.rules.specs.Verdicts.{order}
use Rattle.rules.specs.States.{fresh}
use Rattle.rules.specs.Slots.{release, choose, given, missed, slot}
use Rattle.rules.specs.Runs.{after}
use Rattle.rules.specs.Counts.{sum_before, cores_in}
use Rattle.priority_laws.proofs.Repeat.{repeat_pos, repeat-filled}
use Rattle.slot_laws.proofs.Forms.{accepted, Kept}
use Rattle.slot_laws.proofs.Books.{run-kept}
use Rattle.slot_laws.proofs.Boundaries.{state, ready, worked, table_at, clock-at, next-left, next-misses, shown-misses, cores-chosen}
use Rattle.bound.proofs.SumBefore.{sum-suc, sum_shorter}
use Rattle.bound.proofs.Ranked.{accepted_periods}

module _ (tbl : Table) (t : T (accepts tbl)) where
  abbrev H : ℕ
  H = repeat_length tbl.rows

  module _ (i : ℕ) (low : 1 ≤ i) (high : i ≤ size tbl) where
    -- H slots later the same releases and deadlines fall
    mod_again : (s : ℕ) → (s + H) % (row_of tbl i).t ≡ s % (row_of tbl i).t
    mod_again s =
        let T : ℕ = (row_of tbl i).t in
        ap (λ (z : ℕ). (s + z) % T) (sym (repeat-filled tbl (accepted_periods tbl (accepted tbl t)) i low high)) ∙ add-mul-mod_self_right s (H / T) T

    releases_again : (s : ℕ) → releases (row_of tbl i) (s + H) ≡ releases (row_of tbl i) s
    unfolding releases
    releases_again s = rw (mod_again s)

    due_again : (s : ℕ) → due (row_of tbl i) (s + H) ≡ due (row_of tbl i) s
    unfolding due
    due_again s = rw (mod_again s)

    -- where its period divides the boundary, a task has no left work
    left-none : (b : ℕ) → b % (row_of tbl i).t ≡ 0 → at (state tbl b).left i ≡ 0
    unfolding releases
    left-none b e =
        let kept : Kept (state tbl b) = run-kept tbl t b in
        (kept.task i low (rw (table_at tbl b) high)).spent (rw (table_at tbl b, clock-at tbl b) (eq-eqb (b % (row_of tbl i).t) 0 e))

  -- each task has the same left work at boundaries s + H and s
  abbrev SameLeft : ℕ → Type 0
  SameLeft s = (i : ℕ) → 1 ≤ i → i ≤ size tbl → at (state tbl (s + H)).left i ≡ at (state tbl s).left i

  module _ (s : ℕ) (same : SameLeft s) where
    ready_again : ready tbl (s + H) ≡ ready tbl s
    unfolding release
    ready_again = each_cong (size tbl) _ _ (λ i low high. rw (releases_again i low high s, same i low high))

    runs_again : (i : ℕ) → 1 ≤ i → count (eqb i) (cores_in tbl (s + H)) ≡ count (eqb i) (cores_in tbl s)
    runs_again i low = cores-chosen tbl (s + H) i low ∙ rw ready_again (sym (cores-chosen tbl s i low))

    worked_again : worked tbl (s + H) ≡ worked tbl s
    unfolding given
    worked_again = each_cong (size tbl) _ _ (λ i low high. rw (ready_again, runs_again i low))

    misses_again : (slot (state tbl (s + H))).shown.misses ≡ (slot (state tbl s)).shown.misses
    unfolding missed
    misses_again =
        shown-misses tbl (s + H)
        ∙ rw worked_again (count_cong (size tbl) _ _ (λ i low high. rw (← suc-add s H, due_again i low high (suc s))))
        ∙ sym (shown-misses tbl s)

    left-next : SameLeft (suc s)
    left-next i low high =
        rw (suc-add s H)
        (next-left tbl (s + H) i low high ∙ rw (worked_again, ← suc-add s H, due_again i low high (suc s)) (sym (next-left tbl s i low high)))

  left_again : (s : ℕ) → SameLeft s
  left_again zero = λ i low high. left-none i low high (0 + H) (mod_again i low high 0 ∙ zero-mod (row_of tbl i).t) ∙ sym (left-none i low high 0 (zero-mod (row_of tbl i).t))
  left_again (suc s) = left-next s (left_again s)

  left_length : (b : ℕ) → length (state tbl b).left ≡ size tbl
  left_length b = (run-kept tbl t b).left_length ∙ ap size (table_at tbl b)

  module _ (s : ℕ) where
    -- H slots later there is the same left work
    pub same_left : (state tbl (s + H)).left ≡ (state tbl s).left
    same_left =
        ext_at (state tbl (s + H)).left (state tbl s).left (left_length (s + H) ∙ sym (left_length s))
        (λ i low high. left_again s i low (omega (arith, left_length (s + H))))

    -- the same tasks are chosen
    pub same_choice : choose tbl.m (order tbl) (ready tbl (s + H)) ≡ choose tbl.m (order tbl) (ready tbl s)
    same_choice = rw (ready_again s (left_again s))

    -- the same tasks stand on the cores
    pub same-tasks : (i : ℕ) → 1 ≤ i → count (eqb i) (cores_in tbl (s + H)) ≡ count (eqb i) (cores_in tbl s)
    same-tasks = runs_again s (left_again s)

    -- and as many miss
    pub same-misses : (slot (state tbl (s + H))).shown.misses ≡ (slot (state tbl s)).shown.misses
    same-misses = misses_again s (left_again s)

  -- the misses that slot s shows
  abbrev misses_in : ℕ → ℕ
  misses_in s = (slot (state tbl s)).shown.misses

  -- a run's misses are those that its slots show
  misses-are : (b : ℕ) → (state tbl b).misses ≡ sum_before b misses_in
  unfolding after fresh sum_before
  misses-are zero = refl
  misses-are (suc b) = next-misses tbl b ∙ rw (misses-are b)

  -- after any number of rounds of H slots
  rounds : (q r : ℕ) → misses_in (q * H + r) ≡ misses_in r
  rounds zero r = ap misses_in (omega arith)
  rounds (suc q) r =
      let e : suc q * H + r ≡ (q * H + r) + H = omega arith in
      ap misses_in e ∙ same-misses (q * H + r) ∙ rounds q r

  none_in : (state tbl H).misses ≡ 0 → (s : ℕ) → s < H → misses_in s ≡ 0
  none_in none s l = omega (arith, misses-are H, sum_shorter H misses_in (suc s) l, sum-suc s misses_in)

  none_ever : (state tbl H).misses ≡ 0 → (s : ℕ) → misses_in s ≡ 0
  none_ever none s = ap misses_in (sym (div-add-mod' s H)) ∙ rounds (s / H) (s % H) ∙ none_in none (s % H) (mod-lt s (repeat_pos tbl.rows))

  -- where no deadline is missed up to boundary H, none ever is
  pub round_tells : (after H (fresh tbl)).misses ≡ 0 → (b : ℕ) → (after b (fresh tbl)).misses ≡ 0
  unfolding sum_before
  round_tells none zero = misses-are 0
  round_tells none (suc b) = omega (arith, next-misses tbl b, none_ever none b, round_tells none b)
