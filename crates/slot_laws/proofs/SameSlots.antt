-- Counts over the slots before a boundary go by the placings of those slots alone.
use Prim.Native.Nat.{ℕ, zero, suc, ◌-◌, ◌≤◌, ◌<◌}
use mathlib.Core.Path.{◌≡◌, refl}
use mathlib.Core.List.{List}
use native.Mathlib.Nat.{le_refl, le_step, le_of_suc-le, le_trans, sub-le}
use Rattle.laws.specs.Lists.{at}
use Rattle.laws.proofs.Each.{count_cong}
use Rattle.rules.specs.Tables.{Table, size, row_of}
use Rattle.rules.specs.Counts.{sum_before, work_of, work_of_all, last_core, moved_to, moves_before, short_at, dropped_by, misses_by, misses_at, moves_at}

-- sums of the same terms
sum_same : (u : ℕ) (f g : ℕ → ℕ) → ((s : ℕ) → s < u → f s ≡ g s) → sum_before u f ≡ sum_before u g
unfolding sum_before
sum_same zero f g h = refl
sum_same (suc u) f g h = rw (sum_same u f g (λ s l. h s (le_step l)), h u (le_refl (suc u)))

-- two runs with the same placings in the slots before b
module _ (run other : ℕ → List ℕ) (b : ℕ) (same : (s : ℕ) → s < b → run s ≡ other s) where
  -- the work of a task, and that of several
  pub work-same : (i u : ℕ) → u ≤ b → work_of run i u ≡ work_of other i u
  unfolding work_of
  work-same i u h = sum_same u _ _ (λ s l. rw (same s (le_trans l h)))

  pub work-all-same : (is : List ℕ) (u : ℕ) → u ≤ b → work_of_all run is u ≡ work_of_all other is u
  unfolding work_of_all
  work-all-same is u h = sum_same u _ _ (λ s l. rw (same s (le_trans l h)))

  -- the core on which a task last ran, and the moves
  pub last-same : (i s : ℕ) → s ≤ b → last_core run i s ≡ last_core other i s
  unfolding last_core
  last-same i zero h = refl
  last-same i (suc s) h = rw (same s h, last-same i s (le_of_suc-le h))

  pub moved_same : (m s : ℕ) → s < b → moves_at m run s ≡ moves_at m other s
  unfolding moved_to
  moved_same m s h = count_cong m _ _ (λ k low high. rw (same s h, last-same (at (other s) k) s (le_of_suc-le h)))

  pub moves-same : (m u : ℕ) → u ≤ b → moves_before m run u ≡ moves_before m other u
  unfolding moves_before
  moves-same m u h = sum_same u _ _ (λ s l. moved_same m s (le_trans l h))

  module _ (tbl : Table) where
    -- what a job was not given by its deadline, the misses and the dropped units
    pub short_same : (i d : ℕ) → d ≤ b → short_at tbl run i d ≡ short_at tbl other i d
    unfolding short_at
    short_same i d h = rw (work-same i d h, work-same i (d - (row_of tbl i).t) (le_trans (sub-le d _) h))

    pub missed-same : (s : ℕ) → s < b
        → misses_at tbl run s
        ≡ misses_at tbl other s
    missed-same s h = count_cong (size tbl) _ _ (λ i low high. rw (short_same i (suc s) h))

    pub misses-same : (u : ℕ) → u ≤ b → misses_by tbl run u ≡ misses_by tbl other u
    unfolding misses_by
    misses-same u h = sum_same u _ _ (λ s l. missed-same s (le_trans l h))

    pub dropped-same : (i u : ℕ) → u ≤ b → dropped_by tbl run i u ≡ dropped_by tbl other i u
    unfolding dropped_by
    dropped-same i u h = sum_same u _ _ (λ s l. rw (short_same i (suc s) (le_trans l h)))
