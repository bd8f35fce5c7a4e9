-- The struct says the state that it was packed from, and a padded struct is the one that says its state.
use Prim.Native.Nat.{ℕ, ◌-◌, ◌≤◌, ◌<◌}
use mathlib.Core.Path.{◌≡◌, refl, sym, ap, ◌∙◌}
use mathlib.Core.List.{List, map}
use native.Mathlib.Omega.{arith}
use lib.Dec.{T, leb, leb→le, eqb→eq}
use lib.ListN.{length, get_or, take}
use Rattle.laws.specs.Lists.{all, from}
use Rattle.laws.proofs.Tests.{and_left, and_right}
use Rattle.laws.proofs.Each.{all_from}
use Rattle.laws.proofs.Fronts.{front_back, filled_back}
use Rattle.rules.specs.Limits.{tasks_max}
use Rattle.rules.specs.Tables as Rules
use Rattle.rules.specs.States as States
use Rattle.tables.specs.Views as Tables
use Rattle.tables.proofs.Views.{view-pack as table-view-pack}
use Rattle.machine.specs.declared.state.State.{State}
use Rattle.machine.specs.Full.{Full, Sized}
use Rattle.machine.specs.Views.{tasks, task_number, core_number, units, viewed, packed, view, pack, blank, padded}
use Rattle.machine.proofs.Viewing.{size-view}

-- ---- the state that a struct was packed from

module _ {A : Type 0} (make : ℕ → A) (number : A → ℕ) where
  pub viewed-packed : ((v : ℕ) → number (make v) ≡ v) → (l : List ℕ) (n : ℕ) → length l ≡ n → viewed number n (packed make l) ≡ l
  unfolding viewed packed
  viewed-packed h l n e = front_back make number h l _ n e

-- a state whose lists have one entry for each task
pub view-pack : (st : States.State) → Sized st → view (pack st) ≡ st
unfolding view pack Tables.pack
view-pack st z =
    λ i.
    record {
      table = table-view-pack st.table i;
      ranks = viewed-packed task_number (λ x. x.0) (λ v. refl) st.ranks (Rules.size st.table) z.ranks i;
      clock = st.clock;
      left = viewed-packed units (λ x. x.0) (λ v. refl) st.left (Rules.size st.table) z.left i;
      last = viewed-packed core_number (λ x. x.0) (λ v. refl) st.last (Rules.size st.table) z.last i;
      done = viewed-packed units (λ x. x.0) (λ v. refl) st.done (Rules.size st.table) z.done i;
      dropped = viewed-packed units (λ x. x.0) (λ v. refl) st.dropped (Rules.size st.table) z.dropped i;
      moves = st.moves;
      misses = st.misses;
    }

-- ---- the struct that says a state

module _ {A : Type 0} (make : ℕ → A) (number : A → ℕ) (same : (a : A) → make (number a) ≡ a) (n : ℕ) (a : List A) (few : n ≤ tasks_max) (long : length a ≡ tasks_max) where
  packed-viewed : ((k : ℕ) → n ≤ k → k < tasks_max → number (get_or a k (make 0)) ≡ 0) → packed make (viewed number n a) ≡ a
  unfolding viewed packed
  packed-viewed past = filled_back make number same (make 0) n tasks_max a few long (λ k low high. sym (same _) ∙ ap make (past k low high))

-- what stands past the last task is 0 in each array
pub record Blank (s : State) (k : ℕ) : Type 0 where
  pub c : (get_or s.table.rows k Tables.zero_row).c ≡ 0
  pub t : (get_or s.table.rows k Tables.zero_row).t ≡ 0
  pub rank : (get_or s.ranks k (task_number 0)).0 ≡ 0
  pub left : (get_or s.left k (units 0)).0 ≡ 0
  pub last : (get_or s.last k (core_number 0)).0 ≡ 0
  pub done : (get_or s.done k (units 0)).0 ≡ 0
  pub dropped : (get_or s.dropped k (units 0)).0 ≡ 0

blank_is : (s : State) (k : ℕ) → T (blank s k) → Blank s k
unfolding blank
blank_is s k b =
    record {
      c = search (and_left, and_right, eqb→eq) depth 9;
      t = search (and_left, and_right, eqb→eq) depth 9;
      rank = search (and_left, and_right, eqb→eq) depth 9;
      left = search (and_left, and_right, eqb→eq) depth 9;
      last = search (and_left, and_right, eqb→eq) depth 9;
      done = search (and_left, and_right, eqb→eq) depth 9;
      dropped = search (and_left, and_right, eqb→eq) depth 9;
    }

module _ (s : State) (p : T (padded s)) where
  pub padded-few : tasks s ≤ tasks_max
  unfolding padded
  padded-few = search (and_left, leb→le)

  pub padded_past : (k : ℕ) → tasks s ≤ k → k < tasks_max → Blank s k
  unfolding padded
  padded_past k low high =
      blank_is s k
      (all_from (blank s) (tasks s) (tasks_max - tasks s)
      (and_right (leb (tasks s) tasks_max) (all (blank s) (from (tasks s) (tasks_max - tasks s))) p)
      k
      low
      (omega (arith, padded-few)))

  rows-kept : length s.table.rows ≡ tasks_max → Tables.pack_rows (map Tables.view_row (take (tasks s) s.table.rows)) ≡ s.table.rows
  unfolding Tables.pack_rows
  rows-kept long =
      filled_back Tables.pack_row Tables.view_row (λ r. refl) Tables.zero_row (tasks s) tasks_max s.table.rows padded-few long (λ k low high.
      λ i. record { c = (padded_past k low high).c i; t = (padded_past k low high).t i })

  table-pack-view : length s.table.rows ≡ tasks_max → Tables.pack (Tables.view s.table) ≡ s.table
  unfolding Tables.pack Tables.view
  table-pack-view long =
      λ i. record { m = s.table.m; n = record { 0 = size-view s.table long padded-few i }; rows = rows-kept long i }

  -- a padded struct
  pub pack-view : Full s → pack (view s) ≡ s
  unfolding view pack
  pack-view f =
      λ i.
      record {
        table = table-pack-view f.rows i;
        ranks = packed-viewed task_number (λ x. x.0) (λ x. refl) (tasks s) s.ranks padded-few f.ranks (λ k low high. (padded_past k low high).rank) i;
        clock = s.clock;
        left = packed-viewed units (λ x. x.0) (λ x. refl) (tasks s) s.left padded-few f.left (λ k low high. (padded_past k low high).left) i;
        last = packed-viewed core_number (λ x. x.0) (λ x. refl) (tasks s) s.last padded-few f.last (λ k low high. (padded_past k low high).last) i;
        done = packed-viewed units (λ x. x.0) (λ x. refl) (tasks s) s.done padded-few f.done (λ k low high. (padded_past k low high).done) i;
        dropped = packed-viewed units (λ x. x.0) (λ x. refl) (tasks s) s.dropped padded-few f.dropped (λ k low high. (padded_past k low high).dropped) i;
        moves = s.moves;
        misses = s.misses;
      }
