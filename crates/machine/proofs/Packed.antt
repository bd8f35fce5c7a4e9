-- The struct that says a state is well formed where the state is.
use Prim.Native.Nat.{ℕ, ◌-◌, ◌≤◌}
use mathlib.Core.Path.{◌≡◌, ap, ◌∙◌}
use mathlib.Core.Bool.{true}
use mathlib.Core.List.{List}
use native.Mathlib.Omega.{arith}
use lib.Dec.{T}
use lib.ListN.{length, get_or}
use borrow.Author.Tests.{le-leb}
use Rattle.laws.specs.Lists.{all, from}
use Rattle.laws.proofs.Tests.{of_T, to_T}
use Rattle.laws.proofs.Each.{from_all}
use Rattle.laws.proofs.Fronts.{front_past}
use Rattle.rules.specs.Limits.{tasks_max}
use Rattle.rules.specs.Tables.{size}
use Rattle.rules.specs.States as States
use Rattle.rules.specs.Forms.{well_formed}
use Rattle.priority_laws.proofs.Priority.{order-length}
use Rattle.slot_laws.proofs.Forms.{Kept, formed-kept}
use Rattle.tables.specs.Views as Tables
use Rattle.machine.specs.Full.{Sized}
use Rattle.machine.specs.Views.{task_number, core_number, units, packed, pack, blank, padded, formed}
use Rattle.machine.proofs.Packing.{view-pack}

-- past the last number an array has 0
packed_past : {A : Type 0} (make : ℕ → A) (l : List ℕ) (k : ℕ) → length l ≤ k → get_or (packed make l) k (make 0) ≡ make 0
unfolding packed
packed_past make l k h = front_past make (make 0) tasks_max l k h

module _ (st : States.State) (z : Sized st) (few : size st.table ≤ tasks_max) where
  blank_past : (k : ℕ) → size st.table ≤ k → blank (pack st) k ≡ true
  unfolding blank pack Tables.pack Tables.pack_rows
  blank_past k h =
      rw (
        front_past Tables.pack_row Tables.zero_row tasks_max st.table.rows k h,
        packed_past task_number st.ranks k (omega (arith, z.ranks)),
        packed_past units st.left k (omega (arith, z.left)),
        packed_past core_number st.last k (omega (arith, z.last)),
        packed_past units st.done k (omega (arith, z.done)),
        packed_past units st.dropped k (omega (arith, z.dropped)),
      )

  padded-pack : padded (pack st) ≡ true
  unfolding padded pack Tables.pack
  padded-pack =
      let n : ℕ = size st.table in
      let past : T (all (blank (pack st)) (from n (tasks_max - n))) = from_all (blank (pack st)) n (tasks_max - n) (λ k low high. to_T (blank_past k low)) in
      rw (le-leb n tasks_max few, of_T (all (blank (pack st)) (from n (tasks_max - n))) past)

  pub formed-pack : formed (pack st) ≡ well_formed st
  unfolding formed
  formed-pack = rw (padded-pack, view-pack st z)

-- a state that is kept has one entry for each task
pub kept-sized : {st : States.State} → Kept st → Sized st
kept-sized {st} k =
    record {
      ranks = ap length k.ranked ∙ order-length st.table;
      left = k.left_length;
      last = k.last_length;
      done = k.done_length;
      dropped = k.dropped_length;
    }

-- so that the struct of a well-formed state passes the test of the form
pub struct_formed : (st : States.State) → T (well_formed st) → formed (pack st) ≡ true
struct_formed st ok =
    let kept : Kept st = formed-kept st ok in
    formed-pack st (kept-sized kept) kept.taken.tasks_high ∙ of_T (well_formed st) ok
