-- The rows that count of a table struct are the table that it says.
use Prim.Native.Nat.{ℕ, ◌-◌}
use mathlib.Core.Path.{◌≡◌, refl, ap, ◌∙◌}
use mathlib.Core.List.{List, ◌++◌, map, map-append}
use native.Mathlib.Omega.{arith}
use lib.ListN.{length, take, drop, replicate}
use Rattle.laws.proofs.Tails.{drop-replicate}
use Rattle.laws.proofs.Copying.{map-replicate}
use Rattle.rules.specs.Verdicts.{order}
use Rattle.reading_laws.specs.Bounds.{TableInBounds}
use Rattle.priority_laws.proofs.Priority.{order-length}
use Rattle.tables.specs.Views.{view}
use Rattle.tables.proofs.Views.{length-view}
use Rattle.tables.specs.declared.table.Table.{Table}
use Rattle.verdicts.specs.Rows.{table_of}
use Rattle.verdicts.specs.Structs.{number_of, pack_ranks, Sound}

abbrev zeros : List ℕ
zeros = replicate 64 0

module _ (t : Table) where
  -- the rows say the table
  pub says : table_of t.m.0 (take t.n.0 t.rows) ≡ view t
  unfolding view
  says = refl

  -- they are in their bounds
  pub bounds_of : Sound t → TableInBounds (table_of t.m.0 (take t.n.0 t.rows))
  bounds_of sound = rw says sound.bounds

  module _ (long : length t.rows ≡ 64) (sound : Sound t) {part : List ℕ} (e : part ≡ order (table_of t.m.0 (take t.n.0 t.rows))) where
    size : length (order (view t)) ≡ t.n.0
    size = order-length (view t) ∙ length-view t long ∙ omega (arith, sound.few)

    -- the order with zeros behind it is as the answer has it
    pub ranks-packed : map number_of (part ++ drop t.n.0 zeros) ≡ pack_ranks (order (view t))
    unfolding pack_ranks
    ranks-packed =
        let rest : map number_of (drop t.n.0 zeros) ≡ replicate (64 - t.n.0) (number_of 0) =
        ap (map number_of) (drop-replicate {A = ℕ} t.n.0 64 0) ∙ map-replicate number_of (64 - t.n.0) 0
        in
        map-append number_of part (drop t.n.0 zeros) ∙ rw (rest, e, says, size)
