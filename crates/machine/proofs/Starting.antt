-- The fresh state as a struct.
use Prim.Native.Nat.{ℕ, ◌+◌, ◌-◌, ◌≤◌}
use mathlib.Core.Path.{◌≡◌, sym, ap, ◌∙◌}
use mathlib.Core.List.{List, ◌++◌}
use native.Mathlib.Omega.{arith}
use lib.Dec.{T}
use lib.ListN.{length, replicate, length-replicate, replicate-append-replicate}
use Rattle.rules.specs.Limits.{tasks_max}
use Rattle.rules.specs.Tables as Rules
use Rattle.rules.specs.Tables.{size, accepts}
use Rattle.rules.specs.Verdicts.{order}
use Rattle.rules.specs.States.{fresh}
use Rattle.rules.specs.declared.kinds.TaskNumber.{TaskNumber}
use Rattle.tables.specs.Views as Tables
use Rattle.tables.specs.declared.table.Table.{Table}
use Rattle.tables.proofs.Views.{view-pack, packed-formed}
use Rattle.reading_laws.proofs.Tests.{accepts-iff}
use Rattle.machine.specs.Tables.{Opened}
use Rattle.machine.specs.Views.{task_number, core_number, units, packed, pack}
use Rattle.machine.proofs.Viewing.{size-view}
use Rattle.laws.proofs.Copying.{map-replicate}

-- an array of zeros says zeros
zeros_packed : {A : Type 0} (make : ℕ → A) (n : ℕ) → n ≤ tasks_max → replicate tasks_max (make 0) ≡ packed make (replicate n 0)
unfolding packed
zeros_packed make n few =
    let whole : n + (tasks_max - n) ≡ tasks_max = omega arith in
    let joined : replicate tasks_max (make 0) ≡ replicate n (make 0) ++ replicate (tasks_max - n) (make 0) =
    ap (λ (k : ℕ). replicate k (make 0)) (sym whole) ∙ sym (replicate-append-replicate n (tasks_max - n) (make 0))
    in
    let count : length (replicate {A = ℕ} n 0) ≡ n = length-replicate n 0 in
    joined ∙ rw (map-replicate make n 0, count)

pub fresh-packed : (t : Table) → length t.rows ≡ tasks_max → Opened t → {ranks : List TaskNumber} → ranks ≡ packed task_number (order (Tables.view t))
    → record {
      table = t;
      ranks = ranks;
      clock = record { 0 = 0 };
      left = replicate tasks_max (units 0);
      last = replicate tasks_max (core_number 0);
      done = replicate tasks_max (units 0);
      dropped = replicate tasks_max (units 0);
      moves = 0;
      misses = 0;
    }
    ≡ pack (fresh (Tables.view t))
unfolding pack fresh
fresh-packed t full o e =
    let few : size (Tables.view t) ≤ tasks_max = omega (arith, size-view t full o.sound.few) in
    λ i.
    record {
      table = sym o.formed i;
      ranks = e i;
      clock = record { 0 = 0 };
      left = zeros_packed units (size (Tables.view t)) few i;
      last = zeros_packed core_number (size (Tables.view t)) few i;
      done = zeros_packed units (size (Tables.view t)) few i;
      dropped = zeros_packed units (size (Tables.view t)) few i;
      moves = 0;
      misses = 0;
    }

-- a table that is accepted, as a struct, is one that a run can start with
pub opened : (tbl : Rules.Table) → T (accepts tbl) → Opened (Tables.pack tbl)
unfolding Tables.pack
opened tbl a =
    let bounds = (accepts-iff tbl).0 a in
    record { sound = record { few = bounds.tasks.most; bounds = rw (view-pack tbl) bounds }; formed = packed-formed tbl }
