-- The verdict from the repeat length: what each step asks, and that the comparison is the definition's.
use Prim.Native.Nat.{ℕ, ◌*◌}
use mathlib.Core.Path.{◌≡◌}
use mathlib.Core.Bool.{Bool, cond}
use mathlib.Core.List.{map}
use native.Mathlib.Omega.{arith}
use lib.Dec.{leb}
use Rattle.rules.specs.Repeat.{repeat_length}
use Rattle.rules.specs.Verdicts.{fraction, scaled_sum, admitted, verdict}
use Rattle.rules.specs.declared.verdict.Verdict.TheVariants.{NotAdmitted, Admitted}
use Rattle.tables.specs.Views.{view_row}
use Rattle.verdicts.specs.Limit.{Weighed}
use Rattle.verdicts.specs.Rows.{table_of, Sharing}
use Rattle.verdicts.specs.declared.rows.Rows.{Rows}
use Rattle.verdicts.proofs.Lent.{tasks-few}
use Rattle.verdicts.proofs.Summing.{shares, few}

module _ (t : Rows) (h : ℕ) (whole : h ≡ repeat_length (map view_row t.rows.now)) where
  -- the shares may be summed
  pub sharing_of : Sharing h t.rows.now
  sharing_of = record { few = tasks-few t; fine = t.bounds.fine; bounded = omega (arith, whole, t.bounds.repeat) }

  -- their sum may be compared with the limit
  pub weighed_of : Weighed t.m h (shares h t.rows.now)
  weighed_of = record { cores = t.bounds.cores; bounded = sharing_of.bounded; few = few h t.rows.now sharing_of }

  -- the verdict of the sum and the comparison
  pub judged : {s : ℕ} {b v : Bool} → s ≡ shares h t.rows.now → b ≡ leb ((fraction t.m).den * s) (t.m * (fraction t.m).num * h) → b ≡ v
      → cond v Admitted NotAdmitted ≡ verdict (table_of t.m t.rows.now)
  unfolding verdict admitted scaled_sum
  judged es eb ev = rw (← ev, eb, es, whole)
