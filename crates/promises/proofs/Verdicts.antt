-- A verdict of 01 is given to admitted tables alone.
use mathlib.Core.Path.{◌≡◌}
use mathlib.Core.Bool.{Bool, true, false, cond}
use native.Mathlib.Omega.{arith}
use lib.Dec.{T}
use Rattle.rules.specs.Tables.{Table}
use Rattle.rules.specs.Verdicts.{verdict_byte, admitted, verdict}
use Rattle.rules.specs.declared.verdict.Verdict.TheVariants.{NotAdmitted, Admitted}

by_byte : (b : Bool) → verdict_byte (cond b Admitted NotAdmitted) ≡ 1 → T b
by_byte true e = tt
by_byte false e = absurd (omega arith)

pub says-admitted : (tbl : Table) → verdict_byte (verdict tbl) ≡ 1 → T (admitted tbl)
unfolding verdict
says-admitted tbl e = by_byte (admitted tbl) e
