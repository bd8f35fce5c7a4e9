-- What admission says of a table, as an inequality.
use Prim.Native.Nat.{◌*◌, ◌≤◌}
use Rattle.rules.specs.Repeat.{repeat_length}
use Rattle.rules.specs.Tables.{Table}
use Rattle.rules.specs.Verdicts.{fraction, scaled_sum}

-- the shares sum to at most m times the fraction
abbrev pub WithinLimit : Table → Type 0
WithinLimit tbl = (fraction tbl.m).den * scaled_sum tbl ≤ tbl.m * (fraction tbl.m).num * repeat_length tbl.rows
