-- What the slot machine keeps: the table, its order, the clock, and for each task its left work, last core (0: none),
-- units done and units dropped; and the totals of moves and misses.
use Rattle.std.specs.Prelude.{ℕ, List, replicate}
use Rattle.rules.specs.Tables.{Table, size}
use Rattle.rules.specs.Verdicts.{order}

pub record State : Type 0 where
  pub table : Table
  pub ranks : List ℕ
  pub clock : ℕ
  pub left : List ℕ
  pub last : List ℕ
  pub done : List ℕ
  pub dropped : List ℕ
  pub moves : ℕ
  pub misses : ℕ

-- clock 0, no last core and every count 0, with a given order
abbrev pub fresh_with : Table → List ℕ → State
fresh_with tbl ranks =
    record {
      table = tbl;
      ranks = ranks;
      clock = 0;
      left = replicate (size tbl) 0;
      last = replicate (size tbl) 0;
      done = replicate (size tbl) 0;
      dropped = replicate (size tbl) 0;
      moves = 0;
      misses = 0;
    }

-- and with the defined one
unfoldable pub fresh : Table → State
fresh tbl = fresh_with tbl (order tbl)
