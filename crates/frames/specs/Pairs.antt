-- Values in fields of two digits each.
use Rattle.std.specs.Prelude.{ℕ, List, length, replicate}
use Rattle.laws.specs.Lists.{from}
use Rattle.rules.specs.Frames.{fields}

unfoldable pub pairs : List ℕ → List ℕ
pairs vs = fields (replicate (length vs) 2) vs

-- those of every byte
unfoldable pub names : List ℕ
names = pairs (from 0 256)
