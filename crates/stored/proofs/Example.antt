-- The bytes of one state, computed by the definitions, and that they read back.
use Prim.Native.Nat.{ℕ}
use mathlib.Core.Path.{◌≡◌, refl, sym, ap, ◌∙◌}
use mathlib.Core.List.{List, [], ◌∷◌}
use Rattle.rules.specs.Refusals.{taken}
use Rattle.rules.specs.Rows.{releases, demand, releases_before, released}
use Rattle.rules.specs.Repeat.{lcm, repeat_length}
use Rattle.rules.specs.Tables.{header_tests, row_tests, whole_tests, list_tests, accepts}
use Rattle.rules.specs.Verdicts.{fraction, heavy_at, heavy, light, insert, by_period, order}
use Rattle.rules.specs.States.{State}
use Rattle.rules.specs.Forms.{sized, task_formed, well_formed}
use Rattle.stored.specs.Layout.{bytes_of, written, store, load}
use Rattle.stored.proofs.Round.{stored_loads}

-- one task with C = 515 and T = 1,029 on two cores
abbrev example : State
example =
    record {
      table = record { m = 2; rows = record { c = 0x0203; t = 0x0405 } ∷ [] };
      ranks = 1 ∷ [];
      clock = 0x010203;
      left = 0x64 ∷ [];
      last = 2 ∷ [];
      done = 0x80e8 ∷ [];
      dropped = 0x0177 ∷ [];
      moves = 0x0201;
      misses = 0x0102;
    }

abbrev bytes : List ℕ
bytes =
    2 ∷ 1
    ∷ 0 ∷ 1 ∷ 2 ∷ 3
    ∷ 0 ∷ 0 ∷ 0 ∷ 0 ∷ 0 ∷ 0 ∷ 2 ∷ 1
    ∷ 0 ∷ 0 ∷ 0 ∷ 0 ∷ 0 ∷ 0 ∷ 1 ∷ 2
    ∷ 0 ∷ 0 ∷ 2 ∷ 3
    ∷ 0 ∷ 0 ∷ 4 ∷ 5
    ∷ 1 ∷ 2
    ∷ 0 ∷ 0 ∷ 0 ∷ 0 ∷ 0 ∷ 0 ∷ 0 ∷ 0x64
    ∷ 0 ∷ 0 ∷ 0 ∷ 0 ∷ 0 ∷ 0 ∷ 0x80 ∷ 0xe8
    ∷ 0 ∷ 0 ∷ 0 ∷ 0 ∷ 0 ∷ 0 ∷ 0x01 ∷ 0x77
    ∷ []

pub example_stored : store example ≡ bytes
unfolding store written bytes_of
example_stored = refl

pub example_loaded : load bytes ≡ taken example
unfolding releases demand releases_before released lcm repeat_length header_tests row_tests whole_tests list_tests accepts fraction heavy_at heavy light insert by_period order sized task_formed well_formed
example_loaded = ap load (sym example_stored) ∙ stored_loads example tt
