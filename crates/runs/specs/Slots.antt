-- A run on lists of plain numbers, one entry a task: the state that they say, and what a run asks and leaves.
use Rattle.std.specs.Prelude.{ℕ, ◌+◌, ◌*◌, ◌≤◌, ◌≡◌, List, [], ◌∷◌, ◌++◌, T, length, drop}
use Rattle.rules.specs.Limits.{clock_max}
use Rattle.rules.specs.Rows.{Row}
use Rattle.rules.specs.Tables.{Table}
use Rattle.rules.specs.States.{State}
use Rattle.rules.specs.Forms.{well_formed}
use Rattle.rules.specs.Runs.{after, slot_lines}
use Rattle.engine.specs.Step.{phases_in}

-- the rows of two lists, the executions and the periods
unfoldable pub rows_of : List ℕ → List ℕ → List Row
rows_of [] ts = []
rows_of (c ∷ cs) [] = []
rows_of (c ∷ cs) (t ∷ ts) = record { c = c; t = t } ∷ rows_of cs ts

abbrev pub table_of : ℕ → List ℕ → List ℕ → Table
table_of m cs ts = record { m = m; rows = rows_of cs ts }

-- the state that the lists say
abbrev pub state_of : ℕ → ℕ → List ℕ → List ℕ → List ℕ → List ℕ → List ℕ → List ℕ → List ℕ → ℕ → ℕ → State
state_of m clock c t ranks left last done dropped moves misses =
    record {
      table = table_of m c t;
      ranks = ranks;
      clock = clock;
      left = left;
      last = last;
      done = done;
      dropped = dropped;
      moves = moves;
      misses = misses;
    }

-- how long the frame of a slot of m cores is
abbrev pub frame_length : ℕ → ℕ
frame_length m = 2 * m + 15

-- what a run of a count of slots asks: a well formed state, time and room for all of them
pub record Runnable (st : State) (count : ℕ) (c t phase out : List ℕ) : Type 0 where
  pub formed : T (well_formed st)
  pub in_time : st.clock + count ≤ clock_max
  pub columns : length t ≡ length c
  pub phases : phase ≡ phases_in st.table st.clock
  pub room : count * frame_length st.table.m ≤ length out

-- what a run of a count of slots leaves
pub record RanSlots (st : State) (count : ℕ) (out : List ℕ) (st' : State) (phase' out' : List ℕ) : Type 0 where
  pub state : st' ≡ after count st
  pub phases : phase' ≡ phases_in st.table (st.clock + count)
  pub lines : out' ≡ slot_lines count st ++ drop (count * frame_length st.table.m) out
