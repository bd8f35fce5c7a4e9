-- A state taken apart into arrays of plain numbers, and put together again.
use Rattle.std.specs.Prelude.{ℕ, List, take}
use Rattle.rules.specs.States as States
use Rattle.machine.specs.Views.{tasks, core_number, units, packed}
use Rattle.machine.specs.declared.state.State.{State}
use Rattle.engine.specs.Step.{units_of, periods_of, phases_in}
use Rattle.runs.specs.declared.parts.Parts.{Parts}

-- numbers, and zeros up to 64
abbrev pub plain : List ℕ → List ℕ
plain l = packed (λ v. v) l

-- the arrays that say a state
unfoldable pub parts_of : States.State → Parts
parts_of st =
    record {
      c = plain (units_of st.table);
      t = plain (periods_of st.table);
      ranks = plain st.ranks;
      phase = plain (phases_in st.table st.clock);
      left = plain st.left;
      last = plain st.last;
      done = plain st.done;
      dropped = plain st.dropped;
    }

-- a struct with the table and the order of another, and for each task the entries of the arrays
unfoldable pub joined : State → ℕ → List ℕ → List ℕ → List ℕ → List ℕ → ℕ → ℕ → State
joined s clock left last done dropped moves misses =
    record {
      table = s.table;
      ranks = s.ranks;
      clock = record { 0 = clock };
      left = packed units (take (tasks s) left);
      last = packed core_number (take (tasks s) last);
      done = packed units (take (tasks s) done);
      dropped = packed units (take (tasks s) dropped);
      moves = moves;
      misses = misses;
    }
