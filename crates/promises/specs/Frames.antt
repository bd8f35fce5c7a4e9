-- What the frames of a table's run say, read as numbers: that they are those of its slots, what they add up to, and demand 3.
-- Work, moves, misses and dropped units are counted from the placings that frames show.
use Rattle.std.specs.Prelude.{ℕ, ◌+◌, ◌*◌, ◌≤◌, ◌<◌, ◌≡◌, List, [], ◌∷◌, map, take}
use Rattle.laws.specs.Lists.{sum, each, at}
use Rattle.rules.specs.Repeat.{repeat_length}
use Rattle.rules.specs.Frames as Frames
use Rattle.rules.specs.Tables.{Table, size}
use Rattle.rules.specs.Verdicts.{shares_of, order, lights}
use Rattle.rules.specs.States.{State, fresh}
use Rattle.rules.specs.Runs.{verdict_numbers, shows, slot_numbers}
use Rattle.rules.specs.Counts.{work_of, work_of_all, moves_before, dropped_by, misses_by, misses_at, moves_at}
use Rattle.promises.specs.Buffers.{verdict_length, numbers_at, moves_of, misses_of, frame_of, placing}

-- frames `11` and `12` that stand at a place are those of a table: verdict, number of heavy tasks and H; then the priority order
pub record HeadOf (tbl : Table) (out : List ℕ) (place : ℕ) : Type 0 where
  pub verdict : numbers_at Frames.verdict out place ≡ verdict_numbers tbl
  pub priorities : numbers_at (Frames.order (size tbl)) out (place + verdict_length) ≡ order tbl

-- frames `13` are those of the first b slots of a table's run from the fresh state, in their order
pub record Scheduled (tbl : Table) (b : ℕ) (frames : List (List ℕ)) : Type 0 where
  pub are : frames ≡ map slot_numbers (shows b (fresh tbl))

-- a state's counts are those over the frames, and what each frame says is its own share of them
pub record Counted (tbl : Table) (b : ℕ) (frames : List (List ℕ)) (st : State) : Type 0 where
  pub done : (i : ℕ) → 1 ≤ i → i ≤ size tbl → at st.done i ≡ work_of (placing tbl.m frames) i b
  pub dropped : (i : ℕ) → 1 ≤ i → i ≤ size tbl → at st.dropped i ≡ dropped_by tbl (placing tbl.m frames) i b
  pub moves : st.moves ≡ moves_before tbl.m (placing tbl.m frames) b
  pub misses : st.misses ≡ misses_by tbl (placing tbl.m frames) b
  pub moves_shown : (s : ℕ) → s < b → moves_of tbl.m (frame_of frames s) ≡ moves_at tbl.m (placing tbl.m frames) s
  pub misses_shown : (s : ℕ) → s < b
      → misses_of tbl.m (frame_of frames s)
      ≡ misses_at tbl (placing tbl.m frames) s

-- the totals that frames add up to: moves, misses and dropped units
abbrev pub totals_of : Table → ℕ → List (List ℕ) → List ℕ
totals_of tbl b frames =
    moves_before tbl.m (placing tbl.m frames) b
    ∷ misses_by tbl (placing tbl.m frames) b
    ∷ sum (each (size tbl) (λ i. dropped_by tbl (placing tbl.m frames) i b))
    ∷ []

-- the same where nothing is missed and nothing dropped
abbrev pub lossless_of : Table → ℕ → List (List ℕ) → List ℕ
lossless_of tbl b frames = moves_before tbl.m (placing tbl.m frames) b ∷ 0 ∷ 0 ∷ []

-- demand 3
pub record FramesOnTime (tbl : Table) (b : ℕ) (frames : List (List ℕ)) : Type 0 where
  -- no frame shows a miss, and no job was given less than it asks for by its deadline
  pub none_missed : (s : ℕ) → s < b → misses_of tbl.m (frame_of frames s) ≡ 0
  pub none_dropped : (u i : ℕ) → u ≤ b → 1 ≤ i → i ≤ size tbl → dropped_by tbl (placing tbl.m frames) i u ≡ 0
  -- at every boundary u up to b the first k light tasks in priority order, for every k, were given at least their shares of u
  -- slots: both sides are scaled by H
  pub lights_ahead : (u k : ℕ) → u ≤ b
      → u * shares_of tbl (take k (lights tbl))
      ≤ repeat_length tbl.rows * work_of_all (placing tbl.m frames) (take k (lights tbl)) u
