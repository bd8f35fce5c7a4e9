-- Runs one after the other, each from what the last one left, and all their frames.
use Rattle.std.specs.Prelude.{ℕ, ◌+◌, ◌≡◌, List, [], ◌++◌}
use Rattle.rules.specs.Tables.{Table}
use Rattle.rules.specs.States.{fresh}
use Rattle.rules.specs.Runs.{after, slot_lines}
use Rattle.rules.specs.Answers.{lay}
use Rattle.promises.specs.Buffers.{frames_at}
use Rattle.promises.specs.Frames.{Scheduled}

-- Of a call that runs slots: what it starts from, how many slots it runs, the buffer as it was and the place from which on the
-- frames go into it; and what it leaves, the buffer and what the next call starts from.
pub record Way (S C : Type 0) : Type 0 where
  pub from : C → S
  pub slots : C → ℕ
  pub lent : C → List ℕ
  pub place : C → ℕ
  pub buffer : C → List ℕ
  pub to : C → S

-- calls from a start on, what the last one left, and how many slots they ran
pub data Runs {S C : Type 0} (way : Way S C) (start : S) : S → ℕ → Type 0 where
  none : Runs way start start 0
  more : {x : S} {b : ℕ} → Runs way start x b → (c : C) → way.from c ≡ x → Runs way start (way.to c) (b + way.slots c)

module _ {S C : Type 0} {way : Way S C} {start : S} where
  -- their frames on m cores, read back from the buffer of each call
  unfoldable pub frames_of : {end : S} {b : ℕ} → ℕ → Runs way start end b → List (List ℕ)
  frames_of m none = []
  frames_of m (more runs c e) = frames_of m runs ++ frames_at m (way.buffer c) (way.place c) (way.slots c)

  -- each call left the lines of its slots in its buffer, from its place on, and every other byte as it was
  abbrev pub Exactly : {end : S} {b : ℕ} → Table → Runs way start end b → Type 0
  Exactly tbl none = Unit {0}
  Exactly tbl (more {b = b} runs c e) =
      Exactly tbl runs × (way.buffer c ≡ lay (way.lent c) (way.place c) (slot_lines (way.slots c) (after b (fresh tbl))))

-- What runs of a table come to that begin at its fresh state, admitted or not. `Says` tells that something is, or stands for, the
-- state at a boundary of the table's run.
pub record Came {S C : Type 0} {way : Way S C} (Says : ℕ → S → Type 0) (tbl : Table) {start end : S} {b : ℕ} (runs : Runs way start end b) : Type 0 where
  -- the boundary reached is that of the slots run
  pub reached : Says b end
  -- the buffers have the frames of those slots, and else what they had
  pub exactly : Exactly tbl runs
  pub scheduled : Scheduled tbl b (frames_of tbl.m runs)
