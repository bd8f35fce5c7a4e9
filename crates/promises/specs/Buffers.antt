-- Frames read back from a buffer, each by its shape and its place.
use Rattle.std.specs.Prelude.{ℕ, ◌+◌, ◌*◌, ◌≡◌, List, [], ◌++◌, map, take, drop, get_or}
use Rattle.std.proofs.Math.Option.{Option, none, some}
use Rattle.laws.specs.Lists.{from, at}
use Rattle.rules.specs.Frames as Frames
use Rattle.rules.specs.Frames.{Shape, Read, read_frame}
use Rattle.runs.specs.Slots.{frame_length}

abbrev pub numbers_of : Option (Read (List ℕ)) → List ℕ
numbers_of none = []
numbers_of (some a) = a.got

-- the numbers of the frame that stands at a place; none where no frame of that shape stands there
unfoldable pub numbers_at : Shape → List ℕ → ℕ → List ℕ
numbers_at sh out place = numbers_of (read_frame sh (drop place out))

-- how long frames `11` and `14` are
abbrev pub verdict_length : ℕ
verdict_length = 15

abbrev pub totals_length : ℕ
totals_length = 51

-- where frame j of m cores begins, counted from 0, if the first one begins at a place and each follows right after the last
abbrev pub frame_at : ℕ → ℕ → ℕ → ℕ
frame_at m place j = place + j * frame_length m

-- so many frames `13` from a place on
unfoldable pub frames_at : ℕ → List ℕ → ℕ → ℕ → List (List ℕ)
frames_at m out place count = map (λ j. numbers_at (Frames.slot m) out (frame_at m place j)) (from 0 count)

-- Of the numbers of a frame `13` of m cores: the tasks on cores 1 to m, then the moves and the misses.

abbrev pub tasks_on : ℕ → List ℕ → List ℕ
tasks_on m numbers = take m (drop 1 numbers)

abbrev pub moves_of : ℕ → List ℕ → ℕ
moves_of m numbers = at numbers (m + 2)

abbrev pub misses_of : ℕ → List ℕ → ℕ
misses_of m numbers = at numbers (m + 3)

-- frame s of a list of them, counted from 0, and the placing that it shows
abbrev pub frame_of : List (List ℕ) → ℕ → List ℕ
frame_of frames s = get_or frames s []

abbrev pub placing : ℕ → List (List ℕ) → ℕ → List ℕ
placing m frames s = tasks_on m (frame_of frames s)

-- a text stands in the buffer, from a place on
pub record Holds (out : List ℕ) (place : ℕ) (text : List ℕ) : Type 0 where
  pub rest : List ℕ
  pub here : drop place out ≡ text ++ rest
