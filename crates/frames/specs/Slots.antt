-- What a slot shows, of the numbers that its frame is written from.
use Rattle.std.specs.Prelude.{ℕ, List}
use Rattle.rules.specs.Slots.{Shown}

abbrev pub shown_as : ℕ → List ℕ → ℕ → ℕ → Shown
shown_as s cores moves misses = record { slot = s; cores = cores; moves = moves; misses = misses }
