-- What may be missing, and what is made of it.
use Rattle.std.proofs.Math.Option.{Option, none, some}

-- go on with what is there
abbrev pub then : {A B : Type 0} → Option A → (A → Option B) → Option B
then none f = none
then (some a) f = f a
