-- The numbers of refusal, and which of several tests counts: the first, in their order, whose condition holds.
use Rattle.std.specs.Prelude.{ℕ, Bool, cond, not, List, [], ◌∷◌}
use Rattle.std.proofs.Math.Option.{Option, none, some}
use Rattle.laws.specs.Lists.{all}
use Rattle.rules.specs.declared.refusal.Refusal.{Refusal}
use Rattle.rules.specs.declared.refusal.Refusal.TheVariants.{BadLine, BadCores, BadTasks, BadRow, BadRepeat, Trailing, NoRoom, PastClock, BadState}

abbrev pub number_of : Refusal → ℕ
number_of BadLine = 1
number_of BadCores = 2
number_of BadTasks = 3
number_of BadRow = 4
number_of BadRepeat = 5
number_of Trailing = 6
number_of NoRoom = 7
number_of PastClock = 8
number_of BadState = 9

-- a refusal and the condition on which it is given
pub record Test : Type 0 where
  pub holds : Bool
  pub refusal : Refusal

abbrev pub test : Bool → Refusal → Test
test b r = record { holds = b; refusal = r }

-- the first test, in order, whose condition holds
abbrev pub first : List Test → Option Refusal
first [] = none
first (x ∷ xs) = cond x.holds (some x.refusal) (first xs)

-- An answer: taken, with what was asked for, or refused, with the line of the file (0 where no line is meant).
pub data Answer (A : Type 0) : Type 0 where
  taken : A → Answer A
  refused : Refusal → ℕ → Answer A

-- the answer after tests that have no line
abbrev pub answered : {A : Type 0} → Option Refusal → A → Answer A
answered none a = taken a
answered (some r) a = refused r 0

abbrev pub settle : {A : Type 0} → List Test → A → Answer A
settle ts a = answered (first ts) a

-- no test's condition holds
abbrev pub passes : List Test → Bool
passes ts = all (λ x. not x.holds) ts

-- go on with what was taken
abbrev pub and_then : {A B : Type 0} → Answer A → (A → Answer B) → Answer B
and_then (taken a) f = f a
and_then (refused r l) f = refused r l
