-- What the end of a slot asks and gives: misses, dropped work, and the phases and the released jobs of the next slot.
use Rattle.std.specs.Prelude.{ℕ, ◌+◌, ◌^◌, ◌≤◌, ◌<◌, ◌≡◌, Bool, cond, ◌&&◌, List, eqb, ltb, length, get_or}
use Rattle.laws.specs.Lists.{count, numbers, each, at}

-- one slot later a task's phase is one more, and 0 again after its period
abbrev pub next_phase : ℕ → ℕ → ℕ
next_phase p t = cond (eqb (p + 1) t) 0 (p + 1)

-- the task's deadline falls on the slot's end
abbrev pub ending : List ℕ → List ℕ → ℕ → Bool
ending phase t i = eqb (next_phase (at phase i) (at t i)) 0

pub record Ending (c t phase left dropped : List ℕ) : Type 0 where
  pub few : length left ≤ 64
  pub c_size : length c ≡ length left
  pub t_size : length t ≡ length left
  pub phase_size : length phase ≡ length left
  pub dropped_size : length dropped ≡ length left
  pub phases : (j : ℕ) → j < length left → get_or phase j 0 < get_or t j 0
  pub fits : (j : ℕ) → j < length left → get_or dropped j 0 + get_or left j 0 < 2 ^ 32

pub record Ended (c t phase left dropped phase' left' dropped' : List ℕ) (misses : ℕ) : Type 0 where
  pub phases : phase' ≡ each (length left) (λ i. next_phase (at phase i) (at t i))
  pub lefts : left' ≡ each (length left) (λ i. cond (ending phase t i) (at c i) (at left i))
  pub drops : dropped' ≡ each (length left) (λ i. at dropped i + cond (ending phase t i) (at left i) 0)
  pub number : misses ≡ count (λ i. ending phase t i && ltb 0 (at left i)) (numbers (length left))
