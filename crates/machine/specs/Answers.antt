-- What is asked of a struct, and what is answered.
use Rattle.std.specs.Prelude.{ℕ, ◌≡◌, ◌^◌, ◌<◌, false, cond, ℤ, Result, MatchResult}
use Rattle.rules.specs.Refusals.{Answer, refused}
use Rattle.rules.specs.Results.{plain_reply}
use Rattle.rules.specs.States as States
use Rattle.rules.specs.declared.refusal.Refusal.{Refusal}
use Rattle.rules.specs.declared.refusal.Refusal.TheVariants.{BadState}
use Rattle.machine.specs.Views.{view, padded, formed}
use Rattle.machine.specs.declared.formed.Formed.{Formed}
use Rattle.machine.specs.declared.state.State.{State}

-- what the rules answer of the state that a struct says; a struct that is not padded is not well formed
unfoldable pub asked : {A : Type 0} → State → (States.State → Answer A) → Answer A
asked s ask = cond (padded s) (ask (view s)) (refused BadState 0)

-- ---- the test of the form

-- the state where it is well formed, and 9 where it is not
abbrev pub Tested : State → Result Formed Refusal → Type 0
Tested s r = MatchResult r (λ f. f.state.now ≡ s) (λ e. (e ≡ BadState) × (formed s ≡ false))

-- ---- the lead

-- numbers whose difference fits
pub record Small (a b : ℕ) : Type 0 where
  pub left : a < 2 ^ 62
  pub right : b < 2 ^ 62

abbrev pub lead_answer : Answer ℤ → Result ℤ Refusal
lead_answer a = plain_reply (λ z. z) a
