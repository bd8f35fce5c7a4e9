-- The lead: a difference of two numbers, and why they are small.
use Rattle.std.proofs.Common.{Ok, Err}
use Prim.Native.Nat.{ℕ, ◌+◌, ◌-◌, ◌*◌, ◌/◌, ◌^◌, ◌≤◌, ◌<◌}
use mathlib.Core.Path.{◌≡◌, refl, sym, ap, ◌∙◌}
use mathlib.Core.Bool.{true, false}
use mathlib.Core.List.{List, [], ◌∷◌}
use native.Mathlib.Nat.{mul-le-mul, mul-le-mul_left, mul-le-mul_right, div-mul-le_self}
use native.Mathlib.Omega.{arith}
use lib.IntN.{ℤ, pos, ◌-ℤ◌}
use lib.ListN.{get_or}
use Rattle.laws.specs.Lists.{at}
use Rattle.rules.specs.Limits.{tasks_max, period_max, clock_max}
use Rattle.rules.specs.Rows as Rows
use Rattle.rules.specs.Refusals.{Test, test}
use Rattle.rules.specs.Tables.{size, row_of, outside}
use Rattle.rules.specs.States as States
use Rattle.rules.specs.Answers.{ask_lead}
use Rattle.rules.specs.declared.refusal.Refusal.TheVariants.{BadTasks, BadState}
use Rattle.rules.specs.Runs.{lead}
use Rattle.reading_laws.specs.Bounds.{Within, RowInBounds}
use Rattle.reading_laws.proofs.Tests.{number-iff}
use Rattle.tables.specs.Views as Tables
use Rattle.tables.specs.declared.table.Row.{Row}
use Rattle.machine.specs.declared.state.State.{State}
use Rattle.machine.specs.declared.formed.Formed.{Formed}
use Rattle.machine.specs.Views.{tasks, units, view, formed}
use Rattle.machine.specs.Answers.{Small, asked, lead_answer}
use Rattle.machine.proofs.Viewing.{at-viewed, row_of-view}
use Rattle.machine.proofs.Testing.{kept, soon, sizes}
use Rattle.machine.proofs.Asking.{asked_ill, asked_well}

-- ---- what a task was given, times its period

worked-small : (c t clock d : ℕ) → c ≤ t → t ≤ period_max → clock ≤ clock_max → d ≤ c * ((clock + (t - 1)) / t) → d * t < 2 ^ 62
worked-small c t clock d fits high soon h =
    let jobs : (clock + (t - 1)) / t * t ≤ clock + (t - 1) = div-mul-le_self (clock + (t - 1)) t in
    let work : c ≤ 65_535 = omega arith in
    let time : clock + (t - 1) ≤ 1_000_065_534 = omega arith in
    omega (arith, mul-le-mul_right t h, mul-le-mul_left c jobs, mul-le-mul work time)

-- ---- the lead of a task of a struct that is well formed

-- the row of task i, and the units that it was given
abbrev pub row_here : State → ℕ → Row
row_here s i = get_or s.table.rows (i - 1) Tables.zero_row

abbrev pub given_here : State → ℕ → ℕ
given_here s i = (get_or s.done (i - 1) (units 0)).0

module _ (f : Formed) (i : ℕ) (low : 1 ≤ i) (high : i ≤ tasks f.state.now) where
  abbrev s : State
  s = f.state.now

  place : i - 1 + 1 ≡ i
  place = omega arith

  row_here_lem : row_of (view s).table i ≡ Tables.view_row (row_here s i)
  unfolding view
  row_here_lem = ap (row_of (Tables.view s.table)) (sym place) ∙ row_of-view s.table f.full.rows f.few (i - 1) (omega arith)

  done-here : at (view s).done i ≡ given_here s i
  unfolding view
  done-here =
      ap (at (view s).done) (sym place) ∙ at-viewed (λ x. x.0) (tasks s) s.done (omega (arith, f.full.done, f.few)) (units 0) (i - 1) refl (omega arith)

  clock-here : (view s).clock ≡ s.clock.0
  unfolding view
  clock-here = refl

  inside : i ≤ size (view s).table
  inside = omega (arith, sizes f)

  -- no more than what was released
  given_few : given_here s i ≤ (row_here s i).c * ((s.clock.0 + ((row_here s i).t - 1)) / (row_here s i).t)
  unfolding Rows.released Rows.releases_before Rows.demand
  given_few =
      let books = rw (row_here_lem, clock-here, done-here) at ((kept f).task i low inside).books in
      omega arith

  fits : RowInBounds (Tables.view_row (row_here s i))
  fits = rw row_here_lem at ((kept f).taken.row i low inside)

  -- its parts are small
  pub lead-small : Small (given_here s i * (row_here s i).t) (s.clock.0 * (row_here s i).c)
  lead-small =
      let short : (row_here s i).c ≤ 65_535 = omega (arith, fits.fits, fits.period) in
      record {
        left = worked-small (row_here s i).c (row_here s i).t s.clock.0 (given_here s i) fits.fits fits.period (soon f) given_few;
        right = omega (arith, mul-le-mul (soon f) short);
      }

  -- and their difference is the lead
  pub lead_is : lead (view s) i ≡ pos (given_here s i * (row_here s i).t) -ℤ pos (s.clock.0 * (row_here s i).c)
  unfolding lead
  lead_is = rw (row_here_lem, done-here, clock-here)

-- ---- the answer

-- a number that is not outside its bounds is within them
within : (x low high : ℕ) → outside x low high ≡ false → Within low high x
within x low high e = (number-iff low high x).0 (rw e tt)

-- the test of the task, after that of the state
abbrev tests : ℕ → States.State → List Test
tests i st = test (outside i 1 (size st.table)) BadTasks ∷ []

-- the state is not well formed
pub lead_ill : (s : State) (i : ℕ) → formed s ≡ false → Err BadState ≡ lead_answer (asked s (λ st. ask_lead st i))
unfolding ask_lead
lead_ill s i e = ap lead_answer (sym (asked_ill s (tests i) (λ st. lead st i) e))

module _ (f : Formed) {s : State} (same : f.state.now ≡ s) (i : ℕ) where
  -- there is no such task
  pub lead-out : outside i 1 (tasks f.state.now) ≡ true → Err BadTasks ≡ lead_answer (asked s (λ st. ask_lead st i))
  unfolding ask_lead
  lead-out e = rw (← same) (sym (ap lead_answer (asked_well f.state.now (tests i) (λ st. lead st i) f.good) ∙ rw (sizes f, e)))

  -- there is: its place in the arrays, and the parts of its lead, which are small
  module _ (e : outside i 1 (tasks f.state.now) ≡ false) where
    pub lead-place : (1 ≤ i) × (i - 1 < tasks_max)
    lead-place =
        let w = within i 1 (tasks f.state.now) e in
        (w.least, omega (arith, w.least, w.most, f.few))

    module _ {p q : ℕ} (ep : p ≡ (row_here f.state.now i).t) (eq : q ≡ f.state.now.clock.0 * (row_here f.state.now i).c) where
      pub lead_parts : Small (given_here f.state.now i * p) q
      lead_parts =
          let w = within i 1 (tasks f.state.now) e in
          rw (ep, eq) (lead-small f i w.least w.most)

      pub lead_in : (z : ℤ) → z ≡ pos (given_here f.state.now i * p) -ℤ pos q → Ok z ≡ lead_answer (asked s (λ st. ask_lead st i))
      unfolding ask_lead
      lead_in z h =
          let w = within i 1 (tasks f.state.now) e in
          let whole : z ≡ lead (view f.state.now) i = h ∙ rw (ep, eq) (sym (lead_is f i w.least w.most)) in
          ap Ok whole ∙ rw (← same) (sym (ap lead_answer (asked_well f.state.now (tests i) (λ st. lead st i) f.good) ∙ rw (sizes f, e)))
