-- Runs one after the other: what each call leaves is where the next one goes on, and all frames together are those of the
-- table's slots.
use Prim.Native.Nat.{ℕ, ◌+◌, ◌≤◌}
use mathlib.Core.Path.{◌≡◌, refl, sym, ap, ap₂, subst, ◌∙◌}
use mathlib.Core.List.{List, ◌++◌, map, map-append}
use native.Mathlib.Omega.{arith}
use lib.Dec.{T}
use lib.ListN.{length}
use Rattle.rules.specs.Limits.{clock_max}
use Rattle.rules.specs.Tables.{Table, accepts}
use Rattle.rules.specs.States.{fresh}
use Rattle.rules.specs.Runs.{after, shows, slot_numbers, slot_lines}
use Rattle.rules.specs.Refusals.{taken}
use Rattle.rules.specs.Forms.{well_formed}
use Rattle.rules.specs.Answers as Rules
use Rattle.rules.specs.Answers.{lay, run_slots}
use Rattle.slot_laws.proofs.After.{after_more, shows_more}
use Rattle.slot_laws.proofs.Books.{run-kept}
use Rattle.slot_laws.proofs.Answers.{taken_ran}
use Rattle.slot_laws.proofs.Boundaries.{table_at, clock-at}
use Rattle.promises.specs.Buffers.{frames_at, Holds}
use Rattle.promises.specs.Runs.{Way, Runs, none, more, frames_of, Exactly, Came}
use Rattle.promises.proofs.Holding.{lay-held, held-frames}

-- what one call does that starts at boundary b
pub record Ran {S C : Type 0} (way : Way S C) (Says : ℕ → S → Type 0) (tbl : Table) (b : ℕ) (c : C) : Type 0 where
  pub next : Says (b + way.slots c) (way.to c)
  pub in_time : b + way.slots c ≤ clock_max
  pub room : way.place c + length (slot_lines (way.slots c) (after b (fresh tbl))) ≤ length (way.lent c)
  pub lines : way.buffer c ≡ lay (way.lent c) (way.place c) (slot_lines (way.slots c) (after b (fresh tbl)))

module _ {S C : Type 0} {way : Way S C} {Says : ℕ → S → Type 0} (tbl : Table) (t : T (accepts tbl)) where
  -- its frames
  call-frames : {b : ℕ} (c : C) → Ran way Says tbl b c → frames_at tbl.m (way.buffer c) (way.place c) (way.slots c) ≡ map slot_numbers (shows (way.slots c) (after b (fresh tbl)))
  call-frames {b} c r =
      let held : Holds (way.buffer c) (way.place c) (slot_lines (way.slots c) (after b (fresh tbl))) =
      subst (λ (l : List ℕ). Holds l (way.place c) (slot_lines (way.slots c) (after b (fresh tbl)))) (sym r.lines) (lay-held (way.lent c) (way.place c) _ r.room)
      in
      ap (λ (x : Table). frames_at x.m (way.buffer c) (way.place c) (way.slots c)) (sym (table_at tbl b))
      ∙ held-frames (way.slots c) (run-kept tbl t b) (omega (arith, clock-at tbl b, r.in_time)) held

  -- what the rules' run gives is what a call does that leaves its lines and says its state
  pub by_rules : (c : C) (b : ℕ) {ran : Rules.Ran} → T (well_formed (after b (fresh tbl)))
      → run_slots (after b (fresh tbl)) (way.slots c) (way.lent c) (way.place c) ≡ taken ran
      → way.buffer c ≡ ran.out
      → (b + way.slots c ≤ clock_max → ran.state ≡ after (b + way.slots c) (fresh tbl) → Says (b + way.slots c) (way.to c))
      → Ran way Says tbl b c
  by_rules c b ok e lines says =
      let w = taken_ran (way.slots c) (way.lent c) (way.place c) (after b (fresh tbl)) ok e in
      let soon : b + way.slots c ≤ clock_max = omega (arith, w.0, clock-at tbl b) in
      record {
        next = says soon (ap (λ (x : Rules.Ran). x.state) w.2 ∙ after_more b (way.slots c) (fresh tbl));
        in_time = soon;
        room = w.1;
        lines = lines ∙ ap (λ (x : Rules.Ran). x.out) w.2;
      }

  module _ (step : (c : C) (b : ℕ) → Says b (way.from c) → Ran way Says tbl b c) {start : S} (begins : Says 0 start) where
    -- the call after what was reached
    goes_on : {x : S} (b : ℕ) → Says b x → (c : C) → way.from c ≡ x → Ran way Says tbl b c
    goes_on b g c e = step c b (subst (Says b) (sym e) g)

    reaches : {end : S} {b : ℕ} → Runs way start end b → Says b end
    reaches none = begins
    reaches (more {b = b} runs c e) = (goes_on b (reaches runs) c e).next

    ran : {x : S} {b : ℕ} → Runs way start x b → (c : C) → way.from c ≡ x → Ran way Says tbl b c
    ran {b = b} runs c e = goes_on b (reaches runs) c e

    exact : {end : S} {b : ℕ} (runs : Runs way start end b) → Exactly tbl runs
    exact none = tt
    exact (more runs c e) = (exact runs, (ran runs c e).lines)

    schedule : {end : S} {b : ℕ} (runs : Runs way start end b) → frames_of tbl.m runs ≡ map slot_numbers (shows b (fresh tbl))
    unfolding frames_of shows
    schedule none = refl
    schedule (more {b = b} runs c e) =
        ap₂ (λ (x y : List (List ℕ)). x ++ y) (schedule runs) (call-frames c (ran runs c e))
        ∙ sym (map-append slot_numbers (shows b (fresh tbl)) (shows (way.slots c) (after b (fresh tbl))))
        ∙ ap (map slot_numbers) (sym (shows_more b (way.slots c) (fresh tbl)))

    pub came : {end : S} {b : ℕ} (runs : Runs way start end b) → Came Says tbl runs
    came runs = record { reached = reaches runs; exactly = exact runs; scheduled = record { are = schedule runs } }
