-- A struct put together from the numbers at their places says the state that the bytes stand for; and what is answered for it.
use Prim.Native.Nat.{ℕ, ◌≤◌, ◌<◌}
use mathlib.Core.Path.{◌≡◌, sym, ap, ◌∙◌}
use mathlib.Core.Bool.{true, false}
use mathlib.Core.Logic.{⊎_elim}
use mathlib.Core.List.{List, map}
use native.Mathlib.Omega.{arith}
use lib.ListN.{length, get_or, length-map}
use Rattle.std.specs.Prelude.{Ok, Err}
use Rattle.laws.specs.Lists.{numbers, each}
use Rattle.laws.proofs.Tests.{to_T, decide}
use Rattle.laws.proofs.Each.{length_from, length-each}
use Rattle.rules.specs.Limits.{tasks_max}
use Rattle.rules.specs.Tables.{size}
use Rattle.rules.specs.Forms.{well_formed}
use Rattle.rules.specs.declared.refusal.Refusal.TheVariants.{BadState}
use Rattle.slot_laws.proofs.Forms.{formed-kept}
use Rattle.tables.specs.Views as Tables
use Rattle.machine.specs.Full.{Sized}
use Rattle.machine.specs.Views.{task_number, core_number, units, packed, pack, formed}
use Rattle.machine.specs.declared.state.State.{State}
use Rattle.machine.proofs.Packed.{formed-pack}
use Rattle.stored.specs.Layout.{place_of, length_of, size_in, decoded, load}
use Rattle.stored.specs.Places.{number_at, row_at, cell}
use Rattle.stored.specs.Answers.{state_answer}
use Rattle.stored.proofs.Round.{decoded-size, other_length, not_formed, is_formed}
use Rattle.stored.proofs.Cells.{cells, decoded_cells, size_byte}

-- each number of a struct is the one at its place
pub record Placed (bs : List ℕ) (n : ℕ) (s : State) : Type 0 where
  pub m : s.table.m.0 ≡ number_at bs 0 1
  pub n_is : s.table.n.0 ≡ n
  pub rows : s.table.rows ≡ Tables.pack_rows (map (λ i. row_at bs (place_of i)) (numbers n))
  pub ranks : s.ranks ≡ packed task_number (each n (cell bs 30 1))
  pub clock : s.clock.0 ≡ number_at bs 2 4
  pub left : s.left ≡ packed units (each n (cell bs 32 8))
  pub last : s.last ≡ packed core_number (each n (cell bs 31 1))
  pub done : s.done ≡ packed units (each n (cell bs 40 8))
  pub dropped : s.dropped ≡ packed units (each n (cell bs 48 8))
  pub moves : s.moves ≡ number_at bs 6 8
  pub misses : s.misses ≡ number_at bs 14 8

module _ (bs : List ℕ) {n : ℕ} (said : n ≡ size_in bs) where
  pub placed-decoded : {s : State} → Placed bs n s → s ≡ pack (decoded bs)
  unfolding pack Tables.pack
  placed-decoded {s} p =
      let count : s.table.n.0 ≡ size (cells bs n).table = p.n_is ∙ sym (length-map (numbers n) _ ∙ length_from 1 n) in
      let made : s ≡ pack (cells bs n) =
      λ j.
      record {
        table = record { m = record { 0 = p.m j }; n = record { 0 = count j }; rows = p.rows j };
        ranks = p.ranks j;
        clock = record { 0 = p.clock j };
        left = p.left j;
        last = p.last j;
        done = p.done j;
        dropped = p.dropped j;
        moves = p.moves j;
        misses = p.misses j;
      }
      in
      made ∙ ap (λ (k : ℕ). pack (cells bs k)) said ∙ ap pack (sym (decoded_cells bs))

-- the state that bytes stand for has a number for each task
sized : (bs : List ℕ) → Sized (decoded bs)
unfolding decoded
sized bs =
    let n : ℕ = size_in bs in
    let long : (f : ℕ → ℕ) → length (each n f) ≡ size (decoded bs).table = λ f. length-each n f ∙ sym (decoded-size bs) in
    record { ranks = long _; left = long _; last = long _; done = long _; dropped = long _ }

-- ---- the answer

module _ (bs : List ℕ) where
  -- too short for the fixed part
  pub too_short : length bs < 22 → Err BadState ≡ state_answer (load bs)
  too_short h = ap state_answer (sym (other_length bs (λ e. omega arith)))

  module _ (fixed : 22 ≤ length bs) (n : ℕ) (said : n ≡ get_or bs 1 0) where
    pub counted : n ≡ size_in bs
    counted = said ∙ size_byte bs (omega arith)

    pub wrong_length : (length bs ≡ length_of (n) → ⊥) → Err BadState ≡ state_answer (load bs)
    wrong_length ne = ap state_answer (sym (other_length bs (λ e. ne (e ∙ ap length_of (sym counted)))))

    module _ (right : length bs ≡ length_of (n)) where
      right-length : length bs ≡ length_of (size_in bs)
      right-length = right ∙ ap length_of counted

      pub too_many : tasks_max < n → Err BadState ≡ state_answer (load bs)
      too_many h =
          ap state_answer
          (sym
          (⊎_elim (λ (e : well_formed (decoded bs) ≡ true). absurd (omega (arith, (formed-kept (decoded bs) (to_T e)).taken.tasks_high, decoded-size bs, counted)))
          (λ (e : well_formed (decoded bs) ≡ false). not_formed bs right-length e)
          (decide (well_formed (decoded bs)))))

      module _ (few : n ≤ tasks_max) where
        tested : formed (pack (decoded bs)) ≡ well_formed (decoded bs)
        tested = formed-pack (decoded bs) (sized bs) (omega (arith, decoded-size bs, counted))

        module _ {s : State} (made : s ≡ pack (decoded bs)) where
          pub ill_formed : formed s ≡ false → Err BadState ≡ state_answer (load bs)
          ill_formed e = ap state_answer (sym (not_formed bs right-length (sym tested ∙ ap formed (sym made) ∙ e)))

          pub well_formed_lem : formed s ≡ true → Ok s ≡ state_answer (load bs)
          well_formed_lem e = rw (is_formed bs right-length (sym tested ∙ ap formed (sym made) ∙ e), made)
