-- A state's bytes laid into a buffer, field by field and record by record.
use Rattle.std.proofs.Common.{Ok, Err}
use Prim.Native.Nat.{ℕ, ◌+◌, ◌-◌, ◌*◌, ◌≤◌, ◌<◌}
use mathlib.Core.Path.{◌≡◌, refl, sym, ap, ◌∙◌}
use mathlib.Core.Bool.{false}
use mathlib.Core.List.{List, [], ◌∷◌, ◌++◌, map}
use native.Mathlib.Omega.{arith}
use borrow.Rule.Slice.PartMut.{mid_of, put_mid}
use lib.ListN.{length, get_or, drop}
use Rattle.laws.specs.Lists.{join, numbers}
use Rattle.laws.proofs.Filling.{numbers_more}
use Rattle.laws.proofs.Joins.{join_last}
use Rattle.rules.specs.Results.{room_reply}
use Rattle.rules.specs.declared.refusal.Refusal.{Refusal}
use Rattle.rules.specs.declared.refusal.Refusal.TheVariants.{BadState}
use Rattle.tables.specs.Views as Tables
use Rattle.tables.specs.Writes.{made, wrote_text}
use Rattle.tables.proofs.Written.{text_short, text-written}
use Rattle.reading_laws.proofs.Laying.{Laid, first, more, laid-front, Pieces, next_piece}
use Rattle.frames.proofs.FieldLoop.{pieces_of, wide}
use Rattle.machine.specs.Views.{tasks, task_number, core_number, units, view, formed}
use Rattle.machine.specs.declared.state.State.{State}
use Rattle.machine.specs.declared.formed.Formed.{Formed}
use Rattle.machine.proofs.Viewing.{at-viewed, row_of-view}
use Rattle.machine.proofs.Asking.{text_ill, text_well}
use Rattle.machine.proofs.Testing.{sizes}
use Rattle.stored.specs.Layout.{bytes_of, written, fixed_widths, task_widths, length_of, fixed_of, task_of, record_of, store}
use Rattle.stored.specs.Answers.{store_state, stored_state}
use Rattle.stored.proofs.Fields.{length-written, length_records}
use Rattle.stored.proofs.Round.{length-store}

-- ---- numbers, one right after the other

written_pieces : (fs : List (ℕ × ℕ)) → pieces_of bytes_of fs ≡ written (map (λ f. f.0) fs) (map (λ f. f.1) fs)
unfolding written
written_pieces [] = refl
written_pieces (f ∷ fs) = ap (λ (l : List ℕ). bytes_of f.0 f.1 ++ l) (written_pieces fs)

pub numbers-laid : (out : List ℕ) (fs : List (ℕ × ℕ)) {now : List ℕ} {end : ℕ} → Laid out (pieces_of bytes_of fs) now end → end ≡ wide fs
    → now ≡ written (map (λ f. f.0) fs) (map (λ f. f.1) fs) ++ drop (wide fs) out
numbers-laid out fs laid there = laid-front out laid (wide fs) there ∙ ap (λ (t : List ℕ). t ++ drop (wide fs) out) (written_pieces fs)

-- ---- the record of a task

-- the numbers of the task at place i of the arrays
abbrev pub entries : State → ℕ → List ℕ
entries s i =
    (get_or s.table.rows i Tables.zero_row).c
    ∷ (get_or s.table.rows i Tables.zero_row).t
    ∷ (get_or s.ranks i (task_number 0)).0
    ∷ (get_or s.last i (core_number 0)).0
    ∷ (get_or s.left i (units 0)).0
    ∷ (get_or s.done i (units 0)).0
    ∷ (get_or s.dropped i (units 0)).0
    ∷ []

pub task-entries : (f : Formed) (i : ℕ) → i < tasks f.state.now → task_of (view f.state.now) (i + 1) ≡ entries f.state.now i
unfolding view
task-entries f i more =
    let s = f.state.now in
    let few = f.few in
    rw (
      row_of-view s.table f.full.rows few i more,
      at-viewed (λ x. x.0) (tasks s) s.ranks (omega (arith, f.full.ranks)) (task_number 0) i refl more,
      at-viewed (λ x. x.0) (tasks s) s.last (omega (arith, f.full.last)) (core_number 0) i refl more,
      at-viewed (λ x. x.0) (tasks s) s.left (omega (arith, f.full.left)) (units 0) i refl more,
      at-viewed (λ x. x.0) (tasks s) s.done (omega (arith, f.full.done)) (units 0) i refl more,
      at-viewed (λ x. x.0) (tasks s) s.dropped (omega (arith, f.full.dropped)) (units 0) i refl more,
    )

-- ---- the records, one right after the other

-- the records of the first tasks
abbrev pub first_records : State → ℕ → List ℕ
first_records s i = join (map (record_of (view s)) (numbers i))

module _ (s : State) where
  -- one record more
  more_records : (i : ℕ) → first_records s (i + 1) ≡ first_records s i ++ record_of (view s) (i + 1)
  more_records i = ap join (numbers_more (record_of (view s)) i) ∙ join_last (map (record_of (view s)) (numbers i)) (record_of (view s) (i + 1))

  pub next_record : {out₀ out : List ℕ} {i : ℕ} → Pieces (first_records s) 34 (tasks s) out₀ out (34 * i) i → i < tasks s → {tail : List ℕ}
      → tail ≡ record_of (view s) (i + 1) ++ drop 34 (mid_of (34 * i) (length out - 34 * i) out)
      → Pieces (first_records s) 34 (tasks s) out₀ (put_mid (34 * i) (length out - 34 * i) out tail) (34 * (i + 1)) (i + 1)
  next_record {i = i} w l e =
      let next : 34 * (i + 1) ≡ 34 * i + 34 = omega arith in
      rw next (next_piece w l (record_of (view s) (i + 1)) (length-written task_widths (task_of (view s) (i + 1)) refl) (more_records i) e)

-- ---- the whole state

module _ (f : Formed) where
  length_stored : length (store (view f.state.now)) ≡ length_of (tasks f.state.now)
  length_stored = length-store (view f.state.now) ∙ ap length_of (sizes f)

  pub fixed_numbers : fixed_of (view f.state.now) ≡ f.state.now.table.m.0 ∷ f.state.now.table.n.0 ∷ f.state.now.clock.0 ∷ f.state.now.moves ∷ f.state.now.misses ∷ []
  unfolding view Tables.view
  fixed_numbers = ap (λ (n : ℕ). f.state.now.table.m.0 ∷ n ∷ f.state.now.clock.0 ∷ f.state.now.moves ∷ f.state.now.misses ∷ []) (sizes f)

  -- the fixed part, and the records right after it
  pub state-written : (out out₁ tail : List ℕ) → length_of (tasks f.state.now) ≤ length out
      → out₁ ≡ written fixed_widths (fixed_of (view f.state.now)) ++ drop 22 out
      → tail ≡ first_records f.state.now (tasks f.state.now) ++ drop (34 * tasks f.state.now) (mid_of 22 (length out₁ - 22) out₁)
      → put_mid 22 (length out₁ - 22) out₁ tail ≡ store (view f.state.now) ++ drop (length_of (tasks f.state.now)) out
  unfolding store
  state-written out out₁ tail room fixed-is rest-is =
      let n : ℕ = tasks f.state.now in
      let fixed : List ℕ = written fixed_widths (fixed_of (view f.state.now)) in
      let rest : List ℕ = first_records f.state.now n in
      let records : length rest ≡ 34 * n = length_records (record_of (view f.state.now)) 34 (λ i. length-written task_widths (task_of (view f.state.now) i) refl) 1 n in
      let one = first out fixed 22 (length-written fixed_widths (fixed_of (view f.state.now)) refl) fixed-is in
      let whole : fixed ++ rest ≡ store (view f.state.now) = ap (λ (k : ℕ). fixed ++ first_records f.state.now k) (sym (sizes f)) in
      laid-front out (more out one rest (34 * n) records (omega arith) rest-is) (length_of n) (omega arith)
      ∙ ap (λ (l : List ℕ). l ++ drop (length_of n) out) whole

-- ---- the answer

-- the state is not well formed
pub store_ill : (s : State) (out : List ℕ) (place : ℕ) → formed s ≡ false → made (Err BadState) out ≡ stored_state s out place
unfolding stored_state store_state
store_ill s out place e = text_ill s store out place (length (store (view s))) e

module _ (f : Formed) {s : State} (same : f.state.now ≡ s) (out : List ℕ) (place : ℕ) where
  -- its bytes are written, where there is room
  bytes_for : wrote_text out place (store (view f.state.now)) ≡ stored_state s out place
  unfolding stored_state store_state
  bytes_for = rw (← same) (text_well f.state.now store out place (length (store (view f.state.now))) refl f.good)

  -- they have no room
  pub store_short : {r : Refusal} → room_reply (length out) place (length_of (tasks s)) ≡ Err r → made (Err r) out ≡ stored_state s out place
  store_short e = text_short out place (store (view f.state.now)) (length_of (tasks s)) (rw (← same) (length_stored f)) e ∙ bytes_for

  -- they have, and were written through the lent tail
  pub store-written : {u : Unit {0}} → room_reply (length out) place (length_of (tasks s)) ≡ Ok u → (tail : List ℕ)
      → tail ≡ store (view f.state.now) ++ drop (length_of (tasks f.state.now)) (mid_of place (length out - place) out)
      → made (Ok (length_of (tasks s))) (put_mid place (length out - place) out tail) ≡ stored_state s out place
  store-written room tail e =
      text-written out place (store (view f.state.now)) (length_of (tasks s)) (rw (← same) (length_stored f)) room tail (rw (← same) e) ∙ bytes_for
