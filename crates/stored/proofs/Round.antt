-- What is stored reads back as the same state, and what is read stores as the same bytes.
use Prim.Native.Nat.{ℕ, suc, ◌+◌, ◌-◌, ◌*◌, ◌^◌, ◌≤◌, ◌<◌}
use mathlib.Core.Path.{◌≡◌, refl, sym, ap, ap₂, ◌∙◌}
use mathlib.Core.Bool.{Bool, true, false, not}
use mathlib.Core.List.{List, [], ◌∷◌, ◌++◌, map, map-id, map-map}
use native.Mathlib.Nat.{mul-le-mul}
use native.Mathlib.Omega.{arith}
use lib.Dec.{T, eqb, eqb→eq}
use lib.ListN.{length, get_or, take, drop, length-append, length-drop, length-map, get_or-map}
use lib.Seq.{take_all, take-add, drop_at, drop-drop}
use borrow.Author.Tests.{eq-eqb, ne_eqb}
use Rattle.laws.specs.Lists.{join, from, numbers, each, at}
use Rattle.laws.proofs.Tests.{of_T}
use Rattle.laws.proofs.Each.{length_from, at_each, each_cong, each_at, map-from_cong}
use Rattle.laws.proofs.Filling.{at_pred}
use Rattle.laws.proofs.Filters.{map-from-get_or}
use Rattle.rules.specs.Limits.{clock_max}
use Rattle.rules.specs.Rows.{Row, released}
use Rattle.rules.specs.Tables.{size, no_row, row_of}
use Rattle.rules.specs.States.{State}
use Rattle.rules.specs.Forms.{well_formed}
use Rattle.rules.specs.Refusals.{test, passes, taken, refused}
use Rattle.rules.specs.Answers.{state_test}
use Rattle.rules.specs.declared.refusal.Refusal.TheVariants.{BadState}
use Rattle.priority_laws.proofs.Priority.{order-length, task-high}
use Rattle.reading_laws.proofs.Tests.{settle-taken}
use Rattle.reading_laws.specs.Bounds.{RowInBounds}
use Rattle.slot_laws.proofs.Forms.{TaskKept, Kept, formed-kept, formed-clock}
use Rattle.slot_laws.proofs.Releasing.{released-few}
use Rattle.slot_laws.proofs.Books.{kept-priority}
use Rattle.stored.specs.Layout.{written, read_off, fixed_widths, task_widths, place_of, length_of, fixed_of, task_of, record_of, store, fixed_in, task_in, size_in, decoded, load}
use Rattle.stored.proofs.Numbers.{Bytes}
use Rattle.stored.proofs.Fields.{Fit, length-written, read-written, bytes_drop, written_read, length_records, drop_records, join_stretches}

-- ---- the numbers of a well-formed state fit their fields

module _ {st : State} (kept : Kept st) (clock : st.clock ≤ clock_max) where
  fixed_fits : Fit fixed_widths (fixed_of st)
  fixed_fits =
      let moves : st.table.m * st.clock ≤ 32 * clock_max = mul-le-mul kept.taken.cores_high clock in
      (omega (arith, kept.taken), (omega (arith, kept.taken), (omega arith, (omega (arith, kept.moves_few), (omega (arith, kept.misses_few), tt)))))

  module _ (i : ℕ) (low : 1 ≤ i) (high : i ≤ size st.table) where
    released-small : released (row_of st.table i) st.clock < 2 ^ 64
    released-small = omega (arith, released-few kept.taken i low high st.clock clock)

    rank_small : at st.ranks i < 256
    rank_small = rw (at_pred st.ranks i low) (omega (arith, kept.taken, task-high (kept-priority kept) (i - 1) (omega arith)))

    task-fits : Fit task_widths (task_of st i)
    task-fits =
        let row : RowInBounds (row_of st.table i) = kept.taken.row i low high in
        let task : TaskKept st i = kept.task i low high in
        (omega arith, (omega arith, (rank_small, (omega (arith, task.core, kept.taken), (omega (arith, task.fits), (omega (arith, task.books, released-small), (omega (arith, task.books, released-small), tt)))))))

-- ---- a stored state reads back

pub length-store : (st : State) → length (store st) ≡ length_of (size st.table)
unfolding store
length-store st =
    let n : ℕ = size st.table in
    length-append (written fixed_widths (fixed_of st)) (join (map (record_of st) (numbers n)))
    ∙ omega (arith, length-written fixed_widths (fixed_of st) refl, length_records (record_of st) 34 (λ i. length-written task_widths (task_of st i) refl) 1 n)

module _ {st : State} (kept : Kept st) (clock : st.clock ≤ clock_max) where
  abbrev tasks : ℕ
  tasks = size st.table

  fixed_back : fixed_in (store st) ≡ fixed_of st
  unfolding store
  fixed_back = read-written fixed_widths (fixed_of st) (join (map (record_of st) (numbers tasks))) (fixed_fits kept clock)

  size_back : size_in (store st) ≡ tasks
  unfolding size_in
  size_back = ap (λ (l : List ℕ). at l 2) fixed_back

  task_back : (i : ℕ) → 1 ≤ i → i ≤ tasks → task_in (store st) i ≡ task_of st i
  unfolding store
  task_back i low high =
      let fixed : List ℕ = written fixed_widths (fixed_of st) in
      let records : List ℕ = join (map (record_of st) (numbers tasks)) in
      let long : (k : ℕ) → length (record_of st k) ≡ 34 = λ k. length-written task_widths (task_of st k) refl in
      let past : drop (place_of i) (fixed ++ records) ≡ drop (34 * (i - 1)) records =
      sym (drop-drop (34 * (i - 1)) 22 (fixed ++ records)) ∙ ap (drop (34 * (i - 1))) (drop_at fixed records 22 (length-written fixed_widths (fixed_of st) refl))
      in
      let all_of : tasks ≡ i - 1 + suc (tasks - i) = omega arith in
      let here : 1 + (i - 1) ≡ i = omega arith in
      let found : drop (34 * (i - 1)) records ≡ record_of st i ++ join (map (record_of st) (from (suc i) (tasks - i))) =
      ap (λ (k : ℕ). drop (34 * (i - 1)) (join (map (record_of st) (from 1 k)))) all_of
      ∙ drop_records (record_of st) 34 long 1 (i - 1) (tasks - i)
      ∙ ap (λ (k : ℕ). record_of st k ++ join (map (record_of st) (from (suc k) (tasks - i)))) here
      in
      ap (read_off task_widths) (past ∙ found) ∙ read-written task_widths (task_of st i) (join (map (record_of st) (from (suc i) (tasks - i)))) (task-fits kept clock i low high)

  -- a column
  column_back : (f : ℕ → ℕ) (l : List ℕ) → length l ≡ tasks → ((i : ℕ) → 1 ≤ i → i ≤ tasks → f i ≡ at l i) → each (size_in (store st)) f ≡ l
  column_back f l len same = rw size_back (each_cong tasks f (at l) same ∙ each_at tasks l len)

  rows_back : map (λ i. record { c = at (task_in (store st) i) 1; t = at (task_in (store st) i) 2 }) (numbers (size_in (store st))) ≡ st.table.rows
  rows_back =
      rw size_back
      (map-from_cong (λ i. record { c = at (task_in (store st) i) 1; t = at (task_in (store st) i) 2 }) (row_of st.table) 1 tasks (λ i low high.
      ap (λ (l : List ℕ). record { c = at l 1; t = at l 2 }) (task_back i low (omega arith)))
      ∙ map-from-get_or (λ r. r) no_row (no_row ∷ st.table.rows) 1 tasks (omega arith)
      ∙ map-id st.table.rows)

  decoded_back : decoded (store st) ≡ st
  unfolding decoded
  decoded_back =
      λ j.
      record {
        table = record { m = ap (λ (l : List ℕ). at l 1) fixed_back j; rows = rows_back j };
        ranks = column_back (λ i. at (task_in (store st) i) 3) st.ranks (ap length kept.ranked ∙ order-length st.table) (λ i low high. ap (λ (l : List ℕ). at l 3) (task_back i low high)) j;
        clock = ap (λ (l : List ℕ). at l 3) fixed_back j;
        left = column_back (λ i. at (task_in (store st) i) 5) st.left kept.left_length (λ i low high. ap (λ (l : List ℕ). at l 5) (task_back i low high)) j;
        last = column_back (λ i. at (task_in (store st) i) 4) st.last kept.last_length (λ i low high. ap (λ (l : List ℕ). at l 4) (task_back i low high)) j;
        done = column_back (λ i. at (task_in (store st) i) 6) st.done kept.done_length (λ i low high. ap (λ (l : List ℕ). at l 6) (task_back i low high)) j;
        dropped = column_back (λ i. at (task_in (store st) i) 7) st.dropped kept.dropped_length (λ i low high. ap (λ (l : List ℕ). at l 7) (task_back i low high)) j;
        moves = ap (λ (l : List ℕ). at l 4) fixed_back j;
        misses = ap (λ (l : List ℕ). at l 5) fixed_back j;
      }

-- ---- how bytes are read

module _ (bs : List ℕ) where
  -- another length than their own n asks for
  pub other_length : (length bs ≡ length_of (size_in bs) → ⊥) → load bs ≡ refused BadState 0
  unfolding load
  other_length ne = rw (ne_eqb (length bs) (length_of (size_in bs)) ne)

  -- of the right length: as the state that they stand for is well formed or not
  module _ (len : length bs ≡ length_of (size_in bs)) where
    pub not_formed : well_formed (decoded bs) ≡ false → load bs ≡ refused BadState 0
    unfolding load state_test
    not_formed e = rw (eq-eqb (length bs) (length_of (size_in bs)) len, e)

    pub is_formed : well_formed (decoded bs) ≡ true → load bs ≡ taken (decoded bs)
    unfolding load state_test
    is_formed e = rw (eq-eqb (length bs) (length_of (size_in bs)) len, e)

-- what is stored reads back as the same state
pub stored_loads : (st : State) → T (well_formed st) → load (store st) ≡ taken st
stored_loads st good =
    let same : decoded (store st) ≡ st = decoded_back (formed-kept st good) (formed-clock st good) in
    let len : length (store st) ≡ length_of (size_in (store st)) =
    length-store st ∙ ap length_of (sym (size_back (formed-kept st good) (formed-clock st good)))
    in
    is_formed (store st) len (ap well_formed same ∙ of_T (well_formed st) good) ∙ ap taken same

-- ---- what is read stores as the same bytes

-- one number of a row of a list of rows
row_entry : (part : Row → ℕ) → part no_row ≡ 0 → (row : ℕ → Row) (n i : ℕ) → 1 ≤ i → i ≤ n → part (get_or (no_row ∷ map row (numbers n)) i no_row) ≡ part (row i)
row_entry part none row n i low high =
    sym (get_or-map part (no_row ∷ map row (numbers n)) i no_row)
    ∙ ap (λ (z : ℕ). get_or (z ∷ map part (map row (numbers n))) i z) none
    ∙ ap (λ (l : List ℕ). at l i) (map-map part row (numbers n))
    ∙ at_each n (λ k. part (row k)) i low high

module _ (bs : List ℕ) where
  -- the state that bytes stand for has as many tasks as they say
  pub decoded-size : size (decoded bs).table ≡ size_in bs
  unfolding decoded
  decoded-size = length-map (numbers (size_in bs)) _ ∙ length_from 1 (size_in bs)

  fixed_same : fixed_of (decoded bs) ≡ fixed_in bs
  unfolding decoded size_in read_off
  fixed_same = rw decoded-size

  task-same : (i : ℕ) → 1 ≤ i → i ≤ size_in bs → task_of (decoded bs) i ≡ task_in bs i
  unfolding decoded read_off
  task-same i low high =
      let n : ℕ = size_in bs in
      let row : ℕ → Row = λ k. record { c = at (task_in bs k) 1; t = at (task_in bs k) 2 } in
      rw (
        row_entry (λ r. r.c) refl row n i low high,
        row_entry (λ r. r.t) refl row n i low high,
        at_each n (λ k. at (task_in bs k) 3) i low high,
        at_each n (λ k. at (task_in bs k) 4) i low high,
        at_each n (λ k. at (task_in bs k) 5) i low high,
        at_each n (λ k. at (task_in bs k) 6) i low high,
        at_each n (λ k. at (task_in bs k) 7) i low high,
      )

  -- bytes of the right length are what is stored for the state that they stand for
  decoded_stores : Bytes bs → length bs ≡ length_of (size_in bs) → store (decoded bs) ≡ bs
  unfolding store
  decoded_stores small len =
      let n : ℕ = size_in bs in
      let fixed : written fixed_widths (fixed_of (decoded bs)) ≡ take 22 bs =
      ap (written fixed_widths) fixed_same ∙ written_read fixed_widths bs small (omega arith)
      in
      let records : join (map (record_of (decoded bs)) (numbers (size (decoded bs).table))) ≡ take (34 * n) (drop 22 bs) =
      ap (λ (k : ℕ). join (map (record_of (decoded bs)) (numbers k))) decoded-size
      ∙ ap join (map-from_cong (record_of (decoded bs)) (λ i. take 34 (drop (place_of i) bs)) 1 n (λ i low high.
      ap (written task_widths) (task-same i low (omega arith))
      ∙ written_read task_widths (drop (place_of i) bs) (bytes_drop (place_of i) bs small) (omega (arith, length-drop (place_of i) bs))))
      ∙ join_stretches bs 22 34 0 n
      in
      ap₂ ◌++◌ fixed records ∙ sym (take-add 22 (34 * n) bs) ∙ take_all (22 + 34 * n) bs (omega arith)

-- two tests that were passed
both_passed : (a b : Bool) → T (passes (test (not a) BadState ∷ test (not b) BadState ∷ [])) → T a × T b
both_passed true true t = (tt, tt)
both_passed true false t = absurd t
both_passed false b t = absurd t

-- what is read stores as the same bytes, and is well formed
pub loaded_stores : (bs : List ℕ) → Bytes bs → (st : State) → load bs ≡ taken st → (store st ≡ bs) × T (well_formed st)
unfolding load state_test
loaded_stores bs small st e =
    let len : Bool = eqb (length bs) (length_of (size_in bs)) in
    let good : Bool = well_formed (decoded bs) in
    let read : T (passes (test (not len) BadState ∷ test (not good) BadState ∷ [])) × (decoded bs ≡ st) =
    settle-taken (test (not len) BadState ∷ test (not good) BadState ∷ []) (decoded bs) st e
    in
    let both : T len × T good = both_passed len good read.0 in
    rw (← read.1) (decoded_stores bs small (eqb→eq (length bs) (length_of (size_in bs)) both.0), both.1)
