-- The loop over the slots of a run: after k of them.
use Prim.Native.Nat.{ℕ, zero, suc, ◌+◌, ◌-◌, ◌^◌, ◌≤◌, ◌<◌}
use mathlib.Core.Path.{◌≡◌, refl, sym, ap, ◌∙◌, subst}
use mathlib.Core.List.{List, [], ◌∷◌, ◌++◌, append-nil, append_assoc}
use native.Mathlib.Nat.{mul_comm, mul-le-mul_right}
use native.Mathlib.Numerals.{add-one}
use native.Mathlib.Omega.{arith}
use borrow.Rule.Slice.PartMut.{put_mid}
use lib.ListN.{length, take, drop, replicate, length-append, length-map}
use lib.Seq.{take-nil, take_at, length-take-le}
use Rattle.laws.specs.Lists.{at}
use Rattle.rules.specs.Limits.{cores_max}
use Rattle.laws.proofs.Each.{length-each}
use Rattle.laws.proofs.Positions.{at_zeros}
use Rattle.rules.specs.Tables.{Table, size}
use Rattle.rules.specs.States.{State}
use Rattle.rules.specs.Slots.{Shown, release, effect, slot}
use Rattle.rules.specs.Runs.{after, shows, slot_line, slot_lines}
use Rattle.slot_laws.proofs.After.{after-suc, after_table}
use Rattle.slot_laws.proofs.Forms.{Kept, formed-kept}
use Rattle.slot_laws.proofs.Books.{slot_kept, after_kept}
use Rattle.slot_laws.proofs.Lengths.{length-slot_line, slot_width}
use Rattle.reading_laws.proofs.Laying.{Pieces, no_piece, next_piece, all_pieces}
use Rattle.frames.specs.Slots.{shown_as}
use Rattle.engine.specs.Placing.{Idle}
use Rattle.engine.specs.Step.{Stepped, stepped, released_on, step_on, Ready, units_of, periods_of, phases_in, step_from, lists_of}
use Rattle.engine.proofs.Steps.{release-size, ready, released_on_lem, withheld_on, step_slot}
use Rattle.runs.specs.Slots.{rows_of, table_of, state_of, frame_length, Runnable, RanSlots}

-- ---- the columns of a table

units_of_lem : (m : ℕ) (c t : List ℕ) → length t ≡ length c → units_of (table_of m c t) ≡ c
unfolding rows_of
units_of_lem m [] t e = refl
units_of_lem m (c ∷ cs) [] e = absurd (omega arith)
units_of_lem m (c ∷ cs) (t ∷ ts) e = ap (λ (l : List ℕ). c ∷ l) (units_of_lem m cs ts (omega arith))

periods_of_lem : (m : ℕ) (c t : List ℕ) → length t ≡ length c → periods_of (table_of m c t) ≡ t
unfolding rows_of
periods_of_lem m [] [] e = refl
periods_of_lem m [] (t ∷ ts) e = absurd (omega arith)
periods_of_lem m (c ∷ cs) [] e = absurd (omega arith)
periods_of_lem m (c ∷ cs) (t ∷ ts) e = ap (λ (l : List ℕ). t ∷ l) (periods_of_lem m cs ts (omega arith))

-- no units, for as many tasks as are asked for
abbrev zeros : List ℕ
zeros = replicate 64 0

-- the front of zeros are zeros
pub zeros_front : (k n : ℕ) → Idle (take n (replicate k 0))
zeros_front zero n = rw (take-nil n)
zeros_front (suc k) zero = refl
zeros_front (suc k) (suc n) = ap (λ (l : List ℕ). 0 ∷ l) (zeros_front k n)

none_left : (n i : ℕ) → at (take n zeros) i ≡ 0
none_left n i = ap (λ (l : List ℕ). at l i) (zeros_front 64 n) ∙ at_zeros (length (take n zeros)) i

-- ---- the lines of one slot more

lines-suc : (k : ℕ) (st : State) → slot_lines (suc k) st ≡ slot_lines k st ++ slot_line (slot (after k st)).shown
unfolding slot_lines shows after
lines-suc zero st = append-nil _
lines-suc (suc k) st =
    ap (λ (l : List ℕ). slot_line (slot st).shown ++ l) (lines-suc k (slot st).next)
    ∙ sym (append_assoc (slot_line (slot st).shown) (slot_lines k (slot st).next) (slot_line (slot (after k (slot st).next)).shown))

-- ---- after k slots of a run from a state

pub record Run (st : State) (count : ℕ) (c t out₀ phase left last done dropped out : List ℕ) (moves misses place k : ℕ) : Type 0 where
  pub state : state_of st.table.m (st.clock + k) c t st.ranks (after k st).left last done dropped moves misses ≡ after k st
  pub lefts : left ≡ release st.table (st.clock + k) (after k st).left
  pub phases : phase ≡ phases_in st.table (st.clock + k)
  pub frames : Pieces (λ i. slot_lines i st) (frame_length st.table.m) count out₀ out place k

-- the releases before the first slot
released_now : {m clock count : ℕ} {c t ranks phase left last done dropped out : List ℕ} {moves misses : ℕ}
    → Runnable (state_of m clock c t ranks left last done dropped moves misses) count c t phase out → released_on c phase left ≡ release (table_of m c t) clock left
released_now {m} {c = c} {t} {ranks} {left = left} {last} {done} {dropped} {moves = moves} {misses} r =
    rw r.phases (rw (units_of_lem m c t r.columns) at (released_on_lem (formed-kept _ r.formed)))

-- there is an entry a task in each list
module _ {m clock count : ℕ} {c t ranks phase left last done dropped out : List ℕ} {moves misses : ℕ}
    (r : Runnable (state_of m clock c t ranks left last done dropped moves misses) count c t phase out) where
  pub few_tasks : length left ≤ 64
  few_tasks = omega (arith, (formed-kept _ r.formed).left_length, (formed-kept _ r.formed).taken.tasks_high)

  pub lengths : (length phase ≡ length left) × (length c ≡ length left)
  unfolding phases_in
  lengths =
      let size_is : length left ≡ size (table_of m c t) = (formed-kept _ r.formed).left_length in (
        ap length r.phases ∙ length-each (size (table_of m c t)) _ ∙ sym size_is,
        ap length (sym (units_of_lem m c t r.columns)) ∙ length-map (table_of m c t).rows (λ x. x.c) ∙ sym size_is,
      )

-- the left work before releases, told from that after them
abbrev pub before : List ℕ → List ℕ → List ℕ
before phase left = released_on (take (length left) zeros) phase left

module _ {m clock count : ℕ} {c t ranks phase left last done dropped out : List ℕ} {moves misses : ℕ}
    (r : Runnable (state_of m clock c t ranks left last done dropped moves misses) count c t phase out) {left₁ : List ℕ} (e : left₁ ≡ released_on c phase left) where
  pub told : before phase left₁ ≡ left
  told =
      rw (e, released_now r, r.phases)
      (withheld_on (formed-kept _ r.formed) (take (length (release (table_of m c t) clock left)) zeros) (none_left (length (release (table_of m c t) clock left))))

  pub still : Runnable (state_of m clock c t ranks (before phase left₁) last done dropped moves misses) count c t phase out
  still = rw told r

module _ {st : State} {count : ℕ} {c t phase₀ out₀ : List ℕ} (r : Runnable st count c t phase₀ out₀) where
  kept₀ : Kept st
  kept₀ = formed-kept st r.formed

  pub few_cores : st.table.m ≤ cores_max
  few_cores = kept₀.taken.cores_high

  -- the array of 32 cores has a front for them
  pub cores_front : length (take st.table.m (replicate {A = ℕ} 32 0)) ≡ st.table.m
  cores_front = length-take-le _ _ few_cores

  module _ {phase left last done dropped out : List ℕ} {moves misses place k : ℕ}
      (g : Run st count c t out₀ phase left last done dropped out moves misses place k) where
    abbrev m : ℕ
    m = st.table.m

    abbrev current : State
    current = state_of m (st.clock + k) c t st.ranks (after k st).left last done dropped moves misses

    kept : Kept current
    kept = subst Kept (sym g.state) (after_kept k kept₀)

    table_same : table_of m c t ≡ st.table
    table_same = ap (λ (s : State). s.table) g.state ∙ after_table k st

    phases_now : phase ≡ phases_in (table_of m c t) (st.clock + k)
    phases_now = g.phases ∙ ap (λ (x : Table). phases_in x (st.clock + k)) (sym table_same)

    lefts_now : left ≡ release (table_of m c t) (st.clock + k) (after k st).left
    lefts_now = g.lefts ∙ ap (λ (x : Table). release x (st.clock + k) (after k st).left) (sym table_same)

    -- what the next slot asks
    pub slot-ready : {w : ℕ} → w ≡ m → Ready w c t st.ranks phase left last done dropped
    slot-ready wide =
        rw (wide, phases_now, lefts_now) (rw (units_of_lem m c t r.columns, periods_of_lem m c t r.columns) at (ready kept (omega (arith, r.in_time))))

    -- what it leaves
    slot-left : step_on m c t st.ranks phase left last done dropped ≡ lists_of (slot current)
    unfolding step_from
    slot-left =
        rw (phases_now, lefts_now) (rw (units_of_lem m c t r.columns, periods_of_lem m c t r.columns) at (step_slot kept))

    module _ (more : k < count) {w : ℕ} (wide : w ≡ m) {phase' left' last' done' dropped' cores' : List ℕ} {moved missed : ℕ}
        (e : stepped phase' left' last' done' dropped' cores' moved missed ≡ step_on w c t st.ranks phase left last done dropped) where
      lists : stepped phase' left' last' done' dropped' cores' moved missed ≡ lists_of (slot current)
      lists = e ∙ rw wide slot-left

      next-state : state_of m (st.clock + (k + 1)) c t st.ranks (slot current).next.left last' done' dropped' (moves + moved) (misses + missed) ≡ (slot current).next
      unfolding slot effect lists_of
      next-state j =
          record {
            table = table_of m c t;
            ranks = st.ranks;
            clock = clock-next j;
            left = (slot current).next.left;
            last = (lists j).last;
            done = (lists j).done;
            dropped = (lists j).dropped;
            moves = moves + (lists j).moves;
            misses = misses + (lists j).misses;
          }
        where
          clock-next : st.clock + (k + 1) ≡ suc (st.clock + k)
          clock-next = omega arith

      after_next : (slot current).next ≡ after (k + 1) st
      after_next = ap (λ (s : State). (slot s).next) g.state ∙ sym (after-suc k st) ∙ rw (add-one k)

      state-next : state_of m (st.clock + (k + 1)) c t st.ranks (after (k + 1) st).left last' done' dropped' (moves + moved) (misses + missed) ≡ after (k + 1) st
      state-next =
          ap (λ (s : State). state_of m (st.clock + (k + 1)) c t st.ranks s.left last' done' dropped' (moves + moved) (misses + missed)) (sym after_next)
          ∙ next-state
          ∙ after_next

      lefts-next : left' ≡ release st.table (st.clock + (k + 1)) (after (k + 1) st).left
      unfolding lists_of
      lefts-next =
          ap (λ (x : Stepped). x.left) lists
          ∙ ap (λ (s : State). release s.table s.clock s.left) after_next
          ∙ rw (after_table (k + 1) st, ← ap (λ (s : State). s.clock) state-next)

      shown_now : shown_as (st.clock + k) cores' moved missed ≡ (slot current).shown
      unfolding slot effect lists_of
      shown_now j = record { slot = st.clock + k; cores = (lists j).cores; moves = (lists j).moves; misses = (lists j).misses }

      shown-next : shown_as (st.clock + k) cores' moved missed ≡ (slot (after k st)).shown
      shown-next = shown_now ∙ ap (λ (s : State). (slot s).shown) g.state

      phases-next : phase' ≡ phases_in st.table (st.clock + (k + 1))
      unfolding slot effect lists_of
      phases-next = ap (λ (x : Stepped). x.phase) lists ∙ rw (table_same, ← add-one (st.clock + k)) (ap (phases_in st.table) (omega arith))

      cores_wide : length cores' ≡ m
      cores_wide = ap (λ (x : Shown). length x.cores) shown_now ∙ slot_width current

      -- the placing stands in the front of the array
      pub front-placing : (rest : List ℕ) → take m (cores' ++ rest) ≡ cores'
      front-placing rest = take_at cores' rest m cores_wide

      pub front_long : (rest : List ℕ) → m ≤ length (cores' ++ rest)
      front_long rest = omega (arith, length-append cores' rest, cores_wide)

      kept_next : Kept (state_of m (st.clock + (k + 1)) c t st.ranks (slot current).next.left last' done' dropped' (moves + moved) (misses + missed))
      kept_next = subst Kept (sym next-state) (slot_kept kept)

      -- the totals do not wrap
      pub moves_fit : moves + moved < 2 ^ 64
      moves_fit =
          omega (arith, r.in_time, kept_next.moves_few, mul-le-mul_right {m = m} {n = 32} (st.clock + (k + 1)) kept_next.taken.cores_high)

      pub misses_fit : misses + missed < 2 ^ 64
      misses_fit = omega (arith, r.in_time, kept_next.misses_few)

      pub turn : {tail : List ℕ} {length-of : ℕ} → length-of ≡ frame_length m
          → tail ≡ slot_line (shown_as (st.clock + k) cores' moved missed) ++ drop (frame_length (length cores')) (take (length out - place) (drop place out))
          → Run st count c t out₀ phase' left' last' done' dropped' (put_mid place (length out - place) out tail) (moves + moved) (misses + missed) (place + length-of) (k + 1)
      turn el w =
          let shown : Shown = shown_as (st.clock + k) cores' moved missed in
          let joined = ap (λ (i : ℕ). slot_lines i st) (add-one k) ∙ lines-suc k st ∙ ap (λ (x : Shown). slot_lines k st ++ slot_line x) (sym shown-next) in
          record {
            state = state-next;
            lefts = lefts-next;
            phases = phases-next;
            frames =
                rw el (next_piece g.frames more (slot_line shown) (length-slot_line shown ∙ ap frame_length cores_wide) joined (rw cores_wide at w));
          }

    -- every list keeps its length
    pub left_size : length left ≡ length st.left
    left_size = ap length g.lefts ∙ release-size st.table (st.clock + k) (after k st).left ∙ sym kept₀.left_length

    -- what a release of no units after the last slot asks
    pub last_lengths : (n : ℕ) → n ≡ length st.left → n ≤ 64 → (length phase ≡ length left) × (length (take n zeros) ≡ length left)
    unfolding phases_in
    last_lengths n e few = (
      ap length g.phases ∙ length-each (size st.table) _ ∙ sym kept₀.left_length ∙ sym left_size,
      length-take-le n zeros few ∙ e ∙ sym left_size,
    )

    -- a release of no units after the last slot gives the state's own left work
    left_back : (n : ℕ) {left'' : List ℕ} → left'' ≡ released_on (take n zeros) phase left → left'' ≡ (after k st).left
    left_back n e = e ∙ rw (phases_now, lefts_now) (withheld_on kept (take n zeros) (none_left n))

    -- the last slot was run
    pub ended : count ≤ k → (n : ℕ) {left'' : List ℕ} → left'' ≡ released_on (take n zeros) phase left
        → RanSlots st count out₀ (state_of m (st.clock + count) c t st.ranks left'' last done dropped moves misses) phase out
    ended h n e =
        let all : k ≡ count = omega (arith, g.frames.within) in
        record {
          state = rw all at (ap (λ (l : List ℕ). state_of m (st.clock + k) c t st.ranks l last done dropped moves misses) (left_back n e) ∙ g.state);
          phases = rw all at g.phases;
          lines = all_pieces g.frames h ∙ ap (λ (n : ℕ). slot_lines count st ++ drop n out₀) (mul_comm (frame_length m) count);
        }

-- no slot was run yet
pub start : {m clock count : ℕ} {c t ranks phase left last done dropped : List ℕ} (out : List ℕ) {moves misses : ℕ} → Runnable (state_of m clock c t ranks left last done dropped moves misses) count c t phase out → {left₁ : List ℕ} → left₁ ≡ released_on c phase left
    → Run (state_of m clock c t ranks left last done dropped moves misses) count c t out phase left₁ last done dropped out moves misses 0 0
unfolding after slot_lines shows
start {m} {clock} {count} {c} {t} {ranks} {left = left} {last} {done} {dropped} out {moves} {misses} r e =
    let now : clock + 0 ≡ clock = omega arith in
    record {
      state = ap (λ (s : ℕ). state_of m s c t ranks left last done dropped moves misses) now;
      lefts = e ∙ released_now r ∙ ap (λ (s : ℕ). release (table_of m c t) s left) (sym now);
      phases = r.phases ∙ ap (phases_in (table_of m c t)) (sym now);
      frames = no_piece refl (omega (arith, r.room, mul_comm (frame_length m) count));
    }
