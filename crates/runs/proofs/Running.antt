-- A run on the arrays of a state that was taken apart is the rules' run.
use Prim.Native.Nat.{ℕ, ◌+◌, ◌-◌, ◌*◌, ◌≤◌}
use mathlib.Core.Path.{◌≡◌, refl, sym, ap, ◌∙◌, subst}
use mathlib.Core.List.{List, [], ◌∷◌, ◌++◌, map, map-id}
use native.Mathlib.Omega.{arith}
use lib.Dec.{T}
use lib.ListN.{length, take, drop, replicate, length-take, length-map, length-append, length-replicate}
use lib.Seq.{length-take-le, take_at}
use Rattle.laws.proofs.Each.{length-each}
use Rattle.rules.specs.Limits.{tasks_max}
use Rattle.rules.specs.Rows as Rules
use Rattle.rules.specs.Tables as RuleTables
use Rattle.rules.specs.Forms.{well_formed}
use Rattle.rules.specs.States as States
use Rattle.rules.specs.Runs.{after, slot_lines}
use Rattle.priority_laws.proofs.Priority.{order-length}
use Rattle.slot_laws.proofs.After.{after_table, after-ranks}
use Rattle.slot_laws.proofs.Forms.{Kept}
use Rattle.slot_laws.proofs.Books.{after_kept}
use Rattle.engine.specs.Step.{units_of, periods_of, phases_in}
use Rattle.tables.specs.Views as Tables
use Rattle.machine.specs.Views.{tasks, task_number, core_number, units, packed, view, pack}
use Rattle.machine.specs.declared.state.State.{State}
use Rattle.machine.specs.declared.formed.Formed.{Formed}
use Rattle.machine.proofs.Viewing.{length-viewed}
use Rattle.machine.proofs.Packing.{pack-view}
use Rattle.machine.proofs.Testing.{padded_of, formed_of, kept, sizes}
use Rattle.runs.specs.declared.parts.Parts.{Parts}
use Rattle.runs.specs.Parts.{plain, parts_of, joined}
use Rattle.runs.specs.Slots.{rows_of, table_of, state_of, frame_length, Runnable, RanSlots}
use Rattle.runs.specs.Answers.{Open, RunFormed}

-- the rows of a table's own columns
rows_back : (rows : List Rules.Row) → rows_of (map (λ r. r.c) rows) (map (λ r. r.t) rows) ≡ rows
unfolding rows_of
rows_back [] = refl
rows_back (r ∷ rs) = ap (λ (l : List Rules.Row). r ∷ l) (rows_back rs)

-- the front of an array that was filled up with zeros
module _ (l : List ℕ) {n : ℕ} (size : length l ≡ n) where
  plain-front : take n (plain l) ≡ l
  unfolding packed
  plain-front = rw (map-id l) (take_at l (replicate (tasks_max - length l) 0) n size)

  plain_size : n ≤ tasks_max → length (plain l) ≡ tasks_max
  unfolding packed
  plain_size few = rw (map-id l) (length-append l (replicate (tasks_max - length l) 0) ∙ omega (arith, length-replicate {A = ℕ} (tasks_max - length l) 0))

-- an array of plain numbers: how long its front is, and what it is
pub record Column (n : ℕ) (a l : List ℕ) : Type 0 where
  pub count : n ≡ length (take n a)
  pub front : take n a ≡ l

column : {n : ℕ} {a : List ℕ} (l : List ℕ) → n ≤ tasks_max → length l ≡ n → a ≡ plain l → Column n a l
column {n} {a} l few size e =
    let long : n ≤ length a = rw e (omega (arith, plain_size l size few)) in
    record { count = sym (length-take-le n a long); front = rw e (plain-front l size) }

-- all of them
pub record Columns (n : ℕ) (p : Parts) (st : States.State) : Type 0 where
  pub c : Column n p.c (units_of st.table)
  pub t : Column n p.t (periods_of st.table)
  pub ranks : Column n p.ranks st.ranks
  pub phase : Column n p.phase (phases_in st.table st.clock)
  pub left : Column n p.left st.left
  pub last : Column n p.last st.last
  pub done : Column n p.done st.done
  pub dropped : Column n p.dropped st.dropped

-- the arrays of a state that was taken apart have a place for each task: `run_formed`'s own attribute names these
module _ (f : Formed) {p : Parts} (e : p ≡ parts_of (view f.state.now)) where
  long_array : {a : List ℕ} (l : List ℕ) → length l ≡ RuleTables.size (view f.state.now).table → a ≡ plain l → tasks f.state.now ≤ length a
  long_array l size q = rw q (omega (arith, plain_size l size (kept f).taken.tasks_high, f.few))

  pub long_c : tasks f.state.now ≤ length p.c
  unfolding parts_of
  long_c = long_array _ (length-map (view f.state.now).table.rows _) (ap (λ (x : Parts). x.c) e)

  pub long_t : tasks f.state.now ≤ length p.t
  unfolding parts_of
  long_t = long_array _ (length-map (view f.state.now).table.rows _) (ap (λ (x : Parts). x.t) e)

  pub long_ranks : tasks f.state.now ≤ length p.ranks
  unfolding parts_of
  long_ranks = long_array _ (ap length (kept f).ranked ∙ order-length (view f.state.now).table) (ap (λ (x : Parts). x.ranks) e)

  pub long_phase : tasks f.state.now ≤ length p.phase
  unfolding parts_of phases_in
  long_phase = long_array _ (length-each (RuleTables.size (view f.state.now).table) _) (ap (λ (x : Parts). x.phase) e)

  pub long_left : tasks f.state.now ≤ length p.left
  unfolding parts_of
  long_left = long_array _ (kept f).left_length (ap (λ (x : Parts). x.left) e)

  pub long_last : tasks f.state.now ≤ length p.last
  unfolding parts_of
  long_last = long_array _ (kept f).last_length (ap (λ (x : Parts). x.last) e)

  pub long_done : tasks f.state.now ≤ length p.done
  unfolding parts_of
  long_done = long_array _ (kept f).done_length (ap (λ (x : Parts). x.done) e)

  pub long_dropped : tasks f.state.now ≤ length p.dropped
  unfolding parts_of
  long_dropped = long_array _ (kept f).dropped_length (ap (λ (x : Parts). x.dropped) e)

pub ruleset long_arrays = (length-take, long_c, long_t, long_ranks, long_phase, long_left, long_last, long_done, long_dropped)

module _ (f : Formed) {count : ℕ} {out : List ℕ} (o : Open f.state.now count out) where
  abbrev s : State
  s = f.state.now

  cores_is : (view s).table.m ≡ s.table.m.0
  unfolding view Tables.view
  cores_is = refl

  clock_is : (view s).clock ≡ s.clock.0
  unfolding view
  clock_is = refl

  -- the state at the end
  abbrev end : States.State
  end = after count (view s)

  kept_end : Kept end
  kept_end = after_kept count (kept f)

  size_end : RuleTables.size end.table ≡ tasks s
  size_end = ap RuleTables.size (after_table count (view s)) ∙ sizes f

  -- the struct has its table and its order
  table_end : s.table ≡ Tables.pack end.table
  unfolding pack
  table_end = ap (λ (x : State). x.table) (sym (pack-view s (padded_of f) f.full)) ∙ ap Tables.pack (sym (after_table count (view s)))

  ranks_end : s.ranks ≡ packed task_number end.ranks
  unfolding pack
  ranks_end = ap (λ (x : State). x.ranks) (sym (pack-view s (padded_of f) f.full)) ∙ ap (packed task_number) (sym (after-ranks count (view s)))

  -- the front of an array whose front was a list of the state
  front : {l : List ℕ} (rest l' : List ℕ) → l ≡ l' → length l' ≡ RuleTables.size end.table → take (tasks s) (l ++ rest) ≡ l'
  front {l} rest l' q size = take_at l rest (tasks s) (ap length q ∙ size ∙ size_end) ∙ q

  module _ {p : Parts} (e : p ≡ parts_of (view s)) where
    pub columns : Columns (tasks s) p (view s)
    unfolding parts_of phases_in view
    columns =
        record {
          c = column _ f.few (length-map (view s).table.rows (λ r. r.c) ∙ sizes f) (ap (λ (x : Parts). x.c) e);
          t = column _ f.few (length-map (view s).table.rows (λ r. r.t) ∙ sizes f) (ap (λ (x : Parts). x.t) e);
          ranks = column _ f.few (length-viewed (λ x. x.0) (tasks s) s.ranks (omega (arith, f.few, f.full.ranks))) (ap (λ (x : Parts). x.ranks) e);
          phase = column _ f.few (length-each (RuleTables.size (view s).table) _ ∙ sizes f) (ap (λ (x : Parts). x.phase) e);
          left = column _ f.few ((kept f).left_length ∙ sizes f) (ap (λ (x : Parts). x.left) e);
          last = column _ f.few ((kept f).last_length ∙ sizes f) (ap (λ (x : Parts). x.last) e);
          done = column _ f.few ((kept f).done_length ∙ sizes f) (ap (λ (x : Parts). x.done) e);
          dropped = column _ f.few ((kept f).dropped_length ∙ sizes f) (ap (λ (x : Parts). x.dropped) e);
        }

    -- the arrays' fronts say the state
    abbrev begun : States.State
    begun =
        state_of s.table.m.0 s.clock.0 (take (tasks s) p.c) (take (tasks s) p.t) (take (tasks s) p.ranks) (take (tasks s) p.left) (take (tasks s) p.last)
        (take (tasks s) p.done) (take (tasks s) p.dropped) s.moves s.misses

    table-said : table_of s.table.m.0 (take (tasks s) p.c) (take (tasks s) p.t) ≡ (view s).table
    table-said =
        rw (columns.c.front, columns.t.front)
        (λ j. record { m = sym cores_is j; rows = rows_back (view s).table.rows j })

    begun_is : begun ≡ view s
    unfolding view
    begun_is j =
        record {
          table = table-said j;
          ranks = columns.ranks.front j;
          clock = s.clock.0;
          left = columns.left.front j;
          last = columns.last.front j;
          done = columns.done.front j;
          dropped = columns.dropped.front j;
          moves = s.moves;
          misses = s.misses;
        }

    -- what the slots ask
    pub runnable : Runnable begun count (take (tasks s) p.c) (take (tasks s) p.t) (take (tasks s) p.phase) out
    runnable =
        record {
          formed = subst (λ (x : States.State). T (well_formed x)) (sym begun_is) (formed_of f);
          in_time = o.in_time;
          columns = sym columns.t.count ∙ columns.c.count;
          phases = columns.phase.front ∙ ap (λ (x : RuleTables.Table). phases_in x (view s).clock) (sym table-said) ∙ rw clock_is;
          room = o.room;
        }

    -- what they leave, put together
    module _ {phase' out' left' last' done' dropped' : List ℕ} {moves misses : ℕ}
        (ran : RanSlots begun count out (state_of s.table.m.0 (s.clock.0 + count) (take (tasks s) p.c) (take (tasks s) p.t) (take (tasks s) p.ranks) left' last' done' dropped' moves misses) phase' out') where
      ended : state_of s.table.m.0 (s.clock.0 + count) (take (tasks s) p.c) (take (tasks s) p.t) (take (tasks s) p.ranks) left' last' done' dropped' moves misses ≡ end
      ended = ran.state ∙ ap (after count) begun_is

      joined_is : (left-rest last_rest done-rest dropped-rest : List ℕ)
          → joined s (s.clock.0 + count) (left' ++ left-rest) (last' ++ last_rest) (done' ++ done-rest) (dropped' ++ dropped-rest) moves misses ≡ pack end
      unfolding joined pack
      joined_is left-rest last_rest done-rest dropped-rest j =
          record {
            table = table_end j;
            ranks = ranks_end j;
            clock = record { 0 = (ended j).clock };
            left = packed units (front left-rest end.left (ap (λ (x : States.State). x.left) ended) kept_end.left_length j);
            last = packed core_number (front last_rest end.last (ap (λ (x : States.State). x.last) ended) kept_end.last_length j);
            done = packed units (front done-rest end.done (ap (λ (x : States.State). x.done) ended) kept_end.done_length j);
            dropped = packed units (front dropped-rest end.dropped (ap (λ (x : States.State). x.dropped) ended) kept_end.dropped_length j);
            moves = (ended j).moves;
            misses = (ended j).misses;
          }

      lines_are : out' ≡ slot_lines count (view s) ++ drop (count * frame_length s.table.m.0) out
      lines_are = ran.lines ∙ rw begun_is

      pub run-formed : {r : State} (left-rest last_rest done-rest dropped-rest : List ℕ)
          → r ≡ joined s (s.clock.0 + count) (left' ++ left-rest) (last' ++ last_rest) (done' ++ done-rest) (dropped' ++ dropped-rest) moves misses
          → RunFormed s count out r out'
      run-formed a b c d e' = record { state = e' ∙ joined_is a b c d; lines = lines_are }
