-- The walks along the tasks that take a state apart and put it together.
use Prim.Native.Nat.{ℕ, ◌+◌, ◌-◌, ◌^◌, ◌%◌, ◌≤◌, ◌<◌, zero-le}
use mathlib.Core.Path.{◌≡◌, refl, sym, ap, ◌∙◌}
use mathlib.Core.List.{List, ◌∷◌, ◌++◌, map, map-map, map-id}
use native.Mathlib.Omega.{arith}
use lib.ListN.{length, get_or, take, drop, set, replicate, length-map}
use lib.Seq.{length-take-le}
use Rattle.laws.specs.Lists.{at}
use Rattle.laws.proofs.Filters.{map-from-get_or}
use Rattle.laws.proofs.Tails.{drop-replicate}
use Rattle.laws.proofs.Copying.{copied, copied_turn}
use Rattle.rules.specs.Limits.{tasks_max}
use Rattle.rules.specs.Rows as Rules
use Rattle.rules.specs.Tables as RuleTables
use Rattle.rules.specs.declared.kinds.CoreNumber.{CoreNumber}
use Rattle.rules.specs.declared.kinds.TaskNumber.{TaskNumber}
use Rattle.rules.specs.declared.kinds.Units.{Units}
use Rattle.engine.specs.Step.{phases_in}
use Rattle.engine.proofs.Steps.{released-fits}
use Rattle.tables.specs.Views as Tables
use Rattle.tables.specs.declared.table.Row.{Row}
use Rattle.machine.specs.Full.{Full}
use Rattle.machine.specs.Views.{tasks, task_number, core_number, units, viewed, packed, view}
use Rattle.machine.specs.declared.state.State.{State}
use Rattle.machine.specs.declared.formed.Formed.{Formed}
use Rattle.machine.proofs.Viewing.{at-viewed, row_of-view}
use Rattle.machine.proofs.Testing.{kept, soon, sizes}
use Rattle.runs.specs.Parts.{plain, parts_of, joined}

-- ---- arrays whose first entries were set

-- after i steps of a walk along an array that puts f of each entry into another
pub record Copy {A B : Type 0} (f : A → B) (xs : List A) (before cur : List B) (i : ℕ) : Type 0 where
  pub long : length xs ≡ tasks_max
  pub room : length before ≡ tasks_max
  pub same : cur ≡ copied f xs before i

module _ {A B : Type 0} (f : A → B) {xs : List A} {before : List B} where
  copy_start : length xs ≡ tasks_max → length before ≡ tasks_max → Copy f xs before before 0
  copy_start h k = record { long = h; room = k; same = refl }

  copy_turn : {cur : List B} {i : ℕ} → Copy f xs before cur i → (d : A) (e : B) → i < tasks_max → Copy f xs before (set cur i (f (get_or xs i d))) (i + 1)
  copy_turn {i = i} g d e more =
      record { long = g.long; room = g.room; same = copied_turn f d e xs before i (omega (arith, g.long)) (omega (arith, g.room)) g.same refl }

-- what stands past the entries that were set
module _ {A : Type 0} (make : ℕ → A) where
  packed-set : (n : ℕ) (l : List ℕ) → length l ≡ n → map make l ++ drop n (replicate tasks_max (make 0)) ≡ packed make l
  unfolding packed
  packed-set n l e = ap (λ (x : List A). map make l ++ x) (drop-replicate n tasks_max (make 0) ∙ ap (λ (k : ℕ). replicate (tasks_max - k) (make 0)) (sym e))

-- ---- a well formed struct

module _ (f : Formed) (i : ℕ) (more : i < tasks f.state.now) where
  abbrev s : State
  s = f.state.now

  in_table : i + 1 ≤ RuleTables.size (view s).table
  in_table = omega (arith, sizes f)

  pub period-low : 1 ≤ (get_or s.table.rows i Tables.zero_row).t
  unfolding view
  period-low =
      let fits = rw (row_of-view s.table f.full.rows f.few i more) at ((kept f).taken.row (i + 1) (omega arith) in_table) in
      omega (arith, fits)

  -- a task's left work, units done and units dropped are what was released of it, which is little
  pub units_small : ((get_or s.left i (units 0)).0 < 2 ^ 32) × ((get_or s.done i (units 0)).0 < 2 ^ 32) × ((get_or s.dropped i (units 0)).0 < 2 ^ 32)
  unfolding view
  units_small =
      let column : (l : List Units) → length l ≡ tasks_max → at (viewed (λ (x : Units). x.0) (tasks s) l) (i + 1) ≡ (get_or l i (units 0)).0 =
      λ l long. at-viewed (λ x. x.0) (tasks s) l (omega (arith, f.few)) (units 0) i refl more
      in
      let books = ((kept f).task (i + 1) (omega arith) in_table).books in
      let few = released-fits (kept f) (soon f) (i + 1) (omega arith) in_table in
      let left_is = column s.left f.full.left in
      let done_is = column s.done f.full.done in
      let dropped_is = column s.dropped f.full.dropped in
      (omega (arith, books, few, left_is), omega (arith, books, few, done_is), omega (arith, books, few, dropped_is))

-- ---- taken apart: after i tasks

abbrev zeros : List ℕ
zeros = replicate tasks_max 0

pub record Parting (s : State) (c t ranks phase left last done dropped : List ℕ) (i : ℕ) : Type 0 where
  pub full : Full s
  pub few : tasks s ≤ tasks_max
  pub within : i ≤ tasks s
  pub cs : Copy (λ (r : Row). r.c) s.table.rows zeros c i
  pub ts : Copy (λ (r : Row). r.t) s.table.rows zeros t i
  pub ranked : Copy (λ (x : TaskNumber). x.0) s.ranks zeros ranks i
  pub phases : Copy (λ (r : Row). s.clock.0 % r.t) s.table.rows zeros phase i
  pub lefts : Copy (λ (x : Units). x.0) s.left zeros left i
  pub lasts : Copy (λ (x : CoreNumber). x.0) s.last zeros last i
  pub dones : Copy (λ (x : Units). x.0) s.done zeros done i
  pub drops : Copy (λ (x : Units). x.0) s.dropped zeros dropped i

pub start : (f : Formed) → Parting f.state.now zeros zeros zeros zeros zeros zeros zeros zeros 0
start f =
    record {
      full = f.full;
      few = f.few;
      within = zero-le;
      cs = copy_start _ f.full.rows refl;
      ts = copy_start _ f.full.rows refl;
      ranked = copy_start _ f.full.ranks refl;
      phases = copy_start _ f.full.rows refl;
      lefts = copy_start _ f.full.left refl;
      lasts = copy_start _ f.full.last refl;
      dones = copy_start _ f.full.done refl;
      drops = copy_start _ f.full.dropped refl;
    }

module _ {s : State} {c t ranks phase left last done dropped : List ℕ} {i : ℕ} (g : Parting s c t ranks phase left last done dropped i) where
  pub turn : i < tasks s
      → Parting s (set c i (get_or s.table.rows i Tables.zero_row).c) (set t i (get_or s.table.rows i Tables.zero_row).t)
      (set ranks i (get_or s.ranks i (task_number 0)).0) (set phase i (s.clock.0 % (get_or s.table.rows i Tables.zero_row).t))
      (set left i (get_or s.left i (units 0)).0) (set last i (get_or s.last i (core_number 0)).0)
      (set done i (get_or s.done i (units 0)).0) (set dropped i (get_or s.dropped i (units 0)).0) (i + 1)
  turn more =
      let few : i < tasks_max = omega (arith, g.few) in
      record {
        full = g.full;
        few = g.few;
        within = omega arith;
        cs = copy_turn _ g.cs Tables.zero_row 0 few;
        ts = copy_turn _ g.ts Tables.zero_row 0 few;
        ranked = copy_turn _ g.ranked (task_number 0) 0 few;
        phases = copy_turn _ g.phases Tables.zero_row 0 few;
        lefts = copy_turn _ g.lefts (units 0) 0 few;
        lasts = copy_turn _ g.lasts (core_number 0) 0 few;
        dones = copy_turn _ g.dones (units 0) 0 few;
        drops = copy_turn _ g.drops (units 0) 0 few;
      }

  module _ (h : tasks s ≤ i) where
    at_end : i ≡ tasks s
    at_end = omega (arith, g.within)

    column : {A : Type 0} {number : A → ℕ} {a : List A} {now : List ℕ} → Copy number a zeros now i → (l : List ℕ) → map number (take (tasks s) a) ≡ l → now ≡ plain l
    column {number = number} {a} w l e =
        let size : length (map number (take (tasks s) a)) ≡ tasks s = length-map (take (tasks s) a) number ∙ length-take-le (tasks s) a (omega (arith, w.long, g.few)) in
        w.same
        ∙ ap (λ (k : ℕ). map number (take k a) ++ drop k zeros) at_end
        ∙ ap (λ (x : List ℕ). x ++ drop (tasks s) zeros) (e ∙ sym (map-id l))
        ∙ packed-set (λ v. v) (tasks s) l (sym (ap length e) ∙ size)

    phases_end : map (λ (r : Row). s.clock.0 % r.t) (take (tasks s) s.table.rows) ≡ phases_in (view s).table s.clock.0
    unfolding view Tables.view phases_in
    phases_end =
        let rows : List Rules.Row = map Tables.view_row (take (tasks s) s.table.rows) in
        sym (map-map (λ (r : Rules.Row). s.clock.0 % r.t) Tables.view_row (take (tasks s) s.table.rows))
        ∙ sym (map-from-get_or (λ (r : Rules.Row). s.clock.0 % r.t) RuleTables.no_row (RuleTables.no_row ∷ rows) 1 (length rows) (omega arith))

    pub ended : record { c = c; t = t; ranks = ranks; phase = phase; left = left; last = last; done = done; dropped = dropped } ≡ parts_of (view s)
    unfolding parts_of view Tables.view viewed
    ended j =
        record {
          c = column g.cs _ (sym (map-map (λ (r : Rules.Row). r.c) Tables.view_row (take (tasks s) s.table.rows))) j;
          t = column g.ts _ (sym (map-map (λ (r : Rules.Row). r.t) Tables.view_row (take (tasks s) s.table.rows))) j;
          ranks = column g.ranked _ refl j;
          phase = column g.phases _ phases_end j;
          left = column g.lefts _ refl j;
          last = column g.lasts _ refl j;
          done = column g.dones _ refl j;
          dropped = column g.drops _ refl j;
        }

-- ---- put together: after i tasks

abbrev no_units : List Units
no_units = replicate tasks_max (units 0)

abbrev no_cores : List CoreNumber
no_cores = replicate tasks_max (core_number 0)

pub record Joining (n : ℕ) (left last done dropped : List ℕ) (lefts : List Units) (lasts : List CoreNumber) (dones drops : List Units) (i : ℕ) : Type 0 where
  pub few : n ≤ tasks_max
  pub within : i ≤ n
  pub left_is : Copy units left no_units lefts i
  pub last_is : Copy core_number last no_cores lasts i
  pub done_is : Copy units done no_units dones i
  pub dropped_is : Copy units dropped no_units drops i

module _ {n : ℕ} {left last done dropped : List ℕ} where
  module _ {lefts : List Units} {lasts : List CoreNumber} {dones drops : List Units} {i : ℕ} (g : Joining n left last done dropped lefts lasts dones drops i) where
    pub join_turn : i < n → {l d x : ℕ} → l ≡ get_or left i 0 → d ≡ get_or done i 0 → x ≡ get_or dropped i 0
        → Joining n left last done dropped (set lefts i (units l)) (set lasts i (core_number (get_or last i 0))) (set dones i (units d)) (set drops i (units x)) (i + 1)
    join_turn more el ed ex =
        let few : i < tasks_max = omega (arith, g.few) in
        record {
          few = g.few;
          within = omega arith;
          left_is = rw el (copy_turn units g.left_is 0 (units 0) few);
          last_is = copy_turn core_number g.last_is 0 (core_number 0) few;
          done_is = rw ed (copy_turn units g.done_is 0 (units 0) few);
          dropped_is = rw ex (copy_turn units g.dropped_is 0 (units 0) few);
        }

    module _ (h : n ≤ i) where
      made : {A : Type 0} (make : ℕ → A) {l : List ℕ} {now : List A} → Copy make l (replicate tasks_max (make 0)) now i → now ≡ packed make (take n l)
      made {A} make {l} w =
          let end : i ≡ n = omega (arith, g.within) in
          w.same
          ∙ ap (λ (k : ℕ). map make (take k l) ++ drop k (replicate tasks_max (make 0))) end
          ∙ packed-set make n (take n l) (length-take-le n l (omega (arith, w.long, g.few)))

pub join-ended : (s : State) (clock moves misses : ℕ) {left last done dropped : List ℕ} {lefts : List Units} {lasts : List CoreNumber} {dones drops : List Units} {i : ℕ}
    → Joining (tasks s) left last done dropped lefts lasts dones drops i → tasks s ≤ i
    → record { table = s.table; ranks = s.ranks; clock = record { 0 = clock }; left = lefts; last = lasts; done = dones; dropped = drops; moves = moves; misses = misses }
    ≡ joined s clock left last done dropped moves misses
unfolding joined
join-ended s clock moves misses g h j =
    record {
      table = s.table;
      ranks = s.ranks;
      clock = record { 0 = clock };
      left = made g h units g.left_is j;
      last = made g h core_number g.last_is j;
      done = made g h units g.done_is j;
      dropped = made g h units g.dropped_is j;
      moves = moves;
      misses = misses;
    }
