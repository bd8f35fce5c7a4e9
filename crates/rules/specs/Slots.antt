-- One slot (000, section 1): release, choose, place, effect.
use Rattle.std.specs.Prelude.{ℕ, suc, ◌+◌, ◌-◌, Bool, cond, not, ◌&&◌, List, eqb, ltb, take, set, replicate}
use Rattle.laws.specs.Lists.{filter, count, foldl, numbers, each, at, position}
use Rattle.rules.specs.Rows.{releases, due, demand}
use Rattle.rules.specs.Tables.{Table, size, row_of}
use Rattle.rules.specs.States.{State}

-- each task's left work after the releases of slot s
unfoldable pub release : Table → ℕ → List ℕ → List ℕ
release tbl s left = each (size tbl) (λ i. cond (releases (row_of tbl i) s) (demand (row_of tbl i)) (at left i))

-- of the tasks with left work the first m in priority order, or all if fewer
unfoldable pub choose : ℕ → List ℕ → List ℕ → List ℕ
choose m ranks left = take m (filter (λ i. ltb 0 (at left i)) ranks)

-- A placing is a list of the tasks on cores 1 to m, 0 where a core is idle.

unfoldable pub free : List ℕ → ℕ → Bool
free cores k = ltb 0 k && eqb (at cores k) 0

-- task i takes core k
unfoldable pub seat : List ℕ → ℕ → ℕ → List ℕ
seat cores k i = set cores (k - 1) i

-- each of the tasks, in order, whose last core is free takes it
unfoldable pub keep_cores : List ℕ → List ℕ → List ℕ → List ℕ
keep_cores last is cores = foldl (λ cs i. cond (free cs (at last i)) (seat cs (at last i) i) cs) cores is

-- each of the tasks, in order, takes the lowest free core
unfoldable pub fill_cores : List ℕ → List ℕ → List ℕ
fill_cores is cores = foldl (λ cs i. seat cs (position 0 cs) i) cores is

-- a core holds task i
unfoldable pub placed : List ℕ → ℕ → Bool
placed cores i = ltb 0 (position i cores)

-- first each chosen task whose last core is free, then each other one, both in priority order
unfoldable pub place : ℕ → List ℕ → List ℕ → List ℕ
place m last chosen =
    let kept : List ℕ = keep_cores last chosen (replicate m 0) in
    fill_cores (filter (λ i. not (placed kept i)) chosen) kept

-- the effect on task i of a slot with a placing: the units done, 1 for each core that holds it
unfoldable pub given : List ℕ → ℕ → ℕ
given cores i = count (eqb i) cores

-- it runs on a core other than the one that it last ran on; a first run is no move
unfoldable pub moved : List ℕ → List ℕ → ℕ → Bool
moved last cores i = placed cores i && ltb 0 (at last i) && not (eqb (position i cores) (at last i))

-- its deadline falls on the slot's end, and it has left work
unfoldable pub missed : Table → ℕ → List ℕ → ℕ → Bool
missed tbl s left i = due (row_of tbl i) (suc s) && ltb 0 (at left i)

-- what a slot shows: the placing, the moves in it and the misses at its end
pub record Shown : Type 0 where
  pub slot : ℕ
  pub cores : List ℕ
  pub moves : ℕ
  pub misses : ℕ

-- a slot with a given placing: what it shows, and the state at its end
pub record Outcome : Type 0 where
  pub shown : Shown
  pub next : State

-- the slot of a state whose releases are done, with any placing
unfoldable pub effect : State → List ℕ → List ℕ → Outcome
effect st released cores =
    let tbl : Table = st.table in
    let n : ℕ = size tbl in
    let s : ℕ = st.clock in
    let worked : List ℕ = each n (λ i. at released i - given cores i) in
    let moves : ℕ = count (moved st.last cores) (numbers n) in
    let misses : ℕ = count (missed tbl s worked) (numbers n) in
    record {
      shown = record { slot = s; cores = cores; moves = moves; misses = misses };
      next =
          record {
            table = tbl;
            ranks = st.ranks;
            clock = suc s;
            left = each n (λ i. cond (due (row_of tbl i) (suc s)) 0 (at worked i));
            last = each n (λ i. cond (placed cores i) (position i cores) (at st.last i));
            done = each n (λ i. at st.done i + given cores i);
            dropped = each n (λ i. at st.dropped i + cond (due (row_of tbl i) (suc s)) (at worked i) 0);
            moves = st.moves + moves;
            misses = st.misses + misses;
          };
    }

-- one slot
unfoldable pub slot : State → Outcome
slot st =
    let released : List ℕ = release st.table st.clock st.left in
    let chosen : List ℕ = choose st.table.m st.ranks released in
    effect st released (place st.table.m st.last chosen)
