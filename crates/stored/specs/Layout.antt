-- A state of the slot machine as bytes: big-endian fields, a fixed part first, then one record for each task in table order.
use Rattle.std.specs.Prelude.{ℕ, zero, suc, ◌+◌, ◌-◌, ◌*◌, ◌/◌, ◌%◌, not, List, [], ◌∷◌, ◌++◌, map, eqb, length, take, drop}
use Rattle.laws.specs.Lists.{foldl, join, numbers, each, at}
use Rattle.rules.specs.Refusals.{test, Answer, settle}
use Rattle.rules.specs.Rows.{Row}
use Rattle.rules.specs.Tables.{size, row_of}
use Rattle.rules.specs.States.{State}
use Rattle.rules.specs.Answers.{state_test}
use Rattle.rules.specs.declared.refusal.Refusal.TheVariants.{BadState}

-- ---- numbers

-- v in w bytes, the highest first
unfoldable pub bytes_of : ℕ → ℕ → List ℕ
bytes_of zero v = []
bytes_of (suc w) v = bytes_of w (v / 256) ++ (v % 256 ∷ [])

-- the number that bytes stand for
unfoldable pub value_of : List ℕ → ℕ
value_of bs = foldl (λ v b. v * 256 + b) 0 bs

-- numbers in so many bytes each, one after the other
unfoldable pub written : List ℕ → List ℕ → List ℕ
written [] vs = []
written (w ∷ ws) [] = []
written (w ∷ ws) (v ∷ vs) = bytes_of w v ++ written ws vs

-- the numbers of so many bytes each that a byte string begins with
unfoldable pub read_off : List ℕ → List ℕ → List ℕ
read_off [] bs = []
read_off (w ∷ ws) bs = value_of (take w bs) ∷ read_off ws (drop w bs)

-- ---- the layout

-- m, n, clock, moves, misses
abbrev pub fixed_widths : List ℕ
fixed_widths = 1 ∷ 1 ∷ 4 ∷ 8 ∷ 8 ∷ []

-- C, T, the task at this rank, last core, left, done, dropped
abbrev pub task_widths : List ℕ
task_widths = 4 ∷ 4 ∷ 1 ∷ 1 ∷ 8 ∷ 8 ∷ 8 ∷ []

-- where the record of task i begins
abbrev pub place_of : ℕ → ℕ
place_of i = 22 + 34 * (i - 1)

-- how many bytes a state of n tasks takes
abbrev pub length_of : ℕ → ℕ
length_of n = 22 + 34 * n

-- ---- a state as bytes

abbrev pub fixed_of : State → List ℕ
fixed_of st = st.table.m ∷ size st.table ∷ st.clock ∷ st.moves ∷ st.misses ∷ []

abbrev pub task_of : State → ℕ → List ℕ
task_of st i =
    let r : Row = row_of st.table i in
    r.c ∷ r.t ∷ at st.ranks i ∷ at st.last i ∷ at st.left i ∷ at st.done i ∷ at st.dropped i ∷ []

-- the record of task i
abbrev pub record_of : State → ℕ → List ℕ
record_of st i = written task_widths (task_of st i)

unfoldable pub store : State → List ℕ
store st = written fixed_widths (fixed_of st) ++ join (map (record_of st) (numbers (size st.table)))

-- ---- and back

abbrev pub fixed_in : List ℕ → List ℕ
fixed_in bs = read_off fixed_widths bs

abbrev pub task_in : List ℕ → ℕ → List ℕ
task_in bs i = read_off task_widths (drop (place_of i) bs)

-- n
unfoldable pub size_in : List ℕ → ℕ
size_in bs = at (fixed_in bs) 2

-- the state that bytes stand for, well formed or not
unfoldable pub decoded : List ℕ → State
decoded bs =
    let n : ℕ = size_in bs in
    record {
      table = record { m = at (fixed_in bs) 1; rows = map (λ i. record { c = at (task_in bs i) 1; t = at (task_in bs i) 2 }) (numbers n) };
      ranks = each n (λ i. at (task_in bs i) 3);
      clock = at (fixed_in bs) 3;
      left = each n (λ i. at (task_in bs i) 5);
      last = each n (λ i. at (task_in bs i) 4);
      done = each n (λ i. at (task_in bs i) 6);
      dropped = each n (λ i. at (task_in bs i) 7);
      moves = at (fixed_in bs) 4;
      misses = at (fixed_in bs) 5;
    }

-- a byte string of another length than its own n asks for is no state, nor is one that does not stand for a well-formed state
unfoldable pub load : List ℕ → Answer State
load bs = settle (test (not (eqb (length bs) (length_of (size_in bs)))) BadState ∷ state_test (decoded bs) ∷ []) (decoded bs)
