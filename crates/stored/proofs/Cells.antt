-- Where the numbers of the layout stand.
use Prim.Native.Nat.{ℕ, suc, ◌+◌, ◌-◌, ◌*◌, ◌<◌}
use mathlib.Core.Path.{◌≡◌, refl, sym, ◌∙◌}
use mathlib.Core.List.{List, map}
use native.Mathlib.Omega.{arith}
use lib.Dec.{lit<}
use lib.ListN.{length, get_or, take, drop}
use lib.Seq.{drop-cons, drop-drop}
use Rattle.laws.specs.Lists.{sum, numbers, each, at}
use Rattle.rules.specs.States.{State}
use Rattle.stored.specs.Layout.{value_of, fixed_widths, task_widths, place_of, fixed_in, task_in, size_in, decoded}
use Rattle.stored.specs.Places.{number_at, row_at, cell}
use Rattle.stored.proofs.Fields.{read_at}

-- a number of the fixed part, counted from 0
fixed_cell : (bs : List ℕ) (k : ℕ) → k < 5 → at (fixed_in bs) (suc k) ≡ number_at bs (sum (take k fixed_widths)) (get_or fixed_widths k 0)
unfolding number_at
fixed_cell bs k h = read_at fixed_widths bs k h

-- a number of task i's record, counted from 0
task-cell : (bs : List ℕ) (i k place : ℕ) → k < 7 → place_of i + sum (take k task_widths) ≡ place → at (task_in bs i) (suc k) ≡ number_at bs place (get_or task_widths k 0)
unfolding number_at
task-cell bs i k place h e = read_at task_widths (drop (place_of i) bs) k h ∙ rw (drop-drop (sum (take k task_widths)) (place_of i) bs, e)

-- a number of one byte is that byte
pub byte_cell : (bs : List ℕ) (p : ℕ) → p < length bs → get_or bs p 0 ≡ number_at bs p 1
unfolding number_at value_of
byte_cell bs p h = rw (drop-cons bs p 0 h) (omega arith)

-- where the next task's record begins
pub place-next : (i : ℕ) → 22 + 34 * i ≡ place_of (i + 1)
place-next i = omega arith

-- the number of the next task
pub cell-next : (bs : List ℕ) (from width i : ℕ) → number_at bs (from + 34 * i) width ≡ cell bs from width (i + 1)
cell-next bs from width i =
    let e : from + 34 * i ≡ from + 34 * (i + 1 - 1) = omega arith in
    rw e

-- n is the second byte
pub size_byte : (bs : List ℕ) → 1 < length bs → get_or bs 1 0 ≡ size_in bs
unfolding size_in
size_byte bs h = byte_cell bs 1 h ∙ sym (fixed_cell bs 1 (lit< tt))

-- the state that bytes stand for, by the places of its numbers
abbrev pub cells : List ℕ → ℕ → State
cells bs n =
    record {
      table = record { m = number_at bs 0 1; rows = map (λ i. row_at bs (place_of i)) (numbers n) };
      ranks = each n (cell bs 30 1);
      clock = number_at bs 2 4;
      left = each n (cell bs 32 8);
      last = each n (cell bs 31 1);
      done = each n (cell bs 40 8);
      dropped = each n (cell bs 48 8);
      moves = number_at bs 6 8;
      misses = number_at bs 14 8;
    }

pub decoded_cells : (bs : List ℕ) → decoded bs ≡ cells bs (size_in bs)
unfolding decoded
decoded_cells bs =
    λ j.
    record {
      table =
          record {
            m = fixed_cell bs 0 (lit< tt) j;
            rows = map (λ i. record { c = task-cell bs i 0 (place_of i) (lit< tt) (omega arith) j; t = task-cell bs i 1 (place_of i + 4) (lit< tt) refl j }) (numbers (size_in bs));
          };
      ranks = each (size_in bs) (λ i. task-cell bs i 2 (30 + 34 * (i - 1)) (lit< tt) (omega arith) j);
      clock = fixed_cell bs 2 (lit< tt) j;
      left = each (size_in bs) (λ i. task-cell bs i 4 (32 + 34 * (i - 1)) (lit< tt) (omega arith) j);
      last = each (size_in bs) (λ i. task-cell bs i 3 (31 + 34 * (i - 1)) (lit< tt) (omega arith) j);
      done = each (size_in bs) (λ i. task-cell bs i 5 (40 + 34 * (i - 1)) (lit< tt) (omega arith) j);
      dropped = each (size_in bs) (λ i. task-cell bs i 6 (48 + 34 * (i - 1)) (lit< tt) (omega arith) j);
      moves = fixed_cell bs 3 (lit< tt) j;
      misses = fixed_cell bs 4 (lit< tt) j;
    }
