-- How much can have been released.
use Prim.Native.Nat.{ℕ, ◌+◌, ◌-◌, ◌*◌, ◌/◌, ◌≤◌}
use native.Mathlib.Nat.{mul-le-mul, div-le_self}
use native.Mathlib.Omega.{arith}
use Rattle.rules.specs.Limits.{period_max, clock_max}
use Rattle.rules.specs.Rows.{demand, releases_before, released}
use Rattle.rules.specs.Tables.{Table, size, row_of}
use Rattle.slot_laws.proofs.Forms.{Accepted}

-- at most C in each slot, and in as many more as a period has
abbrev pub released_max : ℕ
released_max = period_max * (clock_max + period_max)

-- in the bounds of C, T and the clock
pub released-most : (c t clock : ℕ) → c ≤ period_max → t ≤ period_max → clock ≤ clock_max → c * ((clock + (t - 1)) / t) ≤ released_max
released-most c t clock few high soon =
    let jobs : (clock + (t - 1)) / t ≤ clock_max + period_max = omega (arith, div-le_self (clock + (t - 1)) t) in
    mul-le-mul few jobs

-- and so of a task of an accepted table
pub released-few : {tbl : Table} → Accepted tbl → (i : ℕ) → 1 ≤ i → i ≤ size tbl → (clock : ℕ) → clock ≤ clock_max → released (row_of tbl i) clock ≤ released_max
unfolding released releases_before demand
released-few {tbl} a i low high clock soon =
    let row = a.row i low high in
    released-most (row_of tbl i).c (row_of tbl i).t clock (omega arith) row.period soon
