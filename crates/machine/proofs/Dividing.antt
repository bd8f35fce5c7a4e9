-- A division that is rounded up.
use Prim.Native.Nat.{ℕ, ◌+◌, ◌-◌, ◌*◌, ◌/◌, ◌%◌, ◌≤◌, ◌<◌, min}
use mathlib.Core.Path.{◌≡◌}
use native.Mathlib.Nat.{suc-mul}
use native.Mathlib.Numerals.{add-one}
use native.Mathlib.Omega.{arith}
use Rattle.std.proofs.lemmas.Grind.{div_ceil_times}
use Rattle.std.proofs.lemmas.Nat.{le-div, div_below}

pub rounded_up : (c t : ℕ) → 1 ≤ t → c / t + min 1 (c % t) ≡ (c + (t - 1)) / t
rounded_up c t low =
    let k : ℕ = c / t + min 1 (c % t) in
    let around : (c ≤ k * t) × (k * t < c + t) = div_ceil_times c t low in
    let next : (k + 1) * t ≡ k * t + t = rw (add-one k) (suc-mul k t) in
    omega (
      arith,
      le-div k (c + (t - 1)) t low (omega (arith, around.1)),
      div_below (c + (t - 1)) t (k + 1) low (omega (arith, around.0, next)),
    )
