-- Hexadecimal digits in ASCII: lowercase, big-endian.
use Rattle.std.specs.Prelude.{ℕ, zero, suc, ◌+◌, ◌-◌, ◌*◌, ◌/◌, ◌%◌, cond, ◌&&◌, List, [], ◌∷◌, ◌++◌, leb, ltb}
use Rattle.std.proofs.Math.Option.{Option, none, some}
use Rattle.laws.specs.Options.{then}

-- the digit for a number below 16: 0 to 9, then a to f
unfoldable pub digit : ℕ → ℕ
digit v = cond (ltb v 10) (48 + v) (87 + v)

-- the number that a byte stands for, if it is a digit
unfoldable pub digit_value : ℕ → Option ℕ
digit_value b =
    cond (leb 48 b && leb b 57) (some (b - 48))
    (cond (leb 97 b && leb b 102) (some (b - 87))
    none)

-- v in w digits
unfoldable pub field : ℕ → ℕ → List ℕ
field zero v = []
field (suc w) v = field w (v / 16) ++ (digit (v % 16) ∷ [])

-- the number that digits stand for, after digits that stand for v; none if a byte of them is no digit
unfoldable pub value_after : ℕ → List ℕ → Option ℕ
value_after v [] = some v
value_after v (b ∷ bs) = then (digit_value b) (λ d. value_after (v * 16 + d) bs)

unfoldable pub value : List ℕ → Option ℕ
value bs = value_after 0 bs
