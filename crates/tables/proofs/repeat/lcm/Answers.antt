-- `tables::repeat::lcm` meets its contract: the product of h and what is left of the period without the greatest common divisor.
use Prim.Native.Nat.{ℕ, ◌*◌, ◌/◌, ◌<◌, zero-le}
use mathlib.Core.Path.{◌≡◌, sym, ap, ap₂, ◌∙◌}
use lib.Arith.{lt_of_le-ne}
use native.Mathlib.Omega.{arith}
use Rattle.rules.specs.Repeat.{lcm}
use Rattle.rules.specs.Kinds.{repeat_of}
use Rattle.tables.specs.Repeats.{Gcd}
use Rattle.tables.proofs.Bounds.{repeat_within, repeat_above}
use Rattle.tables.proofs.Repeats.{gcd_pos, lcm-zero, lcm_gcd}
use Rattle.tables.proofs.repeat.lcm.Goals as goal

-- the product is the least common multiple
product-of : {h t g x y : ℕ} → 0 < h → ¬ (t ≡ 0) → Gcd h t g → x ≡ h → y ≡ t / g → x * y ≡ lcm h t
product-of positive some gcd ex ey = ap₂ ◌*◌ ex ey ∙ sym (lcm_gcd _ _ _ positive gcd (lt_of_le-ne zero-le (λ e. some (sym e))))

pub returns-then-t-eq0 : goal.returns-then-t-eq0
returns-then-t-eq0 c =
    let h = c.args.h in
    rw (c.if-t-eq0.true, lcm-zero h.0) (sym (repeat_within h.0 c.requires.positive c.requires.bounded))

pub nonzero_div-t : goal.nonzero_div-t
nonzero_div-t c = gcd_pos _ _ _ c.requires.positive c.gcd-g.ensures

pub returns-then-from-m : goal.returns-then-from-m
returns-then-from-m c =
    let product = product-of c.requires.positive c.if-t-eq0.false c.gcd-g.ensures c.from.ensures c.from-2.ensures in
    sym (repeat_above (lcm c.args.h.0 c.args.t) (omega (arith, product, c.from-3.ensures)))

pub returns : goal.returns
returns c =
    let product = product-of c.requires.positive c.if-t-eq0.false c.gcd-g.ensures c.from.ensures c.from-2.ensures in
    c.new.ensures ∙ ap repeat_of product
