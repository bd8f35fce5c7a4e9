-- `digits::read_digits` meets its contract: the digits that are left, after the number that was read, stand for the whole.
use Rattle.std.proofs.Common.{◌≡◌, sym, ap, ◌∙◌, arith, get_or, lit<}
use Rattle.std.proofs.Math.Option.{some}
use Rattle.laws.specs.Digits.{digit_value}
use Rattle.rules.specs.Results.{option}
use Rattle.rules.proofs.Results.{option_there, option_missing}
use Rattle.laws.proofs.Digits.{digit_value_some}
use Rattle.laws.proofs.DigitLoops.{reading_starts, reading_goes_on, reading_breaks_off, reading_fits, reading_ends}
use Rattle.digits.proofs.read_digits.Goals as goal

pub loop-b-init : goal.loop-b-init
loop-b-init c = reading_starts _

pub overflow_mul-v : goal.overflow_mul-v
overflow_mul-v c = omega (arith, reading_fits _ _ _ c.loop-b.invariant c.loop-b-test.true c.requires {d = 0} (lit< tt))

pub returns-in_err-digit_value : goal.returns-in_err-digit_value
returns-in_err-digit_value c =
    c.from_residual.ensures ∙ sym (ap (option (λ v. v)) (reading_breaks_off _ _ _ c.loop-b.invariant c.loop-b-test.true
    (option_missing _ (sym c.digit_value.ensures ∙ c.in_err-digit_value.was))))

-- the number that the byte at hand stands for
found : (c : goal.After-from) → digit_value (get_or c.args.s.now c.loop-b.b-index 0) ≡ some c.in_ok-digit_value.field-0
found c = option_there _ (sym c.digit_value.ensures ∙ c.in_ok-digit_value.was)

pub overflow_add-v : goal.overflow_add-v
overflow_add-v c =
    rw c.from.ensures
    (record { fits = reading_fits _ _ _ c.loop-b.invariant c.loop-b-test.true c.requires (digit_value_some _ _ (found c)).0 })

pub loop-b-preserved : goal.loop-b-preserved
loop-b-preserved c = rw c.from.ensures (reading_goes_on _ _ _ c.loop-b.invariant c.loop-b-test.true (found c))

pub returns : goal.returns
returns c = sym (ap (option (λ v. v)) (reading_ends _ _ _ c.loop-b.invariant c.loop-b-test.false))
