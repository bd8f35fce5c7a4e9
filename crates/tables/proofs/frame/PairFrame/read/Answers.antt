-- `tables::frame::PairFrame::read` meets its contract: each test that fails ends the reading of the frame, and where none does both
-- numbers are read.
use Rattle.std.proofs.Common.{sym, ap, ◌∙◌, ◌+◌, arith}
use Rattle.rules.specs.Results.{option}
use Rattle.rules.proofs.Results.{option_there, option_missing}
use Rattle.tables.specs.Pairs.{two_of}
use Rattle.tables.proofs.Pairs.{pair_short, kind_missing, kind_other, first_missing, second_missing, no_feed, pair_read, number_fits}
use Rattle.tables.proofs.frame.PairFrame.read.Goals as goal

pub returns-then-s-bytes : goal.returns-then-s-bytes
returns-then-s-bytes c = sym (ap (option two_of) (pair_short _ _ _ (omega arith)))

pub returns-in_err-read_field : goal.returns-in_err-read_field
returns-in_err-read_field c =
    let absent = option_missing _ (sym c.read_field.ensures ∙ c.in_err-read_field.was) in
    c.from_residual.ensures ∙ sym (ap (option two_of) (kind_missing _ _ _ (omega arith) absent))

pub returns-then-branch-from : goal.returns-then-branch-from
returns-then-branch-from c =
    let kind-of = option_there _ (sym c.read_field.ensures ∙ c.in_ok-read_field.was) in
    sym (ap (option two_of) (kind_other _ _ _ (omega arith) kind-of (rw (c.from-2.ensures, c.from.ensures) at c.if-branch-from.true)))

pub returns-in_err-a : goal.returns-in_err-a
returns-in_err-a c =
    let kind-of = option_there _ (sym c.read_field.ensures ∙ c.in_ok-read_field.was) in
    let absent = option_missing _ (sym c.read_field-2.ensures ∙ c.in_err-a.was) in
    c.from_residual-in_err-a.ensures ∙ sym (ap (option two_of) (first_missing _ _ _ (omega arith) kind-of (rw (c.from-2.ensures, c.from.ensures) at c.if-branch-from.false) absent))

pub returns-in_err-b : goal.returns-in_err-b
returns-in_err-b c =
    let kind-of = option_there _ (sym c.read_field.ensures ∙ c.in_ok-read_field.was) in
    let first_of = option_there _ (sym c.read_field-2.ensures ∙ c.in_ok-a.was) in
    let absent = option_missing _ (sym c.read_field-3.ensures ∙ c.in_err-b.was) in
    c.from_residual-in_err-b.ensures ∙ sym (ap (option two_of) (second_missing _ _ _ (omega arith) kind-of (rw (c.from-2.ensures, c.from.ensures) at c.if-branch-from.false) first_of absent))

pub returns-then-s-second-ne-LINE_FEED : goal.returns-then-s-second-ne-LINE_FEED
returns-then-s-second-ne-LINE_FEED c =
    let kind-of = option_there _ (sym c.read_field.ensures ∙ c.in_ok-read_field.was) in
    let first_of = option_there _ (sym c.read_field-2.ensures ∙ c.in_ok-a.was) in
    let second-of = option_there _ (sym c.read_field-3.ensures ∙ c.in_ok-b.was) in
    sym (ap (option two_of) (no_feed _ _ _ (omega arith) kind-of (rw (c.from-2.ensures, c.from.ensures) at c.if-branch-from.false) first_of second-of c.if-s-second-ne-LINE_FEED.true))

pub overflow_cast-result : goal.overflow_cast-result
overflow_cast-result c =
    record { fits = number_fits c.args.s.now 2 c.args.self.width c.args.self.narrow (option_there _ (sym c.read_field-2.ensures ∙ c.in_ok-a.was)) }

pub overflow_cast-result-2 : goal.overflow_cast-result-2
overflow_cast-result-2 c =
    record { fits = number_fits c.args.s.now (2 + c.args.self.width) c.args.self.width c.args.self.narrow (option_there _ (sym c.read_field-3.ensures ∙ c.in_ok-b.was)) }

pub returns : goal.returns
returns c =
    let kind-of = option_there _ (sym c.read_field.ensures ∙ c.in_ok-read_field.was) in
    let first_of = option_there _ (sym c.read_field-2.ensures ∙ c.in_ok-a.was) in
    let second-of = option_there _ (sym c.read_field-3.ensures ∙ c.in_ok-b.was) in
    sym (ap (option two_of) (pair_read _ _ _ (omega arith) kind-of (rw (c.from-2.ensures, c.from.ensures) at c.if-branch-from.false) first_of second-of c.if-s-second-ne-LINE_FEED.false))
