-- `stored::load::load` meets its contract: the tests in their order, each of which refuses as the definition does.
use mathlib.Core.Path.{ap, ◌∙◌}
use native.Mathlib.Omega.{arith}
use Rattle.std.proofs.Common.{Ok}
use Rattle.machine.proofs.Testing.{passed, well, failed}
use Rattle.stored.proofs.Decoding.{too_short, wrong_length, too_many, counted, ill_formed, well_formed_lem}
use Rattle.stored.proofs.load.load.Goals as goal

pub returns-then-bytes-lt-FIXED : goal.returns-then-bytes-lt-FIXED
returns-then-bytes-lt-FIXED c = too_short _ c.if-bytes-lt-FIXED.true

pub returns-then-bytes-n : goal.returns-then-bytes-n
returns-then-bytes-n c = wrong_length c.args.bytes.now c.if-bytes-lt-FIXED.false _ c.from-n.ensures (omega arith)

pub returns-then-n : goal.returns-then-n
returns-then-n c = too_many _ c.if-bytes-lt-FIXED.false _ c.from-n.ensures c.if-bytes-n.false c.if-n.true

pub invariant_of-stored-clause-said : goal.invariant_of-stored-clause-said
invariant_of-stored-clause-said c = counted _ c.if-bytes-lt-FIXED.false _ c.from-n.ensures

pub returns-in_err-try_from : goal.returns-in_err-try_from
returns-in_err-try_from c =
    let told = failed _ c.try_from.ensures c.in_err-try_from.was c.from_residual.ensures.1 in
    told.0 ∙ ill_formed _ c.if-bytes-lt-FIXED.false _ c.from-n.ensures c.if-bytes-n.false c.if-n.false c.state-state.ensures told.1

pub returns : goal.returns
returns c =
    ap Ok (passed _ c.try_from.ensures c.in_ok-try_from.was)
    ∙ well_formed_lem _ c.if-bytes-lt-FIXED.false _ c.from-n.ensures c.if-bytes-n.false c.if-n.false c.state-state.ensures (well _ c.try_from.ensures c.in_ok-try_from.was)
