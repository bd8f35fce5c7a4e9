-- `digits::places::write_places` meets its contract: one more place is written before those that are done, at the front of the lent tail.
use Prim.Native.Nat.{ℕ, ◌-◌, ◌≤◌}
use mathlib.Core.Path.{◌≡◌, ap, ◌∙◌}
use mathlib.Core.List.{List}
use native.Mathlib.Omega.{arith}
use lib.ListN.{length, take, drop, length-drop}
use lib.Seq.{length-take-le}
use Rattle.rules.specs.Answers.{lay}
use Rattle.reading_laws.proofs.Lays.{lay-lent}
use Rattle.digits.proofs.Allowed.{length-allowed, allowed_places, allowing_starts, allowing_goes_on, allowing_ends}
use Rattle.digits.proofs.places.write_places.Goals as goal

pub loop-i-init : goal.loop-i-init
loop-i-init g c =
    let behind : ℕ = length c.args.out.now - c.args.at in
    let rest : List ℕ = drop c.args.at c.args.out.now in
    let long : length rest ≡ behind = length-drop c.args.at c.args.out.now in
    let room : c.args.width ≤ length (take behind rest) = omega (arith, length-take-le behind rest (omega arith)) in
    allowing_starts room

pub loop-i-preserved : goal.loop-i-preserved
loop-i-preserved g c = allowing_goes_on c.loop-i.invariant (omega arith) c.sign.ensures (omega arith) (omega arith)

-- the signs that were laid
laid : goal.returns-clause-allowed
laid g c =
    let a = c.args in
    let w = c.loop-i.invariant in
    let ended = allowing_ends w (omega arith) in
    (w.done, ended.0, lay-lent a.out.now a.at a.width w.done _ (length-allowed ended.0) (omega arith) ended.1)

pub returns-clause-computed : goal.returns-clause-computed
returns-clause-computed g c f signs =
    let a = c.args in
    let l = laid g c in
    l.2 ∙ ap (λ (bytes : List ℕ). lay a.out.now a.at bytes) (allowed_places c.requires.low signs l.1)

pub returns-clause-allowed : goal.returns-clause-allowed
returns-clause-allowed = laid
