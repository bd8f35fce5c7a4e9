-- `reports::head::write_judgement` meets its contract: an accepted table is judged, and the frame of its judgement is its line.
use mathlib.Core.Path.{refl, ap}
use native.Mathlib.Omega.{arith}
use Rattle.verdicts.specs.declared.table.Judgement.{Judgement}
use Rattle.reports.proofs.Heads.{judged, judged_is, judgement-written}
use Rattle.reports.proofs.head.write_judgement.Goals as goal

pub unwrap-j-requires : goal.unwrap-j-requires
unwrap-j-requires c = rw (c.verdict.ensures, judged _ c.requires.opened) refl

pub returns : goal.returns
returns c =
    let is = judged_is _ c.requires.opened c.verdict.ensures c.unwrap-j.ensures in
    judgement-written _ c.requires.opened _ c.write_verdict.ensures (ap (λ (j : Judgement). j.verdict) is)
    (omega (arith, ap (λ (j : Judgement). j.heavy) is))
    (omega (arith, ap (λ (j : Judgement). j.repeat.0) is))
