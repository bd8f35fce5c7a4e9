-- `capi::verdict::write_head_at` meets its contract.
use Rattle.std.proofs.Common.{sym, ap, ◌∙◌, ℕ, ◌-◌, ◌++◌, length, drop, Result}
use borrow.Rule.Slice.PartMut.{mid_of}
use Rattle.rules.specs.declared.refusal.Refusal.{Refusal}
use Rattle.rules.proofs.Results.{passed_on}
use Rattle.tables.specs.Views.{view}
use Rattle.tables.specs.Writes.{made}
use Rattle.reports.specs.Heads.{head}
use Rattle.reports.proofs.Heads.{length-head}
use Rattle.tables.proofs.Written.{text_short, text-written}
use Rattle.capi.proofs.verdict.write_head_at.Goals as goal

pub returns-in_err-room : goal.returns-in_err-room
returns-in_err-room c =
    ap (λ (x : Result ℕ Refusal). made x c.args.out.now) (passed_on _ c.from_residual.ensures.1)
    ∙ text_short _ _ _ _ (length-head (view c.args.t) ∙ sym c.head_length-size.ensures) (sym c.room.ensures ∙ c.in_err-room.was)

pub returns : goal.returns
returns c =
    let a = c.args in
    let out = a.out.now in
    text-written out a.at (head (view a.t)) _ (length-head (view a.t) ∙ sym c.head_length-size.ensures) (sym c.room.ensures ∙ c.in_ok-room.was) _
    (c.write_head.ensures ∙ ap (λ (k : ℕ). head (view a.t) ++ drop k (mid_of a.at (length out - a.at) out)) (sym c.head_length-size.ensures))
