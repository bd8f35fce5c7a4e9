-- `capi::answer::settle` meets its contract: the number of an answer's own refusal, beside the value as it was.
use Rattle.std.proofs.Common.{sym, ap, ◌∙◌, ℕ}
use Rattle.capi.specs.Calls.{reply}
use Rattle.capi.specs.Answers.{numbered}
use Rattle.capi.proofs.answer.settle.Goals as goal

pub returns-in-Err : goal.returns-in-Err
returns-in-Err g c =
    let place = c.args.place.now in
    ap (λ (n : ℕ). reply n place) (c.from-in-Err.ensures ∙ c.from.ensures) ∙ sym (ap (numbered place) c.in-Err.is)
