-- `capi::verdict::judge` meets its contract.
use Rattle.std.proofs.Common.{◌≡◌, sym, ap, ◌∙◌, ℕ, List, Result, Err}
use Rattle.rules.specs.Refusals.{Answer}
use Rattle.rules.specs.States as Rules
use Rattle.rules.specs.declared.refusal.Refusal.{Refusal}
use Rattle.rules.proofs.Results.{passed_on, plain_err}
use Rattle.tables.specs.Views.{view}
use Rattle.tables.specs.Writes.{made, wrote_text}
use Rattle.tables.proofs.Views.{view-pack}
use Rattle.machine.specs.Views.{pack}
use Rattle.machine.specs.declared.state.State as Code
use Rattle.reports.specs.Heads.{head}
use Rattle.stored.specs.Layout.{load}
use Rattle.stored.specs.Answers.{state_answer}
use Rattle.capi.specs.Answers.{head_of}
use Rattle.capi.proofs.Loading.{Loaded, loaded, table_opened}
use Rattle.capi.proofs.verdict.judge.Goals as goal

-- bytes that are no state
missing : (bs out : List ℕ) (place : ℕ) {r : Refusal} → state_answer (load bs) ≡ Err r → made (Err r) out ≡ head_of (load bs) out place
unfolding head_of
missing bs out place e = rw (plain_err pack (load bs) e).1

-- a state that was loaded
found : (bs out : List ℕ) (place : ℕ) {s : Code.State} → Loaded bs s → wrote_text out place (head (view s.table)) ≡ head_of (load bs) out place
unfolding head_of pack
found bs out place l =
    ap (λ (s : Code.State). wrote_text out place (head (view s.table))) (sym l.packed)
    ∙ rw (view-pack l.st.table) (sym (ap (λ (a : Answer Rules.State). head_of a out place) l.read))

pub returns-in_err-s : goal.returns-in_err-s
returns-in_err-s c =
    let a = c.args in
    let told = sym c.load.ensures ∙ c.in_err-s.was in
    ap (λ (x : Result ℕ Refusal). made x a.out.now) (passed_on _ c.from_residual.ensures.1) ∙ missing a.state.now a.out.now a.at told

pub write_head_at-requires : goal.write_head_at-requires
write_head_at-requires c = table_opened (loaded c.args.state.now (sym c.load.ensures ∙ c.in_ok-s.was))

pub returns : goal.returns
returns c =
    let a = c.args in
    c.write_head_at.ensures ∙ found a.state.now a.out.now a.at (loaded a.state.now (sym c.load.ensures ∙ c.in_ok-s.was))
