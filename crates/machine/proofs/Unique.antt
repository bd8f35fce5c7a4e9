-- Each public function's contract permits one outcome alone: one result, and of a lent slice one content.
use Rattle.std.proofs.Common.{ap, Result, Ok, Err}
use Rattle.laws.proofs.Tests.{never}
use Rattle.laws.proofs.Contracts.{One, both}
use Rattle.tables.specs.Writes.{made}
use Rattle.machine.specs.declared.state.State.{State}
use Rattle.machine.specs.declared.formed.Formed.{Formed}
use Rattle.rules.specs.declared.refusal.Refusal.{Refusal}
use Rattle.machine.proofs.form.is_formed.Reads as is_formed
use Rattle.machine.proofs.formed.FormedTryFromRefState.try_from.Reads as formed
use Rattle.machine.proofs.fresh.fresh.Reads as fresh
use Rattle.machine.proofs.lead.lead.Reads as lead
use Rattle.machine.proofs.totals.write_totals.Reads as write-totals

pub is_formed_once : One is_formed.Post (λ κs r s. r)
is_formed_once κs a x y s t p q = both p q

-- the state that passed, or the refusal
abbrev pub shown : Result Formed Refusal → Result State Refusal
shown (Ok f) = Ok f.state.now
shown (Err e) = Err e

pub formed_once : One formed.Post (λ κs r s. shown r)
formed_once κs a (Ok f) (Ok g) s t p q = ap Ok (both p q)
formed_once κs a (Err d) (Err e) s t p q = ap Err (both p.0 q.0)
formed_once κs a (Ok f) (Err e) s t p q = let good = f.good in never cc
formed_once κs a (Err d) (Ok g) s t p q = let good = g.good in never cc

pub fresh_once : One fresh.Post (λ κs r s. r)
fresh_once κs a x y s t p q = both p q

pub lead_once : One lead.Post (λ κs r s. r)
lead_once κs a x y s t p q = both p q

pub write_totals_once : One write-totals.Post (λ κs r s. made r s.1.0.now)
write_totals_once κs a x y s t p q = both p q
