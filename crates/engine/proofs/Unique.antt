-- Each public function's contract permits one outcome alone: one result, and of each lent slice one content.
use Rattle.laws.proofs.Contracts.{One, both}
use Rattle.engine.specs.Step.{stepped}
use Rattle.engine.proofs.release.release.Reads as release
use Rattle.engine.proofs.slot.slot.Reads as slot

pub release_once : One release.Post (λ κs r s. s.0.now)
release_once κs a x y s t p q = both p q

-- every list of the slot, its moves and its misses
pub slot_once : One slot.Post (λ κs r s. stepped s.1.0.now s.1.1.0.now s.1.1.1.0.now s.1.1.1.1.0.now s.1.1.1.1.1.0.now s.1.1.1.1.1.1.0.now r.moves r.misses)
slot_once κs a x y s t p q = both p q
