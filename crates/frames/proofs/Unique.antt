-- Each public function's contract permits one outcome alone: one result, or one content of the lent part of the buffer.
use Rattle.laws.proofs.Contracts.{One, both}
use Rattle.frames.proofs.names.names.Reads as names
use Rattle.frames.proofs.lent_names.Names.write.Reads as write-name
use Rattle.frames.proofs.start.write_type.Reads as write-type
use Rattle.frames.proofs.pairs.write_pairs.Reads as write-pairs
use Rattle.frames.proofs.fields.write_fields.Reads as write-fields
use Rattle.frames.proofs.slot.write_slot.Reads as write-slot
use Rattle.frames.proofs.refusal.write_refusal.Reads as write-refusal

pub names_once : One names.Post (λ κs r s. r)
names_once κs a x y s t p q = both p q

pub write_name_once : One write-name.Post (λ κs r s. s.1.0.now)
write_name_once κs a x y s t p q = both p q

pub write_type_once : One write-type.Post (λ κs r s. s.0.now)
write_type_once κs a x y s t p q = both p q

pub write_pairs_once : One write-pairs.Post (λ κs r s. s.0.now)
write_pairs_once κs a x y s t p q = both p q

pub write_fields_once : One write-fields.Post (λ κs r s. s.0.now)
write_fields_once κs a x y s t p q = both p q

pub write_slot_once : One write-slot.Post (λ κs r s. s.0.now)
write_slot_once κs a x y s t p q = both p q

pub write_refusal_once : One write-refusal.Post (λ κs r s. s.0.now)
write_refusal_once κs a x y s t p q = both p q
