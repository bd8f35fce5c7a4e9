-- Each public function's contract permits one outcome alone: one result, and of a lent slice one content.
use Rattle.laws.proofs.Contracts.{One, both}
use Rattle.tables.specs.Writes.{made}
use Rattle.stored.proofs.bytes.read_bytes.Reads as read-bytes
use Rattle.stored.proofs.bytes.write_bytes.Reads as write_bytes
use Rattle.stored.proofs.bytes.write_numbers.Reads as write_numbers
use Rattle.stored.proofs.load.load.Reads as load
use Rattle.stored.proofs.store.store.Reads as store

pub read_bytes_once : One read-bytes.Post (λ κs r s. r)
read_bytes_once κs a x y s t p q = both p.value q.value

pub write_bytes_once : One write_bytes.Post (λ κs r s. s.0.now)
write_bytes_once κs a x y s t p q = both p q

pub write_numbers_once : One write_numbers.Post (λ κs r s. s.0.now)
write_numbers_once κs a x y s t p q = both p q

pub load_once : One load.Post (λ κs r s. r)
load_once κs a x y s t p q = both p q

pub store_once : One store.Post (λ κs r s. made r s.1.0.now)
store_once κs a x y s t p q = both p q
