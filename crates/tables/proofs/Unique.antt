-- Each public function's contract permits one outcome alone: one result, and of the lent buffer one content.
use Rattle.laws.proofs.Contracts.{One, both}
use Rattle.tables.specs.Writes.{made}
use Rattle.tables.proofs.table.empty.Reads as empty
use Rattle.tables.proofs.row.test_row.Reads as test-row
use Rattle.tables.proofs.header.test_header.Reads as test-header
use Rattle.tables.proofs.repeat.rows_of.Reads as rows_of_lem
use Rattle.tables.proofs.repeat.repeat_length.Reads as repeat-length
use Rattle.tables.proofs.file.read_file.Reads as read-file
use Rattle.tables.proofs.list.take_list.Reads as take-list
use Rattle.tables.proofs.write.write_list.Reads as write-list

pub empty_once : One empty.Post (λ κs r s. r)
empty_once κs a x y s t p q = both p q

pub test_row_once : One test-row.Post (λ κs r s. r)
test_row_once κs a x y s t p q = both p q

pub test_header_once : One test-header.Post (λ κs r s. r)
test_header_once κs a x y s t p q = both p q

pub rows_of_once : One rows_of_lem.Post (λ κs r s. r)
rows_of_once κs a x y s t p q = both p q

pub repeat_length_once : One repeat-length.Post (λ κs r s. r)
repeat_length_once κs a x y s t p q = both p q

pub read_file_once : One read-file.Post (λ κs r s. r)
read_file_once κs a x y s t p q = both p q

pub take_list_once : One take-list.Post (λ κs r s. r)
take_list_once κs a x y s t p q = both p q

pub write_list_once : One write-list.Post (λ κs r s. made r s.1.1.0.now)
write_list_once κs a x y s t p q = both p q
