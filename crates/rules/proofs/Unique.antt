-- Each public function's contract permits one outcome alone.
use Rattle.laws.proofs.Contracts.{One, both}
use Rattle.rules.proofs.kinds.is_outside.Reads as is-outside
use Rattle.rules.proofs.kinds.CoresKind.new.Reads as cores
use Rattle.rules.proofs.kinds.TasksKind.new.Reads as tasks
use Rattle.rules.proofs.kinds.PeriodKind.new.Reads as period
use Rattle.rules.proofs.kinds.RepeatKind.new.Reads as repeat
use Rattle.rules.proofs.kinds.SlotKind.new.Reads as slot
use Rattle.rules.proofs.kinds.CoresKind.of.Reads as of-cores
use Rattle.rules.proofs.kinds.TasksKind.of.Reads as of-tasks
use Rattle.rules.proofs.kinds.PeriodKind.of.Reads as of-period
use Rattle.rules.proofs.kinds.RepeatKind.of.Reads as of-repeat
use Rattle.rules.proofs.kinds.SlotKind.of.Reads as of-slot
use Rattle.rules.proofs.refusal.U8FromRefusal.from.Reads as number
use Rattle.rules.proofs.refusal.Refusal.at.Reads as at
use Rattle.rules.proofs.refusal.RefusalFromRefused.from.Reads as refusal
use Rattle.rules.proofs.frame_type.U8FromFrameType.from.Reads as type
use Rattle.rules.proofs.room.room.Reads as room
use Rattle.rules.proofs.verdict.U8FromVerdict.from.Reads as byte

pub is_outside_once : One is-outside.Post (λ κs r s. r)
is_outside_once κs a x y s t p q = both p q

pub cores_once : One cores.Post (λ κs r s. r)
cores_once κs a x y s t p q = both p q

pub tasks_once : One tasks.Post (λ κs r s. r)
tasks_once κs a x y s t p q = both p q

pub period_once : One period.Post (λ κs r s. r)
period_once κs a x y s t p q = both p q

pub repeat_once : One repeat.Post (λ κs r s. r)
repeat_once κs a x y s t p q = both p q

pub slot_once : One slot.Post (λ κs r s. r)
slot_once κs a x y s t p q = both p q

pub of_cores_once : One of-cores.Post (λ κs r s. r)
of_cores_once κs a x y s t p q = both p q

pub of_tasks_once : One of-tasks.Post (λ κs r s. r)
of_tasks_once κs a x y s t p q = both p q

pub of_period_once : One of-period.Post (λ κs r s. r)
of_period_once κs a x y s t p q = both p q

pub of_repeat_once : One of-repeat.Post (λ κs r s. r)
of_repeat_once κs a x y s t p q = both p q

pub of_slot_once : One of-slot.Post (λ κs r s. r)
of_slot_once κs a x y s t p q = both p q

pub number_once : One number.Post (λ κs r s. r)
number_once κs a x y s t p q = both p q

pub byte_once : One byte.Post (λ κs r s. r)
byte_once κs a x y s t p q = both p q

pub type_once : One type.Post (λ κs r s. r)
type_once κs a x y s t p q = both p q

pub refusal_once : One refusal.Post (λ κs r s. r)
refusal_once κs a x y s t p q = both p q

pub at_once : One at.Post (λ κs r s. r)
at_once κs a x y s t p q = both p q

pub room_once : One room.Post (λ κs r s. r)
room_once κs a x y s t p q = both p q
