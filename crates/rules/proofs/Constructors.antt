-- What the constructor of each kind answers, whatever its contract permits: the definition of the kind at its argument.
use mathlib.Core.Path.{◌≡◌}
use Rattle.rules.specs.Kinds.{cores_of, tasks_of, period_of, repeat_of, slot_of}
use Rattle.rules.proofs.kinds.CoresKind.new.Reads as cores
use Rattle.rules.proofs.kinds.TasksKind.new.Reads as tasks
use Rattle.rules.proofs.kinds.PeriodKind.new.Reads as period
use Rattle.rules.proofs.kinds.RepeatKind.new.Reads as repeat
use Rattle.rules.proofs.kinds.SlotKind.new.Reads as slot

pub cores_made : (κs : _) (a : _) (r : _) (s : _) → cores.Post κs a r s → r ≡ cores_of a.0
cores_made κs a r s p = p

pub tasks_made : (κs : _) (a : _) (r : _) (s : _) → tasks.Post κs a r s → r ≡ tasks_of a.0
tasks_made κs a r s p = p

pub period_made : (κs : _) (a : _) (r : _) (s : _) → period.Post κs a r s → r ≡ period_of a.0
period_made κs a r s p = p

pub repeat_made : (κs : _) (a : _) (r : _) (s : _) → repeat.Post κs a r s → r ≡ repeat_of a.0
repeat_made κs a r s p = p

pub slot_made : (κs : _) (a : _) (r : _) (s : _) → slot.Post κs a r s → r ≡ slot_of a.0
slot_made κs a r s p = p
