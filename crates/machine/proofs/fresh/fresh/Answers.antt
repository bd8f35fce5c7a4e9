-- `machine::fresh::fresh` meets its contract: the table's order is there, since the table is accepted.
use Rattle.std.proofs.Common.{◌≡◌, refl, List, length, Result, Ok}
use Rattle.rules.specs.Refusals.{settle}
use Rattle.rules.specs.Verdicts.{order}
use Rattle.rules.specs.declared.kinds.TaskNumber.{TaskNumber}
use Rattle.rules.specs.declared.refusal.Refused.{Refused}
use Rattle.reading_laws.proofs.Tests.{accepts-iff}
use Rattle.tables.specs.Views.{view}
use Rattle.tables.specs.declared.table.Table.{Table}
use Rattle.tables.proofs.Views.{table_full}
use Rattle.verdicts.specs.Structs.{struct_tests, priority_answer}
use Rattle.machine.specs.Tables.{Opened}
use Rattle.machine.specs.Views.{task_number, packed}
use Rattle.machine.proofs.Passing.{analysis_accepted, taken-ranks, ranks-there}
use Rattle.machine.proofs.Starting.{fresh-packed}
use Rattle.machine.proofs.fresh.fresh.Goals as goal

ordered : (t : Table) → length t.rows ≡ 64 → Opened t → {p : Result (List TaskNumber) Refused} → p ≡ priority_answer (settle (struct_tests t) (order (view t)))
    → p ≡ Ok (packed task_number (order (view t)))
ordered t long o is =
    ranks-there t long o.sound.few is (analysis_accepted t long o.sound.few ((accepts-iff _).1 o.sound.bounds))

pub unwrap-requires : goal.unwrap-requires
unwrap-requires c = rw (ordered c.args.t (table_full c.args.t _ c.well_formed.0) c.requires c.priority.ensures) refl

pub returns : goal.returns
returns c =
    let long = table_full c.args.t _ c.well_formed.0 in
    fresh-packed c.args.t long c.requires (taken-ranks c.args.t long c.requires.sound.few c.priority.ensures c.unwrap.ensures)
