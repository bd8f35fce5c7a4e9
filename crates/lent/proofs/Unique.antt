-- Each public function's contract permits one outcome alone.
-- The relation of arguments and result is written out here, and `take-rows-says` shows that the contract states this relation and nothing else.
use mathlib.Core.Path.{◌≡◌, refl}
use mathlib.Core.List.{map}
use seplogic.Ra.Ura.{Ura}
use base.Logic.{SProp}
use prog.Memory.{Memory}
use prog.Routine.{Routine}
use types.Logic.{Logic}
use contract.Lifetimes.{Lfts}
use contract.Monad.{Fun, fact}
use denote.Triple.Entry.{Args, Res}
use denote.Triple.Clauses.{AtExit}
use Rattle.laws.proofs.Contracts.{One, both}
use Rattle.rules.specs.Tables.{take_list}
use Rattle.tables.specs.Views.{view_row, table_answer}
use Rattle.lent.specs.contracts.rows.take_rows as take-rows

abbrev pub Taken : (κs : Lfts 1) → Args take-rows.signature κs → Res take-rows.signature κs → AtExit take-rows.ended κs → Type 0
Taken κs a r e = r ≡ table_answer (take_list a.0 (map view_row a.1.0.now))

pub take-rows-says : {M : Type 1} {𝓤 : Ura M} (𝓛 : Logic 𝓤) (mem : Memory → SProp 𝓤) (run : Routine → Fun 𝓤) (κs : Lfts 1) (a : Args take-rows.signature κs) (r : Res take-rows.signature κs) (e : AtExit take-rows.ended κs)
    → (take-rows.clauses 𝓛 mem run κs a).ensures tt r e ≡ fact 𝓤 (Taken κs a r e)
take-rows-says 𝓛 mem run κs a r e = refl

pub take_rows_once : One Taken (λ κs r s. r)
take_rows_once κs a x y s t p q = both p q
