-- What the analysis of a table struct says: whether the table is accepted, and its order.
use Rattle.std.proofs.Common.{Result, Ok, Err}
use Prim.Native.Nat.{ℕ, ◌≤◌}
use mathlib.Core.Path.{◌≡◌, refl, sym, ap, ◌∙◌}
use mathlib.Core.Bool.{Bool, true, false}
use mathlib.Core.List.{List}
use mathlib.Core.Option.{none}
use lib.Dec.{T}
use lib.ListN.{length}
use Rattle.laws.proofs.Tests.{of_T}
use Rattle.rules.specs.Limits.{tasks_max}
use Rattle.rules.specs.Refusals.{passes, first, settle}
use Rattle.rules.specs.Tables.{accepts, list_tests}
use Rattle.rules.specs.Verdicts.{order}
use Rattle.rules.specs.declared.kinds.TaskNumber.{TaskNumber}
use Rattle.rules.specs.declared.refusal.Refused.{Refused}
use Rattle.rules.proofs.Results.{answered_ok, answered_err}
use Rattle.reading_laws.proofs.Tests.{passes_none, none_passes}
use Rattle.tables.specs.Views as Tables
use Rattle.tables.specs.declared.table.Table.{Table}
use Rattle.verdicts.specs.Structs.{lines_tests, struct_tests, pack_ranks, priority_answer}
use Rattle.machine.specs.Views.{task_number, packed}
use Rattle.machine.proofs.Viewing.{size-view}

-- the order as an array
pub order-packed : (ranks : List ℕ) → pack_ranks ranks ≡ packed task_number ranks
unfolding pack_ranks packed
order-packed ranks = refl

module _ (t : Table) (full : length t.rows ≡ tasks_max) (few : t.n.0 ≤ tasks_max) where
  same_tests : accepts (Tables.view t) ≡ passes (struct_tests t)
  unfolding accepts list_tests struct_tests lines_tests
  same_tests =
      let cores : (Tables.view t).m ≡ t.m.0 = unfold Tables.view in refl in
      rw (size-view t full few, cores)

  -- the analysis is taken exactly where the table is accepted
  pub analysis_accepted : T (accepts (Tables.view t)) → first (struct_tests t) ≡ none
  analysis_accepted a = passes_none (struct_tests t) (rw same_tests at a)

  module _ {p : Result (List TaskNumber) Refused} (is : p ≡ priority_answer (settle (struct_tests t) (order (Tables.view t)))) where
    pub taken-accepts : {ranks : List TaskNumber} → p ≡ Ok ranks → accepts (Tables.view t) ≡ true
    taken-accepts e =
        let none = (answered_ok pack_ranks (first (struct_tests t)) (order (Tables.view t)) (sym is ∙ e)).0 in
        same_tests ∙ of_T (passes (struct_tests t)) (none_passes (struct_tests t) none)

    pub refused-accepts : {e : Refused} → p ≡ Err e → accepts (Tables.view t) ≡ false
    refused-accepts {e} h = by_test (accepts (Tables.view t)) refl
      where
        by_test : (b : Bool) → accepts (Tables.view t) ≡ b → b ≡ false
        by_test true a =
            let some_one = (answered_err pack_ranks (first (struct_tests t)) (order (Tables.view t)) (sym is ∙ h)).0 in
            let no_one = analysis_accepted (rw a tt) in
            cc
        by_test false a = refl

    -- its order is the table's
    pub taken-ranks : {ranks : List TaskNumber} → p ≡ Ok ranks → ranks ≡ packed task_number (order (Tables.view t))
    taken-ranks e =
        sym (answered_ok pack_ranks (first (struct_tests t)) (order (Tables.view t)) (sym is ∙ e)).1 ∙ order-packed (order (Tables.view t))

    -- and is there where no test is failed
    pub ranks-there : first (struct_tests t) ≡ none → p ≡ Ok (packed task_number (order (Tables.view t)))
    ranks-there e = is ∙ rw e (ap Ok (order-packed (order (Tables.view t))))
