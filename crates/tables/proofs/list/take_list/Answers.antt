-- `tables::list::take_list` meets its contract: m and n, then the rows in order, then all of them together.
use Rattle.std.proofs.Common.{◌≡◌, sym, ap, ◌∙◌, ℕ, List, length, Ok}
use Rattle.rules.specs.Refusals.{settle}
use Rattle.rules.specs.Tables.{whole_tests, take_list}
use Rattle.rules.specs.declared.kinds.Cores.{Cores}
use Rattle.rules.specs.declared.kinds.Tasks.{Tasks}
use Rattle.rules.proofs.Results.{passed_on}
use Rattle.tables.specs.Views.{pack, table_answer}
use Rattle.tables.specs.Rows.{rows_answer}
use Rattle.tables.specs.Lists.{list_rows, test_rows}
use Rattle.tables.specs.declared.table.Row.{Row}
use Rattle.tables.proofs.Views.{view-pack, packed-formed}
use Rattle.tables.proofs.Lists.{HeaderPassed, header-good, few_tasks, list_stops, list_rows_stop, list_rows_end, list_table}
use Rattle.tables.proofs.list.take_list.Goals as goal

-- a list of which every row was taken: the struct of its table, and the tests that are left
record Told (m : ℕ) (list : List (List ℕ)) (a : Cores) (b : Tasks) (rows : List Row) : Type 0 where
  made : record { m = a; n = b; rows = rows } ≡ pack (record { m = m; rows = list_rows list })
  left : take_list m (list_rows list) ≡ settle (whole_tests (list_rows list)) (record { m = m; rows = list_rows list })

told-of : {m : ℕ} {list : List (List ℕ)} {a : Cores} {b : Tasks} {rows : List Row} → HeaderPassed m (length list) a b
    → rows_answer (test_rows (list_rows list)) ≡ Ok rows → Told m list a b rows
told-of {list = list} {rows = rows} passed e =
    let ended = list_rows_end _ list passed.passed rows e in
    record { made = list_table _ list _ _ _ passed ended.0; left = ended.1 }

pub returns-in_err-m : goal.returns-in_err-m
returns-in_err-m c = passed_on _ c.from_residual.ensures.1 ∙ list_stops _ c.args.list.now _ (sym c.test_header.ensures ∙ c.in_err-m.was)

pub test_rows-requires : goal.test_rows-requires
test_rows-requires c = few_tasks _ _ (header-good _ _ _ (sym c.test_header.ensures ∙ c.in_ok-m.was)).passed

pub returns-in_err-rows : goal.returns-in_err-rows
returns-in_err-rows c =
    let passed = header-good _ _ _ (sym c.test_header.ensures ∙ c.in_ok-m.was) in
    passed_on _ c.from_residual-in_err-rows.ensures.1 ∙ list_rows_stop _ c.args.list.now passed.passed _ (sym c.test_rows.ensures ∙ c.in_err-rows.was)

pub test_whole-requires : goal.test_whole-requires
test_whole-requires c =
    let passed = header-good _ _ _ (sym c.test_header.ensures ∙ c.in_ok-m.was) in
    rw (told-of passed (sym c.test_rows.ensures ∙ c.in_ok-rows.was)).made (packed-formed _)

pub returns : goal.returns
returns c =
    let passed = header-good _ _ _ (sym c.test_header.ensures ∙ c.in_ok-m.was) in
    let list = told-of passed (sym c.test_rows.ensures ∙ c.in_ok-rows.was) in
    c.test_whole.ensures ∙ rw (list.made, view-pack _) (ap table_answer (sym list.left))
