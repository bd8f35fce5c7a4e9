-- `tables::file::read_lines` meets its contract: the header, the rows, and what follows them.
use Rattle.std.proofs.Common.{◌≡◌, sym, ap, ◌∙◌, ℕ, ◌-◌, ◌*◌, List, length, take, drop, arith, Result, Err}
use Rattle.laws.proofs.Tails.{tail_lent}
use Rattle.rules.specs.Files.{read_rows}
use Rattle.rules.specs.declared.refusal.Refused.{Refused}
use Rattle.rules.proofs.Results.{passed_on}
use Rattle.tables.specs.Rows.{rows_read}
use Rattle.tables.specs.declared.table.Row.{Row}
use Rattle.tables.proofs.Headers.{Headed, header-taken}
use Rattle.tables.proofs.Files.{no_header, lines_stop, lines-trailing, lines_end}
use Rattle.tables.proofs.file.read_lines.Goals as goal

-- the rows are read from the lent tail
rows-tail : {text : List ℕ} {m n start : ℕ} {r : Result (List Row) Refused} → Headed text m n → start ≡ 7
    → r ≡ rows_read (read_rows 2 n (take (length text - start) (drop start text))) → rows_read (read_rows 2 n (drop 7 text)) ≡ r
rows-tail {text} {n = n} headed seven e = sym (rw seven at e ∙ ap (λ (t : List ℕ). rows_read (read_rows 2 n t)) (tail_lent text 7 headed.long))

pub returns-in_err-m : goal.returns-in_err-m
returns-in_err-m c = passed_on _ c.from_residual.ensures.1 ∙ no_header _ _ (sym c.read_header.ensures ∙ c.in_err-m.was)

pub slice_bounds-read_rows-count : goal.slice_bounds-read_rows-count
slice_bounds-read_rows-count c = omega (arith, (header-taken _ _ (sym c.read_header.ensures ∙ c.in_ok-m.was)).long)

pub slice_bounds-read_rows-start : goal.slice_bounds-read_rows-start
slice_bounds-read_rows-start c = rw c.bytes-start.ensures (header-taken _ _ (sym c.read_header.ensures ∙ c.in_ok-m.was)).long

pub read_rows-requires : goal.read_rows-requires
read_rows-requires c = (header-taken _ _ (sym c.read_header.ensures ∙ c.in_ok-m.was)).tasks

pub returns-in_err-rows : goal.returns-in_err-rows
returns-in_err-rows c =
    let headed = header-taken _ _ (sym c.read_header.ensures ∙ c.in_ok-m.was) in
    let read = rows-tail headed c.bytes-start.ensures c.read_rows.ensures in
    passed_on _ c.from_residual-in_err-rows.ensures.1 ∙ lines_stop _ _ _ headed _ (read ∙ c.in_err-rows.was)

pub overflow_add-n : goal.overflow_add-n
overflow_add-n c = omega (arith, (header-taken _ _ (sym c.read_header.ensures ∙ c.in_ok-m.was)).tasks)

pub returns-then-end-s : goal.returns-then-end-s
returns-then-end-s c =
    let headed = header-taken _ _ (sym c.read_header.ensures ∙ c.in_ok-m.was) in
    let read = rows-tail headed c.bytes-start.ensures c.read_rows.ensures in
    let eleven = ap (λ (k : ℕ). k * c.in_ok-m.field-0.n.0) c.bytes.ensures in
    ap Err c.at.ensures ∙ lines-trailing _ _ _ headed _ (read ∙ c.in_ok-rows.was) (omega (arith, eleven))

pub returns : goal.returns
returns c =
    let headed = header-taken _ _ (sym c.read_header.ensures ∙ c.in_ok-m.was) in
    let read = rows-tail headed c.bytes-start.ensures c.read_rows.ensures in
    let eleven = ap (λ (k : ℕ). k * c.in_ok-m.field-0.n.0) c.bytes.ensures in
    lines_end _ _ _ headed _ (read ∙ c.in_ok-rows.was) (omega (arith, eleven))
