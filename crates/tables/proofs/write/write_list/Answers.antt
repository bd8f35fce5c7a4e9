-- `tables::write::write_list` meets its contract: the tests of the list, then room, then the text.
use Rattle.std.proofs.Common.{◌≡◌, sym, ap, ◌∙◌, ℕ, ◌+◌, ◌*◌, ◌-◌, List, ◌++◌, length, take, drop, length-take, length-drop, min, arith, Result, Ok}
use borrow.Rule.Slice.PartMut.{put_mid}
use Rattle.rules.specs.Rows.{Row}
use Rattle.rules.specs.Files.{text}
use Rattle.rules.specs.Tables as Tables
use Rattle.rules.specs.Tables.{take_list}
use Rattle.rules.specs.declared.refusal.Refusal.{Refusal}
use Rattle.rules.proofs.Results.{passed_on, room_there}
use Rattle.tables.specs.Views.{pack, view, table_answer}
use Rattle.tables.specs.Writes.{made}
use Rattle.tables.specs.declared.table.Table.{Table}
use Rattle.tables.proofs.Views.{view-pack}
use Rattle.tables.proofs.Writes.{list_refused, taken-table, taken-few, no_room, room_given}
use Rattle.tables.proofs.write.write_list.Goals as goal

-- a list that `take_list` took, and the text of its table has n bytes
record Told (m : ℕ) (rows : List Row) (t : Table) (n : ℕ) : Type 0 where
  told : table_answer (take_list m rows) ≡ Ok t
  bytes : n ≡ 7 + 11 * length rows
  viewed : view t ≡ record { m = m; rows = rows }

told-of : {m : ℕ} {rows : List Row} {t : Table} {n head row : ℕ} → table_answer (take_list m rows) ≡ Ok t → n ≡ min t.n.0 64
    → head ≡ 7 → row ≡ 11 → Told m rows t (head + row * n)
unfolding pack
told-of {m} {rows} {t} {n} told counted seven eleven =
    let table_is = taken-table m rows t told in
    let count : n ≡ length rows = counted ∙ ap (λ (t : Table). min t.n.0 64) table_is ∙ omega (arith, taken-few m rows t told) in
    record { told = told; bytes = rw (seven, eleven, count); viewed = ap view table_is ∙ view-pack _ }

pub returns-in_err-table : goal.returns-in_err-table
returns-in_err-table c =
    ap (λ (a : Result ℕ Refusal). made a c.args.out.now) (passed_on _ c.from_residual.ensures.1)
    ∙ list_refused _ _ _ _ _ (sym c.take_list.ensures ∙ c.in_err-table.was)

pub returns-in_err-room : goal.returns-in_err-room
returns-in_err-room c =
    let list = told-of (sym c.take_list.ensures ∙ c.in_ok-table.was) c.rows_of.ensures c.bytes.ensures c.bytes-2.ensures in
    ap (λ (a : Result ℕ Refusal). made a c.args.out.now) (passed_on _ c.from_residual-in_err-room.ensures.1)
    ∙ no_room _ _ _ list.told _ _ (rw (← list.bytes) (sym c.room.ensures ∙ c.in_err-room.was))

pub write_table-requires : goal.write_table-requires
write_table-requires c =
    let list = told-of (sym c.take_list.ensures ∙ c.in_ok-table.was) c.rows_of.ensures c.bytes.ensures c.bytes-2.ensures in
    let place = c.args.place in
    let out = c.args.out.now in
    omega (
      arith,
      room_there _ _ _ (sym c.room.ensures ∙ c.in_ok-room.was),
      list.bytes,
      ap (λ (t : Tables.Table). length t.rows) list.viewed,
      length-take (length out - place) (drop place out),
      length-drop place out,
    )

pub returns : goal.returns
returns c =
    let list = told-of (sym c.take_list.ensures ∙ c.in_ok-table.was) c.rows_of.ensures c.bytes.ensures c.bytes-2.ensures in
    let place = c.args.place in
    let out = c.args.out.now in
    let tail = c.write_table.new.out in
    let part = take (length out - place) (drop place out) in
    ap (λ (k : ℕ). made (Ok k) (put_mid place (length out - place) out tail)) list.bytes
    ∙ room_given _ _ _ list.told out place tail (rw (← list.bytes) (sym c.room.ensures ∙ c.in_ok-room.was))
    (c.write_table.ensures ∙ ap (λ (t : Tables.Table). text t ++ drop (7 + 11 * length t.rows) part) list.viewed)
