-- A table that was taken, opened: the bytes of its fresh state.
use Rattle.std.proofs.Common.{Result, Ok}
use Prim.Native.Nat.{ℕ, ◌+◌}
use mathlib.Core.Path.{◌≡◌, refl, sym, ap, subst, ◌∙◌}
use mathlib.Core.Bool.{Bool, true, false, cond}
use mathlib.Core.List.{List}
use mathlib.Core.Option.{none, some}
use lib.Dec.{T, ltb}
use lib.ListN.{length}
use Rattle.rules.specs.Refusals.{Answer, taken, refused, answered, and_then}
use Rattle.rules.specs.Rows.{Row}
use Rattle.rules.specs.Tables.{Table, list_tests, accepts, take_list}
use Rattle.rules.specs.Files.{read_file}
use Rattle.rules.specs.States.{fresh}
use Rattle.rules.specs.Answers.{lay, room_test}
use Rattle.rules.specs.declared.refusal.Refusal.{Refusal}
use Rattle.rules.specs.declared.refusal.Refusal.TheVariants.{NoRoom}
use Rattle.rules.specs.declared.refusal.Refused.{Refused}
use Rattle.rules.proofs.Results.{reply_ok}
use Rattle.reading_laws.proofs.Tests.{settle-taken, accepts-iff}
use Rattle.reading_laws.proofs.Files.{written_read}
use Rattle.slot_laws.proofs.Books.{fresh-formed}
use Rattle.tables.specs.Views as Tables
use Rattle.tables.specs.Views.{table_answer}
use Rattle.tables.specs.Writes.{made, wrote_text}
use Rattle.tables.specs.declared.table.Table as TableDeclared
use Rattle.tables.proofs.Views.{view-pack}
use Rattle.machine.specs.Tables.{Opened}
use Rattle.machine.specs.Views.{pack}
use Rattle.machine.specs.declared.state.State as StateDeclared
use Rattle.machine.proofs.Starting.{opened}
use Rattle.stored.specs.Layout.{store}
use Rattle.stored.specs.Answers.{stored_state}
use Rattle.capi.specs.Calls.{reply, replied, filled, sized, laid, open_table, line_of}
use Rattle.capi.specs.Answers.{numbered, line_in, Startable, fresh_of}
use Rattle.capi.proofs.Replying.{text-replied, refusal-replied}
use Rattle.capi.proofs.Loading.{stored_packed}

-- ---- the fresh state of a struct that a run can start with, stored

pub fresh_stored : (t : TableDeclared.Table) → Opened t → (s : StateDeclared.State) → s ≡ pack (fresh (Tables.view t)) → (state : List ℕ)
    → stored_state s state 0 ≡ fresh_of (Ok t) state
unfolding fresh_of
fresh_stored t o s e state =
    let good : T (accepts (Tables.view t)) = (accepts-iff (Tables.view t)).1 o.sound.bounds in
    ap (λ (x : StateDeclared.State). stored_state x state 0) e ∙ stored_packed (fresh (Tables.view t)) (fresh-formed (Tables.view t) good) state 0

-- ---- an answer that takes accepted tables alone

abbrev Takes : Answer Table → Type 0
Takes a = (tbl : Table) → a ≡ taken tbl → T (accepts tbl)

pub file_takes : (file : List ℕ) → Takes (read_file file)
file_takes file tbl e = (written_read file tbl e).1

pub list_takes : (m : ℕ) (rows : List Row) → Takes (take_list m rows)
unfolding take_list accepts
list_takes m rows tbl e =
    let passed = settle-taken (list_tests m rows) (record { m = m; rows = rows }) tbl e in
    subst (λ (x : Table). T (accepts x)) passed.1 passed.0

-- ---- the struct of such an answer

-- a run can start with its table
pub takes_startable : (a : Answer Table) → Takes a → {x : Result TableDeclared.Table Refused} → x ≡ table_answer a → Startable x
takes_startable a h e t told =
    let w = reply_ok Tables.pack a (sym e ∙ told) in
    subst Opened w.2 (opened w.0 (h w.0 w.1))

-- what its fresh state leaves, and the number
module _ (a : Answer Table) (state : List ℕ) (before : ℕ) {w : Result ℕ Refusal} {state' : List ℕ} {number size : ℕ} (settled : reply number size ≡ numbered before w) where
  replied-fresh : (b : Answer Table) → made w state' ≡ fresh_of (table_answer b) state
      → reply number (filled state' size) ≡ replied (filled state before) (and_then b (λ tbl. open_table tbl state))
  unfolding fresh_of open_table
  replied-fresh (taken tbl) f =
      text-replied state before settled 0 (store (fresh tbl)) (f ∙ ap (λ (y : Table). wrote_text state 0 (store (fresh y))) (view-pack tbl))
  replied-fresh (refused r l) f = refusal-replied state before settled r l f

  pub open_replied : {x : Result TableDeclared.Table Refused} → x ≡ table_answer a → made w state' ≡ fresh_of x state
      → reply number (filled state' size) ≡ replied (filled state before) (and_then a (λ tbl. open_table tbl state))
  open_replied e f = replied-fresh a (f ∙ ap (λ (y : Result TableDeclared.Table Refused). fresh_of y state) e)

-- a text that has no room is refused at no line
no_line : (b : Bool) (size : ℕ) (buffer : List ℕ) → line_of (sized size (answered (cond b (some NoRoom) none) buffer)) ≡ 0
unfolding line_of sized
no_line true size buffer = refl
no_line false size buffer = refl

pub open_line : (a : Answer Table) (state : List ℕ) → line_in (table_answer a) ≡ line_of (and_then a (λ tbl. open_table tbl state))
unfolding open_table laid room_test line_of
open_line (taken tbl) state =
    let bytes : List ℕ = store (fresh tbl) in
    sym (no_line (ltb (length state) (0 + length bytes)) (length bytes) (lay state 0 bytes))
open_line (refused r l) state = refl
