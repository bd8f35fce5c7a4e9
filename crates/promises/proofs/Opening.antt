-- Tables that are opened from C: by the contracts the bytes are those of the fresh state of a table that is accepted.
use Prim.Native.Nat.{ℕ, ◌≤◌}
use mathlib.Core.Path.{◌≡◌, refl, sym, ap, ◌∙◌}
use mathlib.Core.List.{List}
use native.Mathlib.Omega.{arith}
use lib.Dec.{T}
use lib.ListN.{length, take}
use Rattle.laws.proofs.Tests.{never}
use Rattle.rules.specs.Refusals.{Answer, taken, refused, and_then}
use Rattle.rules.specs.Tables.{Table, size, accepts, take_list}
use Rattle.rules.specs.Files.{read_file}
use Rattle.rules.specs.States.{fresh}
use Rattle.rules.specs.Runs.{after}
use Rattle.rules.specs.Answers.{lay}
use Rattle.reading_laws.proofs.Lays.{lay-holds}
use Rattle.tables.specs.Lists.{list_rows}
use Rattle.stored.specs.Layout.{length_of, store}
use Rattle.stored.proofs.Round.{length-store}
use Rattle.capi.specs.Calls.{Read, Filled, filled, open_table, open_file, open_list, opened}
use Rattle.capi.proofs.Opening.{file_takes, list_takes}
use Rattle.capi.proofs.table.zq_open.Reads as zq-open
use Rattle.capi.proofs.table.zq_open_list.Reads as zq-open-list
use Rattle.promises.specs.Calls.{Call, Opening, by_file, by_list, Held, OpenedAs}
use Rattle.promises.proofs.Replies.{zero-taken, taken-zero, laid-taken, Laid, taken-laid}

fresh-long : (tbl : Table) → length (store (fresh tbl)) ≡ length_of (size tbl)
unfolding fresh
fresh-long tbl = length-store (fresh tbl)

-- ---- an answer with a table, and what opening it answers

abbrev opened_by : List ℕ → Answer Table → Answer Filled
opened_by state a = and_then a (λ tbl. open_table tbl state)

-- what is opened was taken
was_taken : (state : List ℕ) (a : Answer Table) {x : Filled} → opened_by state a ≡ taken x → (tbl : Table) × (a ≡ taken tbl)
was_taken state (taken tbl) e = (tbl, refl)
was_taken state (refused q l) e = never cc

-- what is taken is opened where there is room
is_opened : (state : List ℕ) (a : Answer Table) {tbl : Table} → a ≡ taken tbl → length_of (size tbl) ≤ length state
    → opened_by state a ≡ taken (filled (lay state 0 (store (fresh tbl))) (length (store (fresh tbl))))
unfolding open_table
is_opened state a {tbl} e room = ap (opened_by state) e ∙ laid-taken state 0 (store (fresh tbl)) (omega (arith, fresh-long tbl))

-- and its bytes are those of the fresh state
fresh-held : (state : List ℕ) (a : Answer Table) {tbl : Table} {x : Filled} → a ≡ taken tbl → opened_by state a ≡ taken x → Held tbl 0 (take x.size x.buffer)
unfolding open_table after
fresh-held state a {tbl} {x} e f =
    let w : Laid state 0 (store (fresh tbl)) x = taken-laid state 0 (store (fresh tbl)) (sym (ap (opened_by state) e) ∙ f) in
    record {
      in_time = omega arith;
      says = ap (λ (l : List ℕ). take x.size l) w.buffer ∙ ap (λ (k : ℕ). take k (lay state 0 (store (fresh tbl)))) w.size ∙ lay-holds state 0 (store (fresh tbl)) w.room;
    }

opened_by_lem : (state : List ℕ) (a : Answer Table) → ((tbl : Table) → a ≡ taken tbl → T (accepts tbl)) → {x : Filled} → opened_by state a ≡ taken x → OpenedAs a (take x.size x.buffer)
opened_by_lem state a takes e =
    let w = was_taken state a e in
    record { tbl = w.0; is = w.1; accepted = takes w.0 w.1; held = fresh-held state a w.1 e }

-- ---- `zq_open`

module _ (o : Call zq-open.Post) where
  abbrev file : List ℕ
  file = o.args.0.now

  abbrev file-state : List ℕ
  file-state = o.args.1.0.now

  file-answer : o.result ≡ 0 → opened_by file-state (read_file file) ≡ taken (filled o.exits.1.0.now o.exits.1.1.0.now)
  unfolding opened open_file
  file-answer zero = zero-taken _ (open_file file file-state) (ap (λ (x : Read). x.answer) o.permitted) zero

  -- a file that is opened was taken, and the bytes are those of its table's fresh state
  pub file-opened : o.result ≡ 0 → OpenedAs (read_file o.args.0.now) (take o.exits.1.1.0.now o.exits.1.0.now)
  file-opened zero = opened_by_lem file-state (read_file file) (file_takes file) (file-answer zero)

  -- and one that is taken is opened where there is room for its state
  pub file_opens : {tbl : Table} → read_file file ≡ taken tbl → length_of (size tbl) ≤ length file-state → o.result ≡ 0
  unfolding opened open_file
  file_opens e room =
      taken-zero _ (open_file file file-state) (ap (λ (x : Read). x.answer) o.permitted) (is_opened file-state (read_file file) e room)

-- ---- `zq_open_list`

module _ (o : Call zq-open-list.Post) where
  abbrev list : Answer Table
  list = take_list o.args.0 (list_rows o.args.1.0.now)

  abbrev list_state : List ℕ
  list_state = o.args.1.1.0.now

  list_answer : o.result ≡ 0 → opened_by list_state list ≡ taken (filled o.exits.1.1.0.now o.exits.1.1.1.0.now)
  unfolding open_list
  list_answer zero = zero-taken _ (open_list o.args.0 (list_rows o.args.1.0.now) list_state) o.permitted zero

  pub list_opened : o.result ≡ 0 → OpenedAs (take_list o.args.0 (list_rows o.args.1.0.now)) (take o.exits.1.1.1.0.now o.exits.1.1.0.now)
  list_opened zero = opened_by_lem list_state list (list_takes o.args.0 (list_rows o.args.1.0.now)) (list_answer zero)

  pub list_opens : {tbl : Table} → take_list o.args.0 (list_rows o.args.1.0.now) ≡ taken tbl → length_of (size tbl) ≤ length list_state → o.result ≡ 0
  unfolding open_list
  list_opens e room = taken-zero _ (open_list o.args.0 (list_rows o.args.1.0.now) list_state) o.permitted (is_opened list_state list e room)

-- ---- either way

-- the table is accepted
pub opening-accepted : {tbl : Table} {bytes : List ℕ} → Opening tbl bytes → T (accepts tbl)
opening-accepted {tbl} (by_file o zero e) = file_takes o.args.0.now tbl e
opening-accepted {tbl} (by_list o zero e) = list_takes o.args.0 (list_rows o.args.1.0.now) tbl e

-- and the bytes are those of its fresh state
pub opening-held : {tbl : Table} {bytes : List ℕ} → Opening tbl bytes → Held tbl 0 bytes
opening-held (by_file o zero e) = fresh-held (file-state o) (read_file (file o)) e (file-answer o zero)
opening-held (by_list o zero e) = fresh-held (list_state o) (list o) e (list_answer o zero)
