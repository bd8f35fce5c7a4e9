-- Bytes read as a state: a well-formed state of their own length, or refused. The struct of a well-formed state says that state:
-- what is asked of it is asked of the state, and its bytes are the state's.
use Rattle.std.proofs.Common.{Ok}
use Prim.Native.Nat.{ℕ}
use mathlib.Core.Path.{◌≡◌, refl, sym, ap, subst, ◌∙◌}
use mathlib.Core.Bool.{Bool, true, false, not}
use mathlib.Core.List.{List, [], ◌∷◌}
use lib.Dec.{T, eqb, eqb→eq}
use lib.ListN.{length}
use Rattle.laws.proofs.Tests.{never, of_T}
use Rattle.rules.specs.Refusals.{test, Answer, taken, refused, settle}
use Rattle.rules.specs.Tables.{size}
use Rattle.rules.specs.States.{State}
use Rattle.rules.specs.Forms.{well_formed}
use Rattle.rules.specs.Answers.{state_test}
use Rattle.rules.specs.declared.refusal.Refusal.TheVariants.{BadState}
use Rattle.slot_laws.proofs.Forms.{formed-kept, accepts_of}
use Rattle.machine.specs.Views.{view, pack, padded}
use Rattle.machine.specs.Tables.{Opened}
use Rattle.machine.specs.declared.state.State as Code
use Rattle.machine.specs.Answers.{asked}
use Rattle.machine.proofs.Packing.{view-pack}
use Rattle.machine.proofs.Packed.{kept-sized, struct_formed}
use Rattle.machine.proofs.Starting.{opened}
use Rattle.machine.proofs.Asking.{formed-says, text_well}
use Rattle.stored.specs.Layout.{length_of, store, size_in, decoded, load}
use Rattle.stored.specs.Answers.{state_answer, store_state, stored_state}
use Rattle.stored.proofs.Round.{decoded-size}
use Rattle.tables.specs.Writes.{wrote_text}

-- ---- the struct of a well-formed state

module _ (st : State) (w : T (well_formed st)) where
  says : view (pack st) ≡ st
  says = view-pack st (kept-sized (formed-kept st w))

  pub asked-packed : {A : Type 0} (ask : State → Answer A) → asked (pack st) ask ≡ ask st
  unfolding asked
  asked-packed ask = rw (of_T (padded (pack st)) (formed-says (pack st) (struct_formed st w)).0, says)

  pub stored_packed : (out : List ℕ) (place : ℕ) → stored_state (pack st) out place ≡ wrote_text out place (store st)
  unfolding stored_state store_state
  stored_packed out place =
      sym (text_well (pack st) store out place (length (store (view (pack st)))) refl (struct_formed st w)) ∙ ap (λ (x : State). wrote_text out place (store x)) says

-- ---- bytes

pub data Loads (bs : List ℕ) : Answer State → Type 0 where
  well : (st : State) → T (well_formed st) → length bs ≡ length_of (size st.table) → Loads bs (taken st)
  ill : Loads bs (refused BadState 0)

-- by the length and by the form
by_tests_lem : (bs : List ℕ) (right good : Bool) → (T right → length bs ≡ length_of (size_in bs)) → (T good → T (well_formed (decoded bs)))
    → Loads bs (settle (test (not right) BadState ∷ test (not good) BadState ∷ []) (decoded bs))
by_tests_lem bs true true len formed = well (decoded bs) (formed tt) (len tt ∙ ap length_of (sym (decoded-size bs)))
by_tests_lem bs true false len formed = ill
by_tests_lem bs false good len formed = ill

pub loads : (bs : List ℕ) → Loads bs (load bs)
unfolding load state_test
loads bs = by_tests_lem bs (eqb (length bs) (length_of (size_in bs))) (well_formed (decoded bs)) (eqb→eq (length bs) (length_of (size_in bs))) (λ t. t)

-- ---- a struct that was loaded

-- the state that it says, which the bytes stand for
pub record Loaded (bs : List ℕ) (s : Code.State) : Type 0 where
  pub st : State
  pub read : load bs ≡ taken st
  pub packed : pack st ≡ s
  pub good : T (well_formed st)
  pub long : length bs ≡ length_of (size st.table)

by_loads : {bs : List ℕ} {s : Code.State} {a : Answer State} → Loads bs a → load bs ≡ a → state_answer a ≡ Ok s → Loaded bs s
by_loads (well st good long) read e =
    let same : pack st ≡ _ = cc in
    record { st = st; read = read; packed = same; good = good; long = long }
by_loads ill read e = never cc

pub loaded : (bs : List ℕ) {s : Code.State} → state_answer (load bs) ≡ Ok s → Loaded bs s
loaded bs e = by_loads (loads bs) refl e

module _ {bs : List ℕ} {s : Code.State} (l : Loaded bs s) where
  -- what is asked of the struct is asked of the state
  pub asked_loaded : {A : Type 0} (ask : State → Answer A) → asked s ask ≡ ask l.st
  asked_loaded ask = ap (λ (x : Code.State). asked x ask) (sym l.packed) ∙ asked-packed l.st l.good ask

  -- a run could start with its table
  pub table_opened : Opened s.table
  unfolding pack
  table_opened = subst (λ (x : Code.State). Opened x.table) l.packed (opened l.st.table (accepts_of l.st.table (formed-kept l.st l.good).taken))
