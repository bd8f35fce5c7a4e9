-- The round trips of the structs: a state that was stored is loaded as the same struct, and a state that was loaded is stored as
-- the same bytes.
use Rattle.std.proofs.Common.{Ok}
use Prim.Native.Nat.{ℕ}
use mathlib.Core.Path.{◌≡◌, refl, ap, ◌∙◌}
use mathlib.Core.Bool.{true}
use mathlib.Core.List.{List}
use lib.Dec.{T}
use Rattle.laws.proofs.Tests.{never, and_left, and_right, to_T}
use Rattle.rules.specs.Refusals.{Answer, taken, refused}
use Rattle.rules.specs.States as States
use Rattle.rules.specs.Forms.{well_formed}
use Rattle.slot_laws.proofs.Forms.{Kept, formed-kept}
use Rattle.machine.specs.Full.{Full}
use Rattle.machine.specs.Views.{view, pack, padded, formed}
use Rattle.machine.specs.declared.state.State.{State}
use Rattle.machine.proofs.Packing.{pack-view, view-pack}
use Rattle.machine.proofs.Packed.{kept-sized, struct_formed}
use Rattle.stored.specs.Layout.{store, load}
use Rattle.stored.specs.Answers.{state_answer}
use Rattle.stored.proofs.Numbers.{Bytes}
use Rattle.stored.proofs.Round.{stored_loads, loaded_stores}

-- what is stored of a well-formed struct is loaded as that struct
pub struct_back : (s : State) → Full s → T (formed s) → state_answer (load (store (view s))) ≡ Ok s
unfolding formed
struct_back s full good =
    rw (stored_loads (view s) (and_right (padded s) (well_formed (view s)) good))
    (ap Ok (pack-view s (and_left (padded s) (well_formed (view s)) good) full))

-- what an answer took
taken_of : (a : Answer States.State) (s : State) → state_answer a ≡ Ok s → (st : States.State) × (a ≡ taken st) × (pack st ≡ s)
taken_of (taken st) s e = (st, refl, cc)
taken_of (refused r l) s e = never cc

-- what is loaded as a struct stores as the same bytes, and is well formed
pub bytes_back : (bs : List ℕ) → Bytes bs → (s : State) → state_answer (load bs) ≡ Ok s → (store (view s) ≡ bs) × T (formed s)
bytes_back bs small s e =
    let found : (st : States.State) × (load bs ≡ taken st) × (pack st ≡ s) = taken_of (load bs) s e in
    let st : States.State = found.0 in
    let same : (store st ≡ bs) × T (well_formed st) = loaded_stores bs small st found.1 in
    let kept : Kept st = formed-kept st same.1 in
    let says : view (pack st) ≡ st = view-pack st (kept-sized kept) in
    let good : formed (pack st) ≡ true = struct_formed st same.1 in
    rw (← found.2) (ap store says ∙ same.0, to_T good)
