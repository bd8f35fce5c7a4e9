-- How long the lines of slots and of the totals are.
use Prim.Native.Nat.{ℕ, zero, suc, ◌+◌, ◌*◌}
use mathlib.Core.Path.{◌≡◌, refl, ◌∙◌}
use mathlib.Core.List.{[], ◌∷◌, ◌++◌}
use native.Mathlib.Nat.{suc-mul}
use native.Mathlib.Omega.{arith}
use lib.ListN.{length, length-append, length-replicate}
use Rattle.laws.specs.Lists.{sum}
use Rattle.laws.proofs.Entries.{sum-replicate}
use Rattle.rules.specs.Frames as Frames
use Rattle.rules.specs.States.{State}
use Rattle.rules.specs.Slots.{Shown, release, choose, effect, slot}
use Rattle.rules.specs.Runs.{shows, slot_line, slot_lines, totals_line}
use Rattle.reading_laws.proofs.Frames.{length-frame}
use Rattle.slot_laws.proofs.Placing.{place-length}

-- a slot's line has two digits a core and 15 bytes more
pub length-slot_line : (s : Shown) → length (slot_line s) ≡ 2 * length s.cores + 15
unfolding slot_line
length-slot_line s =
    length-frame (Frames.slot (length s.cores)) (s.slot ∷ s.cores ++ (s.moves ∷ s.misses ∷ []))
    (simp (length-append, length-replicate))
    ∙ omega (arith, sum-replicate (length s.cores) 2 (2 ∷ 2 ∷ []))

-- a slot shows m cores
pub slot_width : (st : State) → length (slot st).shown.cores ≡ st.table.m
unfolding slot effect
slot_width st = place-length st.table.m st.last (choose st.table.m st.ranks (release st.table st.clock st.left))

pub slot-table : (st : State) → (slot st).next.table ≡ st.table
unfolding slot effect
slot-table st = refl

-- the lines of k slots
pub length-slot_lines : (k : ℕ) (st : State) → length (slot_lines k st) ≡ k * (2 * st.table.m + 15)
unfolding slot_lines shows
length-slot_lines zero st = omega arith
length-slot_lines (suc k) st =
    length-append (slot_line (slot st).shown) (slot_lines k (slot st).next)
    ∙ rw (length-slot_line (slot st).shown, slot_width st, length-slot_lines k (slot st).next, slot-table st, suc-mul k) (omega arith)

-- the totals' line
pub length-totals_line : (st : State) → length (totals_line st) ≡ 51
unfolding totals_line
length-totals_line st = length-frame Frames.totals (st.moves ∷ st.misses ∷ sum st.dropped ∷ []) refl
