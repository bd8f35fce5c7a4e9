-- A run of slots: one slot more at its end or a count of them, what no slot changes, and what it shows slot by slot.
use Prim.Native.Nat.{ℕ, zero, suc, ◌+◌}
use mathlib.Core.Path.{◌≡◌, refl, sym, ap, ◌∙◌}
use mathlib.Core.List.{List, ◌∷◌, ◌++◌, map}
use native.Mathlib.Nat.{zero-add, add-suc, suc-add}
use Rattle.laws.specs.Lists.{from}
use Rattle.laws.proofs.Sums.{map-from-suc}
use Rattle.rules.specs.States.{State}
use Rattle.rules.specs.Slots.{Shown, slot, effect}
use Rattle.rules.specs.Runs.{after, shows}

-- one slot more is the slot of the state at the end
pub after-suc : (k : ℕ) (st : State) → after (suc k) st ≡ (slot (after k st)).next
unfolding after
after-suc zero st = refl
after-suc (suc k) st = after-suc k (slot st).next

-- b slots, and a count of them more
pub after_more : (b count : ℕ) (st : State) → after count (after b st) ≡ after (b + count) st
unfolding after
after_more zero count st = rw zero-add
after_more (suc b) count st = after_more b count (slot st).next ∙ sym (ap (λ (k : ℕ). after k st) (suc-add b count))

pub shows_more : (b count : ℕ) (st : State) → shows (b + count) st ≡ shows b st ++ shows count (after b st)
unfolding after shows
shows_more zero count st = rw zero-add
shows_more (suc b) count st = ap (λ (k : ℕ). shows k st) (suc-add b count) ∙ ap (λ (l : List Shown). (slot st).shown ∷ l) (shows_more b count (slot st).next)

-- a run changes neither the table nor the order
pub after_table : (k : ℕ) (st : State) → (after k st).table ≡ st.table
unfolding after slot effect
after_table zero st = refl
after_table (suc k) st = after_table k (slot st).next

pub after-ranks : (k : ℕ) (st : State) → (after k st).ranks ≡ st.ranks
unfolding after slot effect
after-ranks zero st = refl
after-ranks (suc k) st = after-ranks k (slot st).next

-- k slots take the clock k on
pub after-clock : (k : ℕ) (st : State) → (after k st).clock ≡ k + st.clock
unfolding after slot effect
after-clock zero st = rw zero-add
after-clock (suc k) st = after-clock k (slot st).next ∙ rw (add-suc, suc-add)

-- what k slots show, slot by slot
pub shows-each : (k : ℕ) (st : State) → shows k st ≡ map (λ s. (slot (after s st)).shown) (from 0 k)
unfolding shows after
shows-each zero st = refl
shows-each (suc k) st = ap (λ (l : List Shown). (slot st).shown ∷ l) (shows-each k (slot st).next ∙ sym (map-from-suc (λ s. (slot (after s st)).shown) 0 k))
