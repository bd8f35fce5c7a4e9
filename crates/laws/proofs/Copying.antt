-- A walk along a list that puts f of each entry into the same place of another: what the other is after i steps.
use Prim.Native.Nat.{ℕ, zero, suc, ◌+◌, ◌<◌}
use mathlib.Core.Path.{◌≡◌, refl, sym, ap, ◌∙◌}
use mathlib.Core.List.{List, [], ◌∷◌, ◌++◌, map, map-append}
use native.Mathlib.Numerals.{add-one}
use native.Mathlib.Omega.{arith}
use lib.ListN.{length, get_or, take, drop, set, replicate, length-map}
use lib.Seq.{take-suc, drop-cons, length-take-le, set_at, append_snoc}

-- after i steps
abbrev pub copied : {A B : Type 0} → (A → B) → List A → List B → ℕ → List B
copied f xs before i = map f (take i xs) ++ drop i before

module _ {A B : Type 0} (f : A → B) (d : A) (e : B) (xs : List A) (before : List B) (i : ℕ) where
  -- one step
  pub copied_turn : {cur : List B} {v : B} → i < length xs → i < length before → cur ≡ copied f xs before i → v ≡ f (get_or xs i d)
      → set cur i v ≡ copied f xs before (i + 1)
  copied_turn {cur} {v} more room at here =
      let front : List B = map f (take i xs) in
      let long : length front ≡ i = length-map (take i xs) f ∙ length-take-le i xs (omega arith) in
      let put : set cur i v ≡ front ++ v ∷ drop (suc i) before =
      ap (λ (l : List B). set l i v) (at ∙ ap (λ (l : List B). front ++ l) (drop-cons before i e room)) ∙ set_at front (get_or before i e) (drop (suc i) before) v i long
      in
      let one : map f (take (suc i) xs) ≡ front ++ (f (get_or xs i d) ∷ []) = ap (map f) (take-suc xs i d more) ∙ map-append f (take i xs) (get_or xs i d ∷ []) in
      put ∙ rw (add-one, one, here) (sym (append_snoc front (f (get_or xs i d)) (drop (suc i) before)))

-- f of each entry of a list of one value
pub map-replicate : {A B : Type 0} (f : A → B) (k : ℕ) (a : A) → map f (replicate k a) ≡ replicate k (f a)
map-replicate f zero a = refl
map-replicate f (suc k) a = ap (λ (l : List _). f a ∷ l) (map-replicate f k a)
