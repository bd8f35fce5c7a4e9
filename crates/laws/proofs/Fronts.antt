-- Lists kept at the front of a longer list that is filled up with one value: what is put there is found there again.
use Prim.Native.Nat.{ℕ, zero, suc, ◌+◌, ◌-◌, ◌≤◌, ◌<◌}
use mathlib.Core.Path.{◌≡◌, refl, sym, ap, ◌∙◌}
use mathlib.Core.List.{List, [], ◌∷◌, ◌++◌, map, map-map, map-append}
use native.Mathlib.Omega.{arith}
use lib.ListN.{length, get_or, take, drop, set, replicate, length-append, length-map, length-drop, length-replicate, get_or-replicate, take-append-drop}
use lib.Seq.{take_at, set_at, append_snoc, get_or-append-add, length-take-le, get_or-drop, ext_get_or}

map_back : {A : Type 0} (f : A → A) → ((x : A) → f x ≡ x) → (l : List A) → map f l ≡ l
map_back f h [] = refl
map_back f h (x ∷ xs) = rw (h x, map_back f h xs)

module _ {A B : Type 0} (into : B → A) (out : A → B) where
  -- the list that was put there
  pub front_back : ((b : B) → out (into b) ≡ b) → (l : List B) (pad : List A) (n : ℕ) → length l ≡ n → map out (take n (map into l ++ pad)) ≡ l
  front_back h l pad n e =
      ap (map out) (take_at (map into l) pad n (length-map l into ∙ e)) ∙ map-map out into l ∙ map_back (λ b. out (into b)) h l

  -- the longer list, where all past the front is the one value
  pub filled_back : ((a : A) → into (out a) ≡ a) → (d : A) (n size : ℕ) (a : List A) → n ≤ size → length a ≡ size
      → ((k : ℕ) → n ≤ k → k < size → get_or a k d ≡ d)
      → map into (map out (take n a)) ++ replicate (size - length (map out (take n a))) d ≡ a
  filled_back h d n size a few long past =
      let front : map into (map out (take n a)) ≡ take n a = map-map into out (take n a) ∙ map_back (λ x. into (out x)) h (take n a) in
      let count : length (map out (take n a)) ≡ n = length-map (take n a) out ∙ length-take-le n a (omega arith) in
      let sizes : length (replicate (size - n) d) ≡ length (drop n a) = length-replicate (size - n) d ∙ omega (arith, length-drop n a) in
      let rest : replicate (size - n) d ≡ drop n a =
      ext_get_or d (replicate (size - n) d) (drop n a) sizes (λ k l.
      let l' : k < size - n = omega (arith, length-replicate (size - n) d) in
      get_or-replicate (size - n) k d d l' ∙ sym (past (n + k) (omega arith) (omega arith)) ∙ sym (get_or-drop n a k d))
      in
      rw (front, count, rest) (take-append-drop n a)

-- a list at the front, and one value after it
abbrev pub front : {A B : Type 0} → (B → A) → A → ℕ → List B → List A
front into d size l = map into l ++ replicate (size - length l) d

module _ {A B : Type 0} (into : B → A) (d : A) (size : ℕ) where
  -- one entry more, where the first of the equal values stood
  pub front_more : (l : List B) (b : B) (i : ℕ) → length l ≡ i → i < size → set (front into d size l) i (into b) ≡ front into d size (l ++ (b ∷ []))
  front_more l b i len less =
      let left : ℕ = size - (i + 1) in
      let before : size - length l ≡ suc left = omega arith in
      let after : size - length (l ++ (b ∷ [])) ≡ left = omega (arith, length-append l (b ∷ [])) in
      rw (before, after, map-append, set_at (map into l) d (replicate left d) (into b) i (length-map l into ∙ len))
      (sym (append_snoc (map into l) (into b) (replicate left d)))

  -- past the front stands the one value
  pub front_past : (l : List B) (k : ℕ) → length l ≤ k → get_or (front into d size l) k d ≡ d
  front_past l k past =
      let e : k ≡ length (map into l) + (k - length l) = omega (arith, length-map l into) in
      ap (λ (j : ℕ). get_or (front into d size l) j d) e ∙ get_or-append-add (map into l) _ (k - length l) d ∙ everywhere (size - length l) (k - length l)
    where
      everywhere : (n j : ℕ) → get_or (replicate n d) j d ≡ d
      everywhere zero j = refl
      everywhere (suc n) zero = refl
      everywhere (suc n) (suc j) = everywhere n j
