-- A number written to a base from its last place back, one place at a time: what one more place does to what is written.
use Prim.Native.Nat.{ℕ, zero, suc, ◌-◌, ◌/◌, ◌%◌, ◌≤◌, ◌<◌}
use mathlib.Core.Path.{◌≡◌, refl, sym, ap, ◌∙◌}
use mathlib.Core.List.{List, [], ◌∷◌, ◌++◌}
use native.Mathlib.Omega.{arith}
use lib.ListN.{length, drop, set, length-append, length-set}
use lib.Seq.{drop-cons, drop-set-lt, get_or-set_same, append_snoc}
use Rattle.laws.specs.Places.{places}

module _ (base : ℕ) (sign : ℕ → ℕ) where
  -- a number in w places is w bytes long
  pub length-places : (w v : ℕ) → length (places base sign w v) ≡ w
  unfolding places
  length-places zero v = refl
  length-places (suc w) v = length-append (places base sign w (v / base)) (sign (v % base) ∷ []) ∙ omega (arith, length-places w (v / base))

  -- the last places stand where they belong, and v, in i places, has yet to go before them
  pub record Writing (out₀ : List ℕ) (width v₀ : ℕ) (out : List ℕ) (v i : ℕ) : Type 0 where
    pub room : i ≤ length out
    pub kept : length out ≡ length out₀
    pub same : places base sign i v ++ drop i out ≡ places base sign width v₀ ++ drop width out₀

module _ {base : ℕ} {sign : ℕ → ℕ} {out₀ : List ℕ} {width v₀ : ℕ} {out : List ℕ} {v i : ℕ} (w : Writing base sign out₀ width v₀ out v i) where
  -- one more place is written, the last one first
  pub writing_goes_on : 0 < i → Writing base sign out₀ width v₀ (set out (i - 1) (sign (v % base))) (v / base) (i - 1)
  unfolding places
  writing_goes_on h =
      let k : ℕ = i - 1 in
      let last : ℕ = sign (v % base) in
      let e : suc k ≡ i = omega arith in
      let here : k < length out = omega arith in
      let tail : drop k (set out k last) ≡ last ∷ drop (suc k) out =
      rw (drop-cons (set out k last) k 0 (rw length-set here), get_or-set_same out k last 0 here, drop-set-lt (suc k) out k last (omega arith))
      in
      record {
        room = rw length-set (omega arith);
        kept = rw length-set w.kept;
        same =
            ap (λ (l : List ℕ). places base sign k (v / base) ++ l) tail
            ∙ sym (append_snoc (places base sign k (v / base)) last (drop (suc k) out))
            ∙ ap (λ (n : ℕ). places base sign n v ++ drop n out) e
            ∙ w.same;
      }

  -- all places are written
  pub writing_ends : i ≤ 0 → out ≡ places base sign width v₀ ++ drop width out₀
  unfolding places
  writing_ends h =
      let e : i ≡ 0 = omega arith in
      rw e at w.same
