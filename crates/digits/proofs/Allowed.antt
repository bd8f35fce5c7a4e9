-- Signs that are allowed for their numbers, written from the last place back: what one more place does to what is written.
use Prim.Native.Nat.{ℕ, suc, ◌-◌, ◌/◌, ◌%◌, ◌≤◌, ◌<◌}
use mathlib.Core.Path.{◌≡◌, refl, sym, ap, subst, ◌∙◌}
use mathlib.Core.List.{List, [], ◌∷◌, ◌++◌, append-nil}
use native.Mathlib.Nat.{mod-lt}
use native.Mathlib.Omega.{arith}
use lib.ListN.{length, drop, set, length-append, length-set}
use lib.Seq.{drop-cons, drop-set-lt, get_or-set_same, append_snoc}
use Rattle.laws.specs.Places.{places}
use Rattle.digits.specs.Signs.{Signs, Allowed, none, more}

-- there is one for each place
pub length-allowed : {base : ℕ} {gives : ℕ → ℕ → Type 0} {w v : ℕ} {signs : List ℕ} → Allowed base gives w v signs → length signs ≡ w
length-allowed none = refl
length-allowed (more {w} {v} {r} {signs} before here) = length-append signs (r ∷ []) ∙ omega (arith, length-allowed before)

-- where each number below the base has one sign, they are the number's places
pub allowed_places : {base : ℕ} {gives : ℕ → ℕ → Type 0} {sign : ℕ → ℕ} {w v : ℕ} {signs : List ℕ} → 0 < base → Signs base gives sign → Allowed base gives w v signs
    → signs ≡ places base sign w v
unfolding places
allowed_places low one none = refl
allowed_places {base} {sign = sign} low one (more {w} {v} {r} before here) =
    let last : r ≡ sign (v % base) = one _ _ (mod-lt v low) here in
    rw (allowed_places low one before, last) refl

-- the last places have signs that are allowed, and v, in i places, has yet to go before them
pub record Allowing (base : ℕ) (gives : ℕ → ℕ → Type 0) (out₀ : List ℕ) (width v₀ : ℕ) (out : List ℕ) (v i : ℕ) : Type 0 where
  pub room : i ≤ length out
  pub done : List ℕ
  pub here : drop i out ≡ done ++ drop width out₀
  pub whole : (front : List ℕ) → Allowed base gives i v front → Allowed base gives width v₀ (front ++ done)

-- no place is written
pub allowing_starts : {base : ℕ} {gives : ℕ → ℕ → Type 0} {out : List ℕ} {width v : ℕ} → width ≤ length out
    → Allowing base gives out width v out v width
allowing_starts {base} {gives} {out} {width} {v} room =
    record {
      room = room;
      done = [];
      here = refl;
      whole = λ front signs. subst (Allowed base gives width v) (sym (append-nil front)) signs;
    }

module _ {base : ℕ} {gives : ℕ → ℕ → Type 0} {out₀ : List ℕ} {width v₀ : ℕ} {out : List ℕ} {v i : ℕ} (w : Allowing base gives out₀ width v₀ out v i) where
  -- one more place is written, the last one first
  pub allowing_goes_on : {r b at : ℕ} → 0 < i → gives (v % base) r → at ≡ i - 1 → b ≡ r → Allowing base gives out₀ width v₀ (set out at b) (v / base) (i - 1)
  allowing_goes_on {r} h given there same =
      let k : ℕ = i - 1 in
      let e : suc k ≡ i = omega arith in
      let here : k < length out = omega arith in
      rw (there, same)
      (record {
        room = rw length-set (omega arith);
        done = r ∷ w.done;
        here =
            rw (drop-cons (set out k r) k 0 (rw length-set here), get_or-set_same out k r 0 here, drop-set-lt (suc k) out k r (omega arith))
            (ap (λ (l : List ℕ). r ∷ l) (ap (λ (n : ℕ). drop n out) e ∙ w.here));
        whole = λ front signs.
            subst (Allowed base gives width v₀) (append_snoc front r w.done)
            (w.whole (front ++ (r ∷ [])) (subst (λ (n : ℕ). Allowed base gives n v (front ++ (r ∷ []))) e (more signs given)));
      })

  -- all places are written
  pub allowing_ends : i ≤ 0 → Allowed base gives width v₀ w.done × (out ≡ w.done ++ drop width out₀)
  allowing_ends h =
      let e : i ≡ 0 = omega arith in
      (w.whole [] (subst (λ (n : ℕ). Allowed base gives n v []) (sym e) none), rw e at w.here)
