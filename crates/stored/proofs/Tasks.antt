-- An array of 64 that is filled for the first tasks, and what the whole is.
use Prim.Native.Nat.{ℕ, zero, suc, ◌+◌, ◌-◌, ◌≤◌, ◌<◌}
use mathlib.Core.Path.{◌≡◌, refl, sym, ap, ◌∙◌}
use mathlib.Core.Logic.{⊎_elim}
use mathlib.Core.List.{List, map, map-map}
use native.Mathlib.Omega.{arith}
use lib.ListN.{length, get_or, replicate, length-map, length-append, length-replicate, get_or-append}
use lib.Seq.{ext_get_or}
use Rattle.std.proofs.lemmas.Bool.{cases_lt}
use Rattle.laws.specs.Lists.{numbers}
use Rattle.laws.proofs.Each.{length_from, get_or-map-from}
use Rattle.laws.proofs.Fronts.{front, front_past}
use Rattle.rules.specs.Limits.{tasks_max}

-- the first i places have what is given there, and the others are blank
pub record Filled {A : Type 0} (gives : ℕ → A → Type 0) (blank : A) (i : ℕ) (all : List A) : Type 0 where
  pub long : length all ≡ tasks_max
  pub first : (k : ℕ) → k < i → gives k (get_or all k blank)
  pub past : (k : ℕ) → i ≤ k → get_or all k blank ≡ blank

blank_everywhere : {A : Type 0} (d : A) (n k : ℕ) → get_or (replicate n d) k d ≡ d
blank_everywhere d zero k = refl
blank_everywhere d (suc n) zero = refl
blank_everywhere d (suc n) (suc k) = blank_everywhere d n k

-- at first all are
pub filled_none : {A : Type 0} (gives : ℕ → A → Type 0) (blank : A) → Filled gives blank 0 (replicate tasks_max blank)
filled_none gives blank = record { long = length-replicate tasks_max blank; first = λ k l. absurd (omega arith); past = λ k l. blank_everywhere blank tasks_max k }

-- the numbers of all tasks, and blanks after them
pub each_packed : {A B : Type 0} (into : B → A) (blank : A) (f : ℕ → B) (n : ℕ) (all : List A) → n ≤ tasks_max → length all ≡ tasks_max
    → ((k : ℕ) → k < n → get_or all k blank ≡ into (f (k + 1))) → ((k : ℕ) → n ≤ k → get_or all k blank ≡ blank) → all ≡ front into blank tasks_max (map f (numbers n))
each_packed into blank f n all few long given past =
    let l = map f (numbers n) in
    let count : length l ≡ n = length-map (numbers n) f ∙ length_from 1 n in
    let full : length (front into blank tasks_max l) ≡ tasks_max =
    length-append (map into l) (replicate (tasks_max - length l) blank)
    ∙ omega (arith, length-map l into, length-replicate (tasks_max - length l) blank)
    in
    ext_get_or blank all (front into blank tasks_max l) (long ∙ sym full) (λ k _.
    ⊎_elim (λ (among : k < n).
    given k among
    ∙ ap (λ (j : ℕ). into (f j)) (omega arith)
    ∙ sym (get_or-map-from blank (λ x. into (f x)) 1 n k among)
    ∙ ap (λ (m : List _). get_or m k blank) (sym (map-map into f (numbers n)))
    ∙ sym (get_or-append (map into l) (replicate (tasks_max - length l) blank) blank k (omega (arith, length-map l into))))
    (λ (after : n ≤ k). past k after ∙ sym (front_past into blank tasks_max l k (omega arith)))
    (cases_lt k n))
