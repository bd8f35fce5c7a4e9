-- A walk along fields, each a width and a number, that lays each right after those before it: what was laid so far, and what is left.
use Prim.Native.Nat.{ℕ, ◌+◌, ◌≤◌, ◌<◌}
use mathlib.Core.Path.{◌≡◌, refl, sym, ap, ◌∙◌}
use mathlib.Core.List.{List, [], ◌∷◌, ◌++◌, map, append_assoc, append-nil}
use native.Mathlib.Omega.{arith}
use lib.ListN.{length, get_or, drop, drop_of_length-le}
use Rattle.std.proofs.lemmas.List.{drop_more}
use Rattle.laws.specs.Lists.{sum, join}
use Rattle.rules.specs.Answers.{lay}
use Rattle.reading_laws.proofs.Laying.{Laid, put}

-- the pieces of fields, one after the other
abbrev pub pieces_of : (ℕ → ℕ → List ℕ) → List (ℕ × ℕ) → List ℕ
pieces_of piece fs = join (map (λ f. piece f.0 f.1) fs)

abbrev pub wide : List (ℕ × ℕ) → ℕ
wide fs = sum (map (λ f. f.0) fs)

-- after i fields, which stand behind a head of some length
pub record Going (piece : ℕ → ℕ → List ℕ) (out head : List ℕ) (begin : ℕ) (fs : List (ℕ × ℕ)) (now : List ℕ) (end i : ℕ) : Type 0 where
  pub text : List ℕ
  pub laid : Laid out text now end
  pub whole : text ++ pieces_of piece (drop i fs) ≡ head ++ pieces_of piece fs
  pub long : end + wide (drop i fs) ≡ begin + wide fs

module _ (piece : ℕ → ℕ → List ℕ) (sized : (w v : ℕ) → length (piece w v) ≡ w) (out head : List ℕ) (begin : ℕ) (fs : List (ℕ × ℕ)) where
  pub start : {now : List ℕ} → Laid out head now begin → Going piece out head begin fs now begin 0
  start laid = record { text = head; laid = laid; whole = refl; long = refl }

  module _ {now : List ℕ} {end i : ℕ} (g : Going piece out head begin fs now end i) where
    pub turn : {now' : List ℕ} → begin + wide fs ≤ length out → i < length fs → now' ≡ lay now end (piece (get_or fs i (0, 0)).0 (get_or fs i (0, 0)).1)
        → Going piece out head begin fs now' (end + (get_or fs i (0, 0)).0) (i + 1)
    turn room more e =
        let f = get_or fs i (0, 0) in
        let next : drop i fs ≡ f ∷ drop (i + 1) fs = drop_more fs i (0, 0) more in
        let width : wide (drop i fs) ≡ f.0 + wide (drop (i + 1) fs) = ap wide next in
        let line : pieces_of piece (drop i fs) ≡ piece f.0 f.1 ++ pieces_of piece (drop (i + 1) fs) = ap (pieces_of piece) next in
        record {
          text = g.text ++ piece f.0 f.1;
          laid = put out g.laid (piece f.0 f.1) f.0 (sized f.0 f.1) (omega (arith, width, g.long, room)) e;
          whole = append_assoc g.text (piece f.0 f.1) (pieces_of piece (drop (i + 1) fs)) ∙ ap (λ (l : List ℕ). g.text ++ l) (sym line) ∙ g.whole;
          long = omega (arith, width, g.long);
        }

    -- all fields are laid
    pub ended : length fs ≤ i → Laid out (head ++ pieces_of piece fs) now end × (end ≡ begin + wide fs)
    ended h =
        let none : drop i fs ≡ [] = drop_of_length-le fs {i = i} h in
        let text : g.text ≡ head ++ pieces_of piece fs = sym (append-nil g.text) ∙ sym (ap (λ (l : List (ℕ × ℕ)). g.text ++ pieces_of piece l) none) ∙ g.whole in
        let last : wide (drop i fs) ≡ 0 = ap wide none in
        (rw (← text) g.laid, omega (arith, last, g.long))
