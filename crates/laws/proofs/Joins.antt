-- Lists of lists, one after the other.
use mathlib.Core.Path.{◌≡◌, sym, ap, ◌∙◌}
use mathlib.Core.List.{List, [], ◌∷◌, ◌++◌, append-nil, append_assoc}
use Rattle.laws.specs.Lists.{join}

-- one more list at the end
pub join_last : {A : Type 0} (xss : List (List A)) (xs : List A) → join (xss ++ (xs ∷ [])) ≡ join xss ++ xs
join_last [] xs = append-nil xs
join_last (ys ∷ xss) xs = ap (λ (zs : List _). ys ++ zs) (join_last xss xs) ∙ sym (append_assoc ys (join xss) xs)
