-- Lists, sums and counts, as the rules use them. Positions in a list are counted from 1, as tasks and cores are.
use Rattle.std.specs.Prelude.{ℕ, zero, suc, ◌+◌, Bool, true, false, cond, ◌&&◌, List, [], ◌∷◌, ◌++◌, map, eqb, get_or}

-- the elements that pass a test, in their order
abbrev pub filter : {A : Type 0} → (A → Bool) → List A → List A
filter p [] = []
filter p (x ∷ xs) = cond (p x) (x ∷ filter p xs) (filter p xs)

-- how many elements pass a test
abbrev pub count : {A : Type 0} → (A → Bool) → List A → ℕ
count p [] = 0
count p (x ∷ xs) = cond (p x) 1 0 + count p xs

-- every element passes a test
abbrev pub all : {A : Type 0} → (A → Bool) → List A → Bool
all p [] = true
all p (x ∷ xs) = p x && all p xs

abbrev pub sum : List ℕ → ℕ
sum [] = 0
sum (x ∷ xs) = x + sum xs

abbrev pub foldl : {A B : Type 0} → (B → A → B) → B → List A → B
foldl f b [] = b
foldl f b (x ∷ xs) = foldl f (f b x) xs

-- the lists of a list, one after the other
abbrev pub join : {A : Type 0} → List (List A) → List A
join [] = []
join (xs ∷ xss) = xs ++ join xss

-- k numbers from s on
abbrev pub from : ℕ → ℕ → List ℕ
from s zero = []
from s (suc k) = s ∷ from (suc s) k

-- 1 to n
abbrev pub numbers : ℕ → List ℕ
numbers n = from 1 n

-- f 1 to f n
abbrev pub each : ℕ → (ℕ → ℕ) → List ℕ
each n f = map f (numbers n)

-- what stands at position i, counted from 1; 0 where nothing does
abbrev pub at : List ℕ → ℕ → ℕ
at l i = get_or (0 ∷ l) i 0

-- one position later; nowhere stays nowhere
abbrev pub later : ℕ → ℕ
later zero = zero
later (suc k) = suc (suc k)

-- the first position at which x stands, counted from 1; 0 where it stands nowhere
abbrev pub position : ℕ → List ℕ → ℕ
position x [] = 0
position x (y ∷ ys) = cond (eqb x y) 1 (later (position x ys))

-- the two lists are the same
abbrev pub same : List ℕ → List ℕ → Bool
same [] [] = true
same [] (y ∷ ys) = false
same (x ∷ xs) [] = false
same (x ∷ xs) (y ∷ ys) = eqb x y && same xs ys

-- the least of the k numbers from s on that passes a test, and the number after them where none does
abbrev pub least : ℕ → ℕ → (ℕ → Bool) → ℕ
least s zero p = s
least s (suc k) p =
    let rest : ℕ = least (suc s) k p in
    cond (p s) s rest
