-- A list of numbers put in order, the largest first.
use Rattle.std.specs.Prelude.{cond, List, [], ◌∷◌, ℕ, leb}

-- x put into a list before the first number that is not above it
unfoldable pub insert : ℕ → List ℕ → List ℕ
insert x [] = x ∷ []
insert x (y ∷ ys) = cond (leb y x) (x ∷ y ∷ ys) (y ∷ insert x ys)

-- the same numbers, the largest first
unfoldable pub descending : List ℕ → List ℕ
descending [] = []
descending (x ∷ xs) = insert x (descending xs)
