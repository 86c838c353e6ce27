-- The sum and the greatest of a figure over a list.
use Rattle.std.specs.Prelude.{List, [], ◌∷◌, ℕ, ◌+◌, max, ℤ, pos, ◌+ℤ◌}

-- the sum of f over a list
unfoldable pub Σ : {A : Type 0} → List A → (A → ℕ) → ℕ
Σ [] f = 0
Σ (x ∷ xs) f = f x + Σ xs f

-- the same of signed numbers
unfoldable pub Σℤ : {A : Type 0} → List A → (A → ℤ) → ℤ
Σℤ [] f = pos 0
Σℤ (x ∷ xs) f = f x +ℤ Σℤ xs f

-- the greatest f over a list, 0 where there is none
unfoldable pub greatest : {A : Type 0} → List A → (A → ℕ) → ℕ
greatest [] f = 0
greatest (x ∷ xs) f = max (f x) (greatest xs f)
