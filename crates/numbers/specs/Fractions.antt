-- Fractions that are not negative, with nothing rounded: a numerator over a denominator, compared by cross-multiplication.
-- Where both denominators are above 0, which `Proper` says, the orders are those of the rational numbers.
use Rattle.std.specs.Prelude.{List, [], ◌∷◌, ℕ, ◌+◌, ◌*◌, ◌≤◌, ◌<◌}

pub record Fraction : Type 0 where
  pub num : ℕ
  pub den : ℕ

infix 80 ◌over◌
infixl 60 ◌⊕◌
infixl 70 ◌⊗◌
infix 40 ◌≼◌
infix 40 ◌≺◌
abbrev pub ◌over◌ : ℕ → ℕ → Fraction
p over q = record { num = p; den = q }

abbrev pub whole : ℕ → Fraction
whole n = n over 1

abbrev pub Proper : Fraction → Type 0
Proper x = 0 < x.den

-- the sum and the product
abbrev pub ◌⊕◌ : Fraction → Fraction → Fraction
x ⊕ y = (x.num * y.den + y.num * x.den) over (x.den * y.den)

abbrev pub ◌⊗◌ : Fraction → Fraction → Fraction
x ⊗ y = (x.num * y.num) over (x.den * y.den)

-- at most, and less than
abbrev pub ◌≼◌ : Fraction → Fraction → Type 0
x ≼ y = x.num * y.den ≤ y.num * x.den

abbrev pub ◌≺◌ : Fraction → Fraction → Type 0
x ≺ y = x.num * y.den < y.num * x.den

-- the sum of f over a list
unfoldable pub Σᶠ : {A : Type 0} → List A → (A → Fraction) → Fraction
Σᶠ [] f = whole 0
Σᶠ (x ∷ xs) f = f x ⊕ Σᶠ xs f
