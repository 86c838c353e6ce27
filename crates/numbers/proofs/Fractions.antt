-- Fractions: the orders are those of the rational numbers, which vouches for the definitions, and a sum of fractions is one.
-- Each law is an inequality of products: the hypotheses are multiplied by what is wanted, `omega` multiplies out, and a factor above 0 is taken away.
use mathlib.Core.Path.{◌≡◌, refl}
use mathlib.Core.Logic.{◌⊎◌, inl, inr, ◌↔◌}
use mathlib.Core.Bool.{Bool, true, false}
use mathlib.Core.List.Memᴰ.{head as here}
use mathlib.Core.List.Memᴰ.{tail as there}
use mathlib.Core.List.{List, [], ◌∷◌}
use Prim.Native.Nat.{ℕ, ◌*◌, ◌≤◌, ◌<◌}
use native.Mathlib.Nat.{mul-pos, mul-le-mul_right, le_of_mul-le-mul_right}
use native.Mathlib.Omega.{arith}
use lib.Dec.{leb}
use borrow.Author.Tests.{leb-true, leb-false}
use Rattle.numbers.specs.Fractions.{Fraction, ◌over◌, whole, Proper, ◌≼◌, ◌≺◌, Σᶠ}
use Rattle.numbers.proofs.Lists.{◌∈◌}

-- the order is transitive, where the middle is proper, and total
pub ≼_trans : (x y z : Fraction) → Proper y → x ≼ y → y ≼ z → x ≼ z
≼_trans x y z p h k = le_of_mul-le-mul_right {k = y.den} (omega (arith, mul-le-mul_right z.den h, mul-le-mul_right x.den k)) p

pub ≼-or-≺ : (x y : Fraction) → (x ≼ y) ⊎ (y ≺ x)
≼-or-≺ x y = by (leb (x.num * y.den) (y.num * x.den)) refl
  where
    by : (t : Bool) → leb (x.num * y.den) (y.num * x.den) ≡ t → (x ≼ y) ⊎ (y ≺ x)
    by true e = inl (leb-true _ _ e)
    by false e = inr (leb-false _ _ e)

-- whole numbers keep their order, and a common factor changes nothing
pub whole-≼ : (m n : ℕ) → (whole m ≼ whole n) ↔ (m ≤ n)
whole-≼ m n = omega arith

pub whole-≺ : (m n : ℕ) → (whole m ≺ whole n) ↔ (m < n)
whole-≺ m n = omega arith

pub factor : (k p q : ℕ) → ((k * p) over (k * q) ≼ p over q) × (p over q ≼ (k * p) over (k * q))
factor k p q = omega arith

-- a sum over a list is proper
pub Σᶠ-proper : {A : Type 0} (xs : List A) (f : A → Fraction) → ((x : A) → x ∈ xs → Proper (f x)) → Proper (Σᶠ xs f)
unfolding Σᶠ
Σᶠ-proper [] f h = omega arith
Σᶠ-proper (x ∷ xs) f h = mul-pos (h x (here refl)) (Σᶠ-proper xs f (λ y m. h y (there m)))
