-- Sums of fractions that are rounded up one by one: at least the sum of the fractions, and at most 1 more for each.
-- By induction over the list: the bounds of one rounded fraction are added to those of the rest.
use mathlib.Core.Path.{◌≡◌, refl, ◌∙◌}
use mathlib.Core.List.Memᴰ.{head as here}
use mathlib.Core.List.Memᴰ.{tail as there}
use mathlib.Core.List.{List, [], ◌∷◌}
use Prim.Native.Nat.{ℕ, ◌+◌, ◌*◌, ◌≤◌, ◌<◌}
use native.Mathlib.Nat.{mul-le-mul_right, le_of_mul-le-mul_right}
use native.Mathlib.Omega.{arith}
use lib.ListN.{length}
use Rattle.numbers.specs.Sums.{Σ}
use Rattle.numbers.specs.Fractions.{◌over◌, whole, ◌⊕◌, ◌⊗◌, ◌≼◌, Σᶠ}
use Rattle.numbers.specs.Rounding.{ceil_div}
use Rattle.numbers.proofs.Lists.{◌∈◌}
use Rattle.numbers.proofs.Sums.{Σ-eq, Σ-scale}
use Rattle.numbers.proofs.Rounding.{ceil_above, ceil_below}

-- K times fractions with denominators of their own
module _ {A : Type 0} (K : ℕ) (p q : A → ℕ) where
  pub Σᶠ-ceil_above : (xs : List A) → ((x : A) → x ∈ xs → 0 < q x) → whole K ⊗ Σᶠ xs (λ x. p x over q x) ≼ whole (Σ xs (λ x. ceil_div (p x * K) (q x)))
  unfolding Σᶠ Σ
  Σᶠ-ceil_above [] h = omega arith
  Σᶠ-ceil_above (x ∷ xs) h =
      omega (
        arith,
        mul-le-mul_right (Σᶠ xs (λ y. p y over q y)).den (ceil_above (p x * K) (q x) (h x (here refl))),
        mul-le-mul_right (q x) (Σᶠ-ceil_above xs (λ y i. h y (there i))),
      )

  pub Σᶠ-ceil_below : (xs : List A) → ((x : A) → x ∈ xs → 0 < q x) → whole (Σ xs (λ x. ceil_div (p x * K) (q x))) ≼ whole K ⊗ Σᶠ xs (λ x. p x over q x) ⊕ whole (length xs)
  unfolding Σᶠ Σ
  Σᶠ-ceil_below [] h = omega arith
  Σᶠ-ceil_below (x ∷ xs) h =
      omega (
        arith,
        mul-le-mul_right (Σᶠ xs (λ y. p y over q y)).den (ceil_below (p x * K) (q x) (h x (here refl))),
        mul-le-mul_right (q x) (Σᶠ-ceil_below xs (λ y i. h y (there i))),
      )

-- fractions over one denominator q: less than 1 more for each, which the `length xs` on the left counts
module _ {A : Type 0} (p : A → ℕ) (q : ℕ) (hq : 0 < q) where
  pub Σ-ceil_above : (xs : List A) → Σ xs p ≤ Σ xs (λ x. ceil_div (p x) q) * q
  unfolding Σ
  Σ-ceil_above [] = omega arith
  Σ-ceil_above (x ∷ xs) = omega (arith, ceil_above (p x) q hq, Σ-ceil_above xs)

  pub Σ-ceil_below : (xs : List A) → Σ xs (λ x. ceil_div (p x) q) * q + length xs ≤ Σ xs p + length xs * q
  unfolding Σ
  Σ-ceil_below [] = omega arith
  Σ-ceil_below (x ∷ xs) = omega (arith, ceil_below (p x) q hq, Σ-ceil_below xs)

-- K times the parts of a whole: together K, and at most 1 more for each
module _ {A : Type 0} (K : ℕ) (xs : List A) (p : A → ℕ) (hp : 0 < Σ xs p) where
  scaled : Σ xs (λ x. p x * K) ≡ K * Σ xs p
  scaled = Σ-eq xs (λ x. p x * K) (λ x. K * p x) (λ x i. omega arith) ∙ Σ-scale xs K p

  pub parts_above : K ≤ Σ xs (λ x. ceil_div (p x * K) (Σ xs p))
  parts_above = le_of_mul-le-mul_right {k = Σ xs p} (omega (arith, scaled, Σ-ceil_above (λ x. p x * K) (Σ xs p) hp xs)) hp

  pub parts_below : Σ xs (λ x. ceil_div (p x * K) (Σ xs p)) ≤ K + length xs
  parts_below = le_of_mul-le-mul_right {k = Σ xs p} (omega (arith, scaled, Σ-ceil_below (λ x. p x * K) (Σ xs p) hp xs)) hp
