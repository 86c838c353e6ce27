-- A charge for any scale K: 11 · M · S / (10 · D · K), rounded up, is as near the exact charge as S, a sum of shares over D days, is near the exact sum.
-- The bounds of S and of the rounding are multiplied up to one inequality of products, and a common factor is taken away.
use mathlib.Core.List.{List}
use Prim.Native.Nat.{ℕ, ◌+◌, ◌*◌, ◌≤◌, ◌<◌}
use native.Mathlib.Nat.{mul-pos, mul-le-mul_left, mul-le-mul_right, mul-lt-mul_of_pos_right, le_of_mul-le-mul_right, lt_of_mul-lt-mul_right}
use native.Mathlib.Omega.{arith}
use lib.ListN.{length}
use Rattle.numbers.specs.Sums.{Σ}
use Rattle.numbers.specs.Fractions.{Fraction, ◌over◌, whole, Proper, ◌⊕◌, ◌⊗◌, ◌≼◌, ◌≺◌}
use Rattle.numbers.specs.Rounding.{ceil_div}
use Rattle.numbers.proofs.Sums.{Σ-scale}
use Rattle.numbers.proofs.Rounding.{ceil_above, ceil_below}
use Rattle.numbers.proofs.RoundedUp.{Σ-ceil_above, Σ-ceil_below}

module _ (K M D : ℕ) (hK : 0 < K) (hD : 0 < D) where
  divisor : 0 < 10 * D * K
  divisor = mul-pos {m = 10 * D} (omega arith) hK

  -- one member's, with the sum S of its shares and the exact sum x
  module _ (S : ℕ) (x : Fraction) where
    pub charge_above : whole K ⊗ x ≼ whole S → (11 * M) over (10 * D) ⊗ x ≼ whole (ceil_div (11 * M * S) (10 * D * K))
    charge_above h =
        le_of_mul-le-mul_right {k = K}
        (omega (arith, mul-le-mul_left (11 * M) h, mul-le-mul_right x.den (ceil_above (11 * M * S) (10 * D * K) divisor)))
        hK

    pub charge_below : Proper x → whole S ≼ whole K ⊗ x ⊕ whole D → whole (ceil_div (11 * M * S) (10 * D * K)) ≺ (11 * M) over (10 * D) ⊗ x ⊕ (whole 1 ⊕ (11 * M) over (10 * K))
    charge_below p h = omega (arith, mul-le-mul_left (11 * M) h, mul-lt-mul_of_pos_right (ceil_below (11 * M * S) (10 * D * K) divisor) p)

  -- all members' together, with the sum S m of each one's shares
  module _ {A : Type 0} (ms : List A) (S : A → ℕ) where
    pub charges_above : D * K ≤ Σ ms S → (11 * M) over 10 ≼ whole (Σ ms (λ m. ceil_div (11 * M * S m) (10 * D * K)))
    charges_above h =
        le_of_mul-le-mul_right {k = D * K}
        (omega (arith, mul-le-mul_left (11 * M) h, Σ-scale ms (11 * M) S, Σ-ceil_above (λ m. 11 * M * S m) (10 * D * K) divisor ms))
        (mul-pos hD hK)

    pub charges_below : 0 < length ms → Σ ms S ≤ D * (K + length ms) → whole (Σ ms (λ m. ceil_div (11 * M * S m) (10 * D * K))) ≺ (11 * M) over 10 ⊕ whole (length ms) ⊗ (whole 1 ⊕ (11 * M) over (10 * K))
    charges_below i h =
        lt_of_mul-lt-mul_right D
        (omega (arith, mul-le-mul_left (11 * M) h, Σ-scale ms (11 * M) S, Σ-ceil_below (λ m. 11 * M * S m) (10 * D * K) divisor ms))
