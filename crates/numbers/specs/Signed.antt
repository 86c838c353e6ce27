-- Signed numbers. An integer z is z ⁺ less z ⁻, two natural numbers of which at least one is 0.
use Rattle.std.specs.Prelude.{ℕ, suc, ℤ, pos, negsuc}

infixl 90 ◌⁺
infixl 90 ◌⁻
-- z, or 0 where that is negative
abbrev pub ◌⁺ : ℤ → ℕ
pos n ⁺ = n
negsuc n ⁺ = 0

-- minus z, or 0 where that is negative
abbrev pub ◌⁻ : ℤ → ℕ
pos n ⁻ = 0
negsuc n ⁻ = suc n
