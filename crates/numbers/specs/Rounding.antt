-- A fraction p / q of whole numbers, q above 0, rounded to a whole number.
use Rattle.std.specs.Prelude.{ℕ, ◌+◌, ◌-◌, ◌*◌, ◌/◌}

-- rounded up: the least n with p ≤ n · q
unfoldable pub ceil_div : (p q : ℕ) → ℕ
ceil_div p q = (p + (q - 1)) / q

-- rounded to the nearest, a half up: p / q and a half more, rounded down
unfoldable pub round_div : (p q : ℕ) → ℕ
round_div p q = (2 * p + q) / (2 * q)
