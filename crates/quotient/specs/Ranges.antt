-- The ranges in which the quotients of a day and of a month fit in 64 bits, and their products in 128.
use Rattle.std.specs.Prelude.{ℕ, ◌*◌, ◌≤◌}
use Rattle.methodology.specs.Day.{scale}
use Rattle.methodology.specs.Refusals.{limit}

-- the greatest total of a day: 256 accounts, each of which adds at most three times the limit of an amount
abbrev pub greatest_total : ℕ
greatest_total = 256 * 3 * limit

-- a loss e in the total t of a day, which may be without losses
pub record Loss (e t : ℕ) : Type 0 where
  pub part : e ≤ t
  pub bounded : t ≤ greatest_total

-- the sum s of a member's shares over the d days that count, of which there may be none, and M of all days, m
pub record Charge (m s d : ℕ) : Type 0 where
  pub bounded : m ≤ greatest_total
  pub month : d ≤ 31
  pub shares : s ≤ d * scale
