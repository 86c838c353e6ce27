-- The ranges in which an account's figures are computed in 64 bits: what rows 4 to 6 of the refusal table leave.
use Rattle.std.specs.Prelude.{List, ℕ, ◌*◌, ◌≤◌, ◌<◌, ℤ, pos, nat_abs, length, get_or}
use Rattle.methodology.specs.Refusals.{limit}

-- a row of NPVs within their limit
pub record Npvs (row : List ℤ) : Type 0 where
  pub at : (x : ℕ) → x < length row → nat_abs (get_or row x (pos 0)) ≤ limit

-- a decrease, a margin and an extra of an account
pub record Owed (fall margin extra : ℕ) : Type 0 where
  pub falls : fall ≤ 2 * limit
  pub margins : margin ≤ limit
  pub part : extra ≤ margin
