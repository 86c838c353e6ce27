-- Laws of a fraction p / q, rounded up and rounded to the nearest. Two bounds on its multiple of q single out the rounded number, and every
-- other law follows from these bounds by `nearby`. Each law takes p and q, and that q is above 0, first.
use mathlib.Core.Path.{◌≡◌}
use Prim.Native.Nat.{ℕ, ◌+◌, ◌-◌, ◌*◌, ◌<◌, ◌≤◌}
use native.Mathlib.Omega.{arith}
use native.Mathlib.Nat.{le_trans, le_antisymm, mul-pos, mul-le-mul_right, le_of_mul-le-mul_right, lt_of_mul-lt-mul_right, div-mul-le_self, lt-div-mul-add}
use Rattle.numbers.specs.Rounding.{ceil_div, round_div}

-- a number whose multiple of q is less than q above another's is at most the other
nearby : (n m q : ℕ) → n * q < m * q + q → n ≤ m
nearby n m q h =
    let next : n < m + 1 = lt_of_mul-lt-mul_right q (omega arith) in
    omega arith

module _ (p q : ℕ) (hq : 0 < q) where
  -- the bounds: p ≤ ceilDiv p q · q < p + q, and 2p - q < 2 · roundDiv p q · q ≤ 2p + q
  pub ceil_above : p ≤ ceil_div p q * q
  unfolding ceil_div
  ceil_above = omega (arith, lt-div-mul-add {a = p + (q - 1)} hq)

  pub ceil_below : ceil_div p q * q < p + q
  unfolding ceil_div
  ceil_below = omega (arith, div-mul-le_self (p + (q - 1)) q)

  pub round_above : 2 * p < 2 * round_div p q * q + q
  unfolding round_div
  round_above = omega (arith, lt-div-mul-add {a = 2 * p + q} {b = 2 * q} (omega arith))

  pub round_below : 2 * round_div p q * q ≤ 2 * p + q
  unfolding round_div
  round_below = omega (arith, div-mul-le_self (2 * p + q) (2 * q))

  -- no other number is within the bounds
  pub ceil_unique : (n : ℕ) → p ≤ n * q → n * q < p + q → n ≡ ceil_div p q
  ceil_unique n above below =
      le_antisymm (nearby n (ceil_div p q) q (omega (arith, ceil_above))) (nearby (ceil_div p q) n q (omega (arith, ceil_below)))

  -- ceilDiv p q is the least n with p ≤ n · q, and roundDiv p q is no greater
  pub ceil_le : (n : ℕ) → p ≤ n * q → ceil_div p q ≤ n
  ceil_le n h = nearby (ceil_div p q) n q (omega (arith, ceil_below))

  ceil_covers : (n : ℕ) → ceil_div p q ≤ n → p ≤ n * q
  ceil_covers n h = le_trans ceil_above (mul-le-mul_right q h)

  pub round_le : (n : ℕ) → p ≤ n * q → round_div p q ≤ n
  round_le n h = nearby (round_div p q) n q (omega (arith, round_below))

-- rounded up, a fraction grows with p
pub ceil_mono : (p p' q : ℕ) → 0 < q → p ≤ p' → ceil_div p q ≤ ceil_div p' q
ceil_mono p p' q hq h = ceil_le p q hq (ceil_div p' q) (le_trans h (ceil_above p' q hq))

-- a common factor changes nothing
pub ceil_factor : (p q k : ℕ) → 0 < q → 0 < k → ceil_div (p * k) (q * k) ≡ ceil_div p q
ceil_factor p q k hq hk =
    let n : ℕ = ceil_div (p * k) (q * k) in
    let hqk : 0 < q * k = mul-pos hq hk in
    ceil_unique p q hq n
    (le_of_mul-le-mul_right {k = k} (omega (arith, ceil_above (p * k) (q * k) hqk)) hk)
    (lt_of_mul-lt-mul_right k (omega (arith, ceil_below (p * k) (q * k) hqk)))

-- rounding up in two steps is rounding up once
pub ceil_ceil : (p a b : ℕ) → 0 < a → 0 < b → ceil_div (ceil_div p a) b ≡ ceil_div p (a * b)
ceil_ceil p a b ha hb =
    let n : ℕ = ceil_div (ceil_div p a) b in
    let m : ℕ = ceil_div p (a * b) in
    let hab : 0 < a * b = mul-pos ha hb in
    le_antisymm
    (ceil_le (ceil_div p a) b hb m (ceil_le p a ha (m * b) (omega (arith, ceil_above p (a * b) hab))))
    (ceil_le p (a * b) hab n (omega (arith, ceil_covers p a ha (n * b) (ceil_above (ceil_div p a) b hb))))
