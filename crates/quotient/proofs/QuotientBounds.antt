-- Bounds of a share, of a figure in cents and of a raw charge, for any scale K: a part of a whole, rounded, is no more than the whole.
use Prim.Native.Nat.{ℕ, ◌*◌, ◌<◌, ◌≤◌}
use native.Mathlib.Omega.{arith}
use native.Mathlib.Nat.{mul-pos, mul-le-mul_left}
use Rattle.numbers.specs.Rounding.{ceil_div, round_div}
use Rattle.numbers.proofs.Rounding.{ceil_le, round_le}

pub share_le : (K e t : ℕ) → 0 < t → e ≤ t → ceil_div (e * K) t ≤ K
share_le K e t ht h = ceil_le (e * K) t ht K (omega (arith, mul-le-mul_left K h))

pub cents_le : (f e max t : ℕ) → 0 < t → e ≤ t → round_div (f * e * max) t ≤ f * max
cents_le f e max t ht h = round_le (f * e * max) t ht (f * max) (omega (arith, mul-le-mul_left (f * max) h))

pub raw_le : (K m s d : ℕ) → 0 < K → 0 < d → s ≤ d * K → ceil_div (11 * m * s) (10 * d * K) ≤ 2 * m
raw_le K m s d hK hd h =
    ceil_le (11 * m * s) (10 * d * K) (mul-pos {m = 10 * d} (omega arith) hK) (2 * m) (omega (arith, mul-le-mul_left m h))
