-- The library's quotient rounded up is the document's: both are within the bounds that hold for one number alone.
use mathlib.Core.Path.{◌≡◌}
use Prim.Native.Nat.{ℕ, ◌<◌}
use Rattle.std.specs.Int.{div_ceil}
use Rattle.std.proofs.lemmas.Grind.{div_ceil_times}
use Rattle.numbers.specs.Rounding.{ceil_div}
use Rattle.numbers.proofs.Rounding.{ceil_unique}

pub div_ceil_is : (p q : ℕ) → 0 < q → div_ceil p q ≡ ceil_div p q
div_ceil_is p q hq =
    let near = div_ceil_times p q hq in
    ceil_unique p q hq (div_ceil p q) near.0 near.1
