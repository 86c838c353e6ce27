-- `raw` meets its contract: the library's quotient rounded up is the document's.
use Prim.Native.Nat.{◌*◌}
use native.Mathlib.Omega.{arith}
use Rattle.methodology.specs.Day.{scale}
use Rattle.quotient.proofs.DivCeil.{div_ceil_is}
use Rattle.quotient.proofs.raw.Goals as goal

pub returns : goal.returns
returns c = grind (arith, div_ceil_is (11 * c.args.m * c.args.s) (10 * c.args.d * scale) (omega arith))
