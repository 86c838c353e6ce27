-- `share` meets its contract: the library's quotient rounded up is the document's.
use Prim.Native.Nat.{◌*◌}
use native.Mathlib.Omega.{arith}
use Rattle.methodology.specs.Day.{scale}
use Rattle.quotient.proofs.DivCeil.{div_ceil_is}
use Rattle.quotient.proofs.share.Goals as goal

pub returns : goal.returns
returns c = grind (arith, div_ceil_is (c.args.e * scale) c.args.t c.requires.1)
