-- `nearest` meets its contract: it computes the definition, which is at most 2^63.
use mathlib.Core.Path.{refl}
use Rattle.numbers.specs.Rounding.{round_div}
use Rattle.quotient.proofs.nearest.Goals as goal

pub returns : goal.returns
unfolding round_div
returns c = rw (c.from-q.ensures) refl
