-- `eul` meets its contract: both steps of the signed sum fit.
use Rattle.std.proofs.Common.{arith}
use Rattle.std.proofs.lemmas.Int.{ints}
use Rattle.methodology.specs.Account.{eul_of}
use Rattle.exposure.proofs.account.eul.Goals as goal

pub returns : goal.returns
unfolding eul_of
returns c = omega (arith, ints)
