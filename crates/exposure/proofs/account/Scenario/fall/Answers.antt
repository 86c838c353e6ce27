-- `Scenario::fall` meets its contract: by which decrease it takes.
use native.Mathlib.Omega.{arith}
use Prim.Native.Nat.{◌<◌}
use lib.ListN.{length}
use Rattle.methodology.specs.Account.{decrease}
use Rattle.exposure.proofs.Decreases.{npv_back}
use Rattle.exposure.proofs.account.Scenario.fall.Goals as goal

pub returns-in-Under : goal.returns-in-Under
unfolding decrease
returns-in-Under c =
    let p = rw c.in-Under.is at c.requires in
    let some : 0 < length c.args.row.now = omega (arith, p.0) in
    rw c.in-Under.is (rw (npv_back p.1 0 some, npv_back p.1 _ p.0) at c.decrease.ensures)
