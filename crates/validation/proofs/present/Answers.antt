-- `present` meets its contract: a member's days stand in the place before its number.
use Prim.Native.Nat.{◌-◌}
use native.Mathlib.Omega.{arith}
use lib.Seq.{get_or-take}
use Rattle.std.proofs.lemmas.Bool.Decides.{nat_tests}
use Rattle.methodology.specs.Account.{present}
use Rattle.validation.proofs.present.Goals as goal

pub returns-then-opening-i : goal.returns-then-opening-i
unfolding present
returns-then-opening-i c =
    let o = c.args.opening.now in
    grind (arith, nat_tests, get_or-take o.n o.firsts (c.args.m - 1) 0, get_or-take o.n o.lasts (c.args.m - 1) 0)

pub returns-else-opening-i : goal.returns-else-opening-i
unfolding present
returns-else-opening-i c =
    let o = c.args.opening.now in
    grind (arith, nat_tests, get_or-take o.n o.firsts (c.args.m - 1) 0, get_or-take o.n o.lasts (c.args.m - 1) 0)
