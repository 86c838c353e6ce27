-- `bad_after` meets its contract: nobody stands between two accounts of one member.
use native.Mathlib.Omega.{arith}
use Rattle.std.proofs.lemmas.Bool.Decides.{nat_tests}
use Rattle.validation.specs.Slices.{listed}
use Rattle.validation.proofs.Missing.{over_none}
use Rattle.validation.proofs.bad_after.Goals as goal

pub returns-in-Equal : goal.returns-in-Equal
returns-in-Equal c =
    grind (arith, nat_tests, over_none (listed c.args.opening.now) c.args.number c.args.prev.member c.args.heading.member)
