-- `opening_rows` meets its contract: row 1 by its test, which leaves each list n long, and then row 10.
use mathlib.Core.Path.{sym}
use native.Mathlib.Omega.{arith}
use Rattle.std.proofs.lemmas.Bool.Decides.{nat_tests}
use Rattle.methodology.specs.Refusals.{row◌when◌else◌, opening_rows}
use Rattle.validation.proofs.OpeningPasses.{in_limits}
use Rattle.validation.proofs.limits.opening_rows.Goals as goal

pub returns-then-bad_opening : goal.returns-then-bad_opening
unfolding opening_rows row◌when◌else◌
returns-then-bad_opening c = grind (arith, nat_tests)

pub first_bad_presence-requires : goal.first_bad_presence-requires
first_bad_presence-requires c = let l = in_limits _ (sym c.if-bad_opening.ensures) in omega (arith, l.firsts_long, l.lasts_long)

pub returns-in-Some : goal.returns-in-Some
unfolding opening_rows row◌when◌else◌
returns-in-Some c = grind (arith, nat_tests, (in_limits _ (sym c.if-bad_opening.ensures)).firsts_long)

pub returns : goal.returns
unfolding opening_rows row◌when◌else◌
returns c = grind (arith, nat_tests, (in_limits _ (sym c.if-bad_opening.ensures)).firsts_long)
