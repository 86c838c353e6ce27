-- `account_rows` meets its contract: each return is a row of the definition, by the tests that led there.
use native.Mathlib.Omega.{arith}
use Rattle.std.proofs.lemmas.Bool.Decides.{nat_tests}
use Rattle.methodology.specs.Account.{nobody}
use Rattle.methodology.specs.Refusals.{row◌when◌else◌, account_rows}
use Rattle.methodology.proofs.RowLimits.{bad_heading_le}
use Rattle.validation.specs.Slices.{listed}
use Rattle.validation.proofs.account_rows.Goals as goal

pub returns-in-Some : goal.returns-in-Some
unfolding account_rows row◌when◌else◌
returns-in-Some c = grind (arith, nat_tests)

pub last_missing-requires-clause-none_bad : goal.last_missing-requires-clause-none_bad
last_missing-requires-clause-none_bad c =
    grind (arith, nat_tests, bad_heading_le (listed c.args.opening) c.args.day.now.terms.number nobody c.args.day.now.headings.now)

pub returns-then-last_missing : goal.returns-then-last_missing
unfolding account_rows row◌when◌else◌
returns-then-last_missing c = grind (arith, nat_tests, bad_heading_le (listed c.args.opening) c.args.day.now.terms.number nobody c.args.day.now.headings.now)

pub returns-in-Some-first_bad_amount : goal.returns-in-Some-first_bad_amount
unfolding account_rows row◌when◌else◌
returns-in-Some-first_bad_amount c = grind (arith, nat_tests)

pub returns : goal.returns
unfolding account_rows row◌when◌else◌
returns c = grind (arith, nat_tests)
