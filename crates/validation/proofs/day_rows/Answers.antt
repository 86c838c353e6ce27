-- `day_rows` meets its contract: rows 4 and 3 by their tests, then those of the accounts, whose lengths agree where row 4 is passed.
use Rattle.std.proofs.Common.{rules}
use Rattle.methodology.specs.Refusals.{row◌when◌else◌, day_rows}
use Rattle.validation.proofs.day_rows.Goals as goal

pub returns-then-bad_input : goal.returns-then-bad_input
unfolding day_rows row◌when◌else◌
returns-then-bad_input c = search rules

pub returns-then-bad_day_number : goal.returns-then-bad_day_number
unfolding day_rows row◌when◌else◌
returns-then-bad_day_number c = search rules

pub returns : goal.returns
unfolding day_rows row◌when◌else◌
returns c = search rules
