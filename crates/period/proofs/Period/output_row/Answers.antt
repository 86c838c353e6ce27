-- `output_row` meets its contract: the rows in the order of the table.
use mathlib.Core.Path.{sym}
use native.Mathlib.Nat.{mul-le-mul}
use native.Mathlib.Omega.{arith}
use borrow.Author.Tests.{eq-eqb, ne_eqb}
use Rattle.methodology.specs.Refusals.{row◌when◌else◌}
use Rattle.period.specs.Calls.{output_row}
use Rattle.period.proofs.InRange.{open_ranged, held_opened}
use Rattle.period.proofs.Period.output_row.Goals as goal

pub returns-then-not-is_open : goal.returns-then-not-is_open
unfolding output_row row◌when◌else◌
returns-then-not-is_open c = rw (sym c.if-not-is_open.ensures)

pub overflow_mul-width : goal.overflow_mul-width
overflow_mul-width c = omega (arith, mul-le-mul c.requires (held_opened (open_ranged _ (sym c.if-not-is_open.ensures))).members_few)

pub returns-then-room-width : goal.returns-then-room-width
unfolding output_row row◌when◌else◌
returns-then-room-width c = rw (sym c.if-not-is_open.ensures, ne_eqb _ _ c.if-room-width.true)

pub returns : goal.returns
unfolding output_row row◌when◌else◌
returns c = rw (sym c.if-not-is_open.ensures, eq-eqb _ _ c.if-room-width.false)
