-- `raw_charge` meets its contract: it tests for no day, as the definition does.
use borrow.Author.Tests.{eq-eqb, ne_eqb}
use Rattle.methodology.specs.Contribution.{charge}
use Rattle.fund.proofs.raw_charge.Goals as goal

pub returns-then-d-eq0 : goal.returns-then-d-eq0
unfolding charge
returns-then-d-eq0 c = rw (eq-eqb _ _ c.if-d-eq0.true)

pub returns-else-d-eq0 : goal.returns-else-d-eq0
unfolding charge
returns-else-d-eq0 c = rw (ne_eqb _ _ c.if-d-eq0.false) c.raw.ensures
