-- `add_row` meets its contract: group 0 has no row, and group g's is at index g - 1.
use Rattle.exposure.proofs.Tables.{with_none, with_some}
use Rattle.exposure.proofs.rows.add_row.Goals as goal

pub returns-then-group-eq0 : goal.returns-then-group-eq0
returns-then-group-eq0 c = with_none _ _ _ c.if-group-eq0.true

pub returns : goal.returns
returns c = with_some _ _ _ _ c.if-group-eq0.false c.added.ensures
