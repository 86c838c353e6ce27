-- `due` meets its contract.
use Rattle.fields.proofs.RowRead.{due_last, due_more}
use Rattle.fields.proofs.due.Goals as goal

pub returns-then-left-eq0-clause-value : goal.returns-then-left-eq0-clause-value
returns-then-left-eq0-clause-value c = due_last _ c.if-left-eq0.true

pub returns-else-left-eq0-clause-value : goal.returns-else-left-eq0-clause-value
returns-else-left-eq0-clause-value c = due_more _ c.if-left-eq0.false
