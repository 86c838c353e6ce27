-- `days` meets its contract: the report from where it began is what was printed, and the report from where it goes on.
use Rattle.day.proofs.Steps.{turn_more, turn_last}
use Rattle.month.proofs.days.days.Goals as goal

pub loop-to-preserved : goal.loop-to-preserved
loop-to-preserved c = λ g h. turn_more (c.loop-to.invariant g h) c.in-Some.ensures.turn_meets

pub returns : goal.returns
returns c = λ g h. turn_last (c.loop-to.invariant g h) c.in_default.ensures.turn_meets
