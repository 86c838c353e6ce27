-- `days` meets its contract: the report from where it began is what was printed, and the report from where it goes on.
use Rattle.std.proofs.Common.{length}
use Rattle.methodology.specs.Register.{Register}
use Rattle.day.specs.Turns.{days_due, Stands, GoesOn}
use Rattle.month.proofs.days.days.Given as goal

abbrev pub invariant-loop-to : goal.invariant-loop-to
invariant-loop-to l =
    (g : Register) → Stands g l.initial.from → GoesOn (days_due l.initial.from.rest.now l.initial.from.line g) l.initial.printer l.printer l.from

abbrev pub decreases-loop-to : goal.decreases-loop-to
decreases-loop-to l = length l.from.rest.now
