-- `end` meets its contract: what follows is a bad line, or the closing call is made, and the lines that it gives are printed.
use mathlib.Core.Path.{sym, ◌∙◌}
use Rattle.std.proofs.Common.{arith, length-take-le}
use Rattle.answers.proofs.CallsSaid.{closing_refused, closing_accepted}
use Rattle.month.proofs.LinesDue.{bytes_after, closing_due}
use Rattle.month.proofs.days.end.Goals as goal

pub returns-then-not-is_empty : goal.returns-then-not-is_empty
returns-then-not-is_empty c = λ g h. rw (bytes_after g c.args.from.line c.args.rest.now (sym c.is_empty.ensures ∙ c.if-not-is_empty.true)) c.refusal.ensures

pub returns-in-Ok : goal.returns-in-Ok
returns-in-Ok c =
    let few = c.args.from.limits.0 in
    let accepted = rw c.in-Ok.is at c.closing-outcome.ensures in
    λ g h.
    let due = closing_due g c.args.from.line c.args.rest.now (sym c.is_empty.ensures ∙ c.if-not-is_empty.false) in
    rw (due, closing_accepted g h (length-take-le _ _ (omega (arith, few))) accepted) c.print_fund.ensures

pub returns-in-Err : goal.returns-in-Err
returns-in-Err c =
    let few = c.args.from.limits.0 in
    let refused = rw c.in-Err.is at c.closing-outcome.ensures in
    λ g h.
    let due = closing_due g c.args.from.line c.args.rest.now (sym c.is_empty.ensures ∙ c.if-not-is_empty.false) in
    rw (due, closing_refused g h (length-take-le _ _ (omega (arith, few))) c.in-Err.refusal refused) c.refusal-in-Err.ensures
