-- `from_members` meets its contract: the member lines are read, or the first bad one ends the report; then the opening call is made.
use Rattle.std.proofs.Common.{◌∙◌, arith, length-take-le}
use Rattle.answers.proofs.Outcomes.{opening_line}
use Rattle.answers.proofs.CallsSaid.{opening_refused, opening_accepted, opening_in_step}
use Rattle.month.proofs.members.from_members.Goals as goal

pub print_refused_opening-requires : goal.print_refused_opening-requires
print_refused_opening-requires c =
    let refused = rw (c.fresh.ensures, c.in-Err-outcome.is) at c.opening-outcome.ensures in
    omega (arith, opening_line c.in-Err-outcome.refusal refused)

pub returns-in-Err-outcome : goal.returns-in-Err-outcome
returns-in-Err-outcome c =
    let many = c.read_members.auto.groups ∙ length-take-le _ _ (omega arith) in
    let read = rw many at (c.in-Ok.ensures.due c.args.k) in
    let refused = rw (c.fresh.ensures, c.in-Err-outcome.is) at c.opening-outcome.ensures in
    rw (read, opening_refused _ c.in-Err-outcome.refusal refused) c.print_refused_opening.ensures

pub returns : goal.returns
returns c =
    let many = c.read_members.auto.groups ∙ length-take-le _ _ (omega arith) in
    let read = rw many at (c.in-Ok.ensures.due c.args.k) in
    let accepted = rw (c.fresh.ensures, c.in_default.is) at c.opening-outcome.ensures in
    rw (read, opening_accepted _ accepted) (c.days.ensures _ (opening_in_step _ accepted))
