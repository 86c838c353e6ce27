-- `sized` meets its contract: the lines of the day, accepted or refused, are what the report has of it.
use Rattle.std.proofs.Common.{arith, length-take-le}
use Rattle.answers.proofs.Outcomes.{day_sums, day_line}
use Rattle.answers.proofs.CallsSaid.{day_refused, day_in_step, day_accepted}
use Rattle.day.proofs.Progress.sized.Goals as goal

pub print_refused_day-requires : goal.print_refused_day-requires
print_refused_day-requires c =
    let refused = rw c.in-Err.is at c.day-outcome.ensures in
    omega (arith, day_line c.in-Err.refusal refused c.args.self.line, c.args.self.counted)

pub returns-in-Err-clause-turn_meets : goal.returns-in-Err-clause-turn_meets
returns-in-Err-clause-turn_meets c =
    let few = c.args.self.limits.0 in
    let refused = rw c.in-Err.is at c.day-outcome.ensures in
    λ g h. rw (day_refused g h _ (length-take-le _ _ (omega (arith, few))) c.in-Err.refusal refused) c.print_refused_day.ensures

pub print_day-requires-clause-every : goal.print_day-requires-clause-every
print_day-requires-clause-every c =
    let accepted = rw c.in-Ok.is at c.day-outcome.ensures in
    day_sums accepted c.args.self.n c.args.self.limits.0

pub returns-clause-turn_meets : goal.returns-clause-turn_meets
returns-clause-turn_meets c =
    let few = c.args.self.limits.0 in
    let accepted = rw c.in-Ok.is at c.day-outcome.ensures in
    λ g h.
    let room = length-take-le _ _ (omega (arith, few)) in
    record { g = _; stands = day_in_step g h _ room accepted; lines = _; printed = c.print_day.ensures; left = day_accepted g h _ room accepted _ _ }
