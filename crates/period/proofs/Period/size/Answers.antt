-- `size` meets its contract: what `Replies` has for what the refusal table says; `Sizing` has what the figures ask for, and that they are the
-- day's.
use mathlib.Core.Path.{sym}
use native.Mathlib.Omega.{arith}
use Rattle.std.proofs.lemmas.Grind.{common_steps}
use Rattle.std.proofs.lemmas.Result.{err_from_is_err_and}
use Rattle.period.proofs.InRange.{held_opened, ready}
use Rattle.period.proofs.Replies.{output_refused, input_refused, day_accepted}
use Rattle.period.proofs.Sizing.{admits, members_few, grouped, sizable, sums_fit, total_is, parts, top_few, reported_is, leaves_none, out_is, out_long, shares_few, leaves_some}
use Rattle.period.proofs.Period.size.Goals as goal

pub returns-in_err-output_row : goal.returns-in_err-output_row
returns-in_err-output_row c =
    let met = err_from_is_err_and c.from_residual.result c.from_residual.ensures.1 in
    rw (met.1, met.2) (output_refused _ _ _ _ (sym c.in_err-output_row.ensures))

pub day_rows-requires : goal.day_rows-requires
day_rows-requires c = let o = held_opened (ready _ _ _ (sym c.in_ok-output_row.ensures)).in_range_lem in (o.members_few, o.scenarios_few)

pub returns-in_err-day_rows : goal.returns-in_err-day_rows
returns-in_err-day_rows c =
    let met = err_from_is_err_and c.from_residual-in_err-day_rows.result c.from_residual-in_err-day_rows.ensures.1 in
    rw (met.1, met.2) (input_refused _ _ _ (sym c.in_ok-output_row.ensures) _ (sym c.in_err-day_rows.ensures))

pub day_figures-figures-requires : goal.day_figures-figures-requires
day_figures-figures-requires c = let a = admits _ _ _ (sym c.in_ok-output_row.ensures) (sym c.in_ok-day_rows.ensures) in (sizable a, grouped a)

pub shared_ref_as_front-write_dailies : goal.shared_ref_as_front-write_dailies
shared_ref_as_front-write_dailies c = members_few (admits _ _ _ (sym c.in_ok-output_row.ensures) (sym c.in_ok-day_rows.ensures))

pub write_dailies-requires : goal.write_dailies-requires
write_dailies-requires c =
    let a = admits _ _ _ (sym c.in_ok-output_row.ensures) (sym c.in_ok-day_rows.ensures) in
    record {
      sizes = (grind (arith, common_steps, members_few a), grind (arith, common_steps, members_few a, a.room_long));
      each_loss = parts a c.day_figures-figures.ensures;
      max_bound = omega (arith, c.max-reported.ensures, a.in_range_lem.bounded, top_few a c.day_figures-figures.ensures);
    }

pub overflow_add-self : goal.overflow_add-self
overflow_add-self c =
    let r = (admits _ _ _ (sym c.in_ok-output_row.ensures) (sym c.in_ok-day_rows.ensures)).in_range_lem in
    omega (arith, r.counted, r.month)

pub with_shares-self-requires : goal.with_shares-self-requires
with_shares-self-requires c =
    let a = admits _ _ _ (sym c.in_ok-output_row.ensures) (sym c.in_ok-day_rows.ensures) in
    let are = c.day_figures-figures.ensures in
    record {
      sizes = (members_few a, out_long a are _ c.write_dailies.ensures);
      each_share = shares_few a are _ c.write_dailies.ensures c.if-total-gt0.true;
      each_sum = sums_fit a;
    }

pub returns-then-total-gt0 : goal.returns-then-total-gt0
returns-then-total-gt0 c =
    let lent = sym c.in_ok-output_row.ensures in
    let brought = sym c.in_ok-day_rows.ensures in
    let a = admits _ _ _ lent brought in
    let are = c.day_figures-figures.ensures in
    let wrote = c.write_dailies.ensures in
    let some = c.if-total-gt0.true in
    let reported = reported_is a are c.max-reported.ensures in
    day_accepted _ _ _ lent brought (total_is a are) reported (leaves_some a are _ wrote some reported c.with_shares-self.ensures) (out_is a are _ wrote)

pub returns-else-total-gt0 : goal.returns-else-total-gt0
returns-else-total-gt0 c =
    let lent = sym c.in_ok-output_row.ensures in
    let brought = sym c.in_ok-day_rows.ensures in
    let a = admits _ _ _ lent brought in
    let are = c.day_figures-figures.ensures in
    let reported = reported_is a are c.max-reported.ensures in
    day_accepted _ _ _ lent brought (total_is a are) reported (leaves_none a are (omega (arith, c.if-total-gt0.false)) reported)
    (out_is a are _ c.write_dailies.ensures)
