-- `close` meets its contract: what `Replies` has for what the refusal table says, and what a period in range has in its fields.
use mathlib.Core.Path.{sym}
use native.Mathlib.Omega.{arith}
use Rattle.std.proofs.lemmas.Grind.{common_steps}
use Rattle.std.proofs.lemmas.Result.{err_from_is_err_and}
use Rattle.period.proofs.InRange.{held_opened, charges, ready}
use Rattle.period.proofs.Replies.{closing_refused, closing_accepted}
use Rattle.period.proofs.Period.close.Goals as goal

pub returns-in_err-output_row : goal.returns-in_err-output_row
returns-in_err-output_row c =
    let met = err_from_is_err_and c.from_residual.result c.from_residual.ensures.1 in
    rw (met.1, met.2) (closing_refused _ _ _ (sym c.in_err-output_row.ensures))

pub shared_ref_as_front-write_contributions : goal.shared_ref_as_front-write_contributions
shared_ref_as_front-write_contributions c = (held_opened (ready _ _ _ (sym c.in_ok-output_row.ensures)).in_range_lem).members_few

pub write_contributions-funds-requires : goal.write_contributions-funds-requires
write_contributions-funds-requires c =
    let r = ready _ _ _ (sym c.in_ok-output_row.ensures) in
    let few = (held_opened r.in_range_lem).members_few in
    record { sizes = (grind (arith, common_steps, few), grind (arith, common_steps, few, r.room_long)); each_sum = charges r.in_range_lem }

pub returns : goal.returns
returns c = let w = c.write_contributions-funds.ensures in closing_accepted _ _ (sym c.in_ok-output_row.ensures) _ _ w.value w.out_after
