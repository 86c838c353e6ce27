-- `open` meets its contract: what `Replies` has for what the refusal table says.
use mathlib.Core.Path.{sym}
use native.Mathlib.Omega.{arith}
use Rattle.std.proofs.lemmas.Result.{err_from_is_err_and}
use Rattle.validation.proofs.OpeningPasses.{opening_leaves}
use Rattle.period.specs.Reading.{brought}
use Rattle.period.proofs.Replies.{while_open, row_met, placed, opening_accepted}
use Rattle.period.proofs.Period.open.Goals as goal

pub returns-then-is_open : goal.returns-then-is_open
returns-then-is_open c = while_open _ _ (sym c.if-is_open.ensures)

pub returns-in_err-opening_rows : goal.returns-in_err-opening_rows
returns-in_err-opening_rows c =
    let met = err_from_is_err_and c.from_residual.result c.from_residual.ensures.1 in
    rw (met.1, met.2) (row_met _ _ (sym c.if-is_open.ensures) _ (sym c.in_err-opening_rows.ensures))

pub places-requires : goal.places-requires
places-requires c = let o = (opening_leaves _ (sym c.in_ok-opening_rows.ensures)).in_limits in omega (arith, o.groups_long, o.members_few)

pub places-requires-2 : goal.places-requires-2
places-requires-2 c = let o = (opening_leaves _ (sym c.in_ok-opening_rows.ensures)).in_limits in omega (arith, o.firsts_long, o.members_few)

pub places-requires-3 : goal.places-requires-3
places-requires-3 c = let o = (opening_leaves _ (sym c.in_ok-opening_rows.ensures)).in_limits in omega (arith, o.lasts_long, o.members_few)

pub returns : goal.returns
returns c =
    let o = brought c.args.n c.args.k c.args.groups.now c.args.firsts.now c.args.lasts.now in
    rw c.without_days.ensures
    (opening_accepted _ _ (sym c.if-is_open.ensures) (sym c.in_ok-opening_rows.ensures)
    (placed o c.places.ensures c.places-2.ensures c.places-3.ensures))
