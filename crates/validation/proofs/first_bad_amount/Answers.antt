-- `first_bad_amount` meets its contract. The invariant: no account before i is bad.
use mathlib.Core.Path.{sym, ◌∙◌}
use native.Mathlib.Omega.{arith}
use Rattle.std.proofs.lemmas.Bool.Decides.{nat_tests}
use Rattle.numbers.proofs.Lists.{none_before}
use Rattle.methodology.specs.Brought.{day_brought}
use Rattle.validation.proofs.Amounts.{amount_more, amount_stop, amount_end}
use Rattle.validation.proofs.first_bad_amount.Goals as goal

pub loop-i-init : goal.loop-i-init
loop-i-init c = none_before _ _ _

pub returns-then-bad_amounts : goal.returns-then-bad_amounts
returns-then-bad_amounts c =
    let bad = sym c.bad_amounts.ensures ∙ c.if-bad_amounts.true in
    let found = amount_stop c.args.k (day_brought c.args.day.now) c.loop-i.i c.loop-i-test.true bad c.loop-i.invariant in
    grind (arith, nat_tests)

pub loop-i-preserved : goal.loop-i-preserved
loop-i-preserved c =
    amount_more c.args.k (day_brought c.args.day.now) c.loop-i.i c.loop-i-test.true (sym c.bad_amounts.ensures ∙ c.if-bad_amounts.false) c.loop-i.invariant

pub returns : goal.returns
returns c =
    let none_found = amount_end c.args.k (day_brought c.args.day.now) c.loop-i.i c.loop-i-test.false c.loop-i.invariant in
    grind (arith, nat_tests)
