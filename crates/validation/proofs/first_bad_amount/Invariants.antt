-- `first_bad_amount` meets its contract. The invariant: no account before i is bad.
use Rattle.numbers.proofs.Lists.{NoneBefore}
use Rattle.methodology.specs.Account.{accounts}
use Rattle.methodology.specs.Brought.{day_brought}
use Rattle.methodology.specs.Refusals.{bad_amount}
use Rattle.validation.specs.Slices.{no_account}
use Rattle.validation.proofs.first_bad_amount.Given as goal

abbrev pub invariant-loop-i : goal.invariant-loop-i
invariant-loop-i l = NoneBefore bad_amount (accounts l.k (day_brought l.day)) no_account l.i
