-- `Accounts::of_day` meets its contract: a day's terms say nothing of its accounts.
use mathlib.Core.Path.{refl}
use Rattle.methodology.specs.Account.{accounts, account_at}
use Rattle.exposure.proofs.accounts.Accounts.of_day.Goals as goal

pub returns-clause-is : goal.returns-clause-is
unfolding accounts account_at
returns-clause-is c = (refl, refl)
