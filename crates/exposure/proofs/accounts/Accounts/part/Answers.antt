-- `Accounts::part` meets its contract: the slices that it lends hold the accounts of that part.
use mathlib.Core.Path.{refl}
use Rattle.exposure.specs.AccountsIn.{slices_in}
use Rattle.exposure.proofs.Parts.{part_accounts}
use Rattle.exposure.proofs.accounts.Accounts.part.Goals as goal

pub returns-clause-is : goal.returns-clause-is
returns-clause-is c =
    let a = c.args.self.now in
    (refl, part_accounts a.k (slices_in a) c.args.a c.args.b c.requires.0 c.requires.1)
