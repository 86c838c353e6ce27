-- `Accounts::eul` meets its contract: the pass of `MemberPass`, account by account.
use Rattle.exposure.specs.Scenario.{eul_by}
use Rattle.exposure.specs.AccountsIn.{accounts_in}
use Rattle.exposure.proofs.MemberPass.{Pass}
use Rattle.exposure.proofs.accounts.Accounts.eul.Given as goal

abbrev pub invariant-loop-i : goal.invariant-loop-i
invariant-loop-i l = Pass (eul_by l.self.k l.scenario) (accounts_in l.self) l.tally l.i
