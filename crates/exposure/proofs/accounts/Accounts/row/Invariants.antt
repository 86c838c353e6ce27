-- `Accounts::row` meets its contract: the pass of `RowPass`, scenario by scenario.
use mathlib.Core.List.{◌++◌}
use lib.IntN.{pos}
use lib.ListN.{drop, replicate}
use Rattle.exposure.specs.AccountsIn.{accounts_in}
use Rattle.exposure.proofs.RowPass.{RowPass}
use Rattle.exposure.proofs.accounts.Accounts.row.Given as goal

abbrev pub invariant-loop-j : goal.invariant-loop-j
invariant-loop-j l = RowPass (accounts_in l.self) (l.place-items ++ drop l.self.k (replicate 16 (pos 0))) l.j
