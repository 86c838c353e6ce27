-- `member_losses` meets its contract: the pass of `LossPass`, member by member.
use mathlib.Core.List.{◌++◌}
use lib.ListN.{drop, replicate}
use Rattle.exposure.specs.AccountsIn.{accounts_in}
use Rattle.exposure.proofs.LossPass.{LossPass}
use Rattle.exposure.proofs.day.member_losses.Given as goal

abbrev pub invariant-loop-i : goal.invariant-loop-i
invariant-loop-i l = LossPass l.all.k (accounts_in l.all) (l.loss-items ++ drop l.n (replicate 32 0)) l.total l.i l.left
