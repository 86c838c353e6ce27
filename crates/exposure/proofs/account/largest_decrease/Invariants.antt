-- `largest_decrease` meets its contract. The invariant: `most` is the greatest of the decreases passed.
use Rattle.std.proofs.Common.{◌≡◌, take, ◌-ℤ◌}
use Rattle.numbers.specs.Signed.{◌⁺}
use Rattle.numbers.specs.Sums.{greatest}
use Rattle.methodology.specs.Account.{base}
use Rattle.exposure.proofs.account.largest_decrease.Given as goal

abbrev pub invariant-loop-stress : goal.invariant-loop-stress
invariant-loop-stress l = l.most ≡ greatest (take l.stress-index l.stresses) (λ s. (base l.row -ℤ s) ⁺)
