-- `row_greatest` meets its contract. The invariant: `most` is the greatest of the numbers passed.
use mathlib.Core.Path.{◌≡◌}
use lib.ListN.{take}
use Rattle.numbers.specs.Signed.{◌⁺}
use Rattle.numbers.specs.Sums.{greatest}
use Rattle.exposure.proofs.rows.row_greatest.Given as goal

abbrev pub invariant-loop-x : goal.invariant-loop-x
invariant-loop-x l = l.most ≡ greatest (take l.x-index l.x-items) (λ z. z ⁺)
