-- `rows_greatest` meets its contract. The invariant: `most` is the greatest of the rows passed.
use mathlib.Core.Path.{◌≡◌}
use lib.ListN.{take}
use Rattle.numbers.specs.Signed.{◌⁺}
use Rattle.numbers.specs.Sums.{greatest}
use Rattle.exposure.proofs.rows.rows_greatest.Given as goal

abbrev pub invariant-loop-row : goal.invariant-loop-row
invariant-loop-row l = l.most ≡ greatest (take l.row-index l.row-items) (λ row. greatest row (λ z. z ⁺))
