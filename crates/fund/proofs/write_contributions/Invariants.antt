-- `write_contributions` meets its contract: before turn i the buffer is filled with the rows of the first i members, and the total is theirs.
-- It fits, since no contribution is above twice the greatest Max EUL.
use mathlib.Core.Path.{◌≡◌}
use Prim.Native.Nat.{◌*◌, ◌≤◌}
use lib.ListN.{length, take}
use Rattle.numbers.specs.Sums.{Σ}
use Rattle.numbers.proofs.Filling.{FilledRows}
use Rattle.methodology.specs.Contribution.{charge, funded, three}
use Rattle.quotient.specs.Ranges.{greatest_total}
use Rattle.fund.proofs.write_contributions.Given as goal

abbrev pub invariant-loop-i : goal.invariant-loop-i
invariant-loop-i l =
    FilledRows 3 (λ s. three (charge l.m s l.d)) l.sums (length l.sums) l.initial.out l.i l.out × (l.total ≤ l.i * (2 * greatest_total)) × (l.total ≡ Σ (take l.i l.sums) (λ s. funded (charge l.m s l.d)))
