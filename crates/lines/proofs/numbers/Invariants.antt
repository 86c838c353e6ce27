-- `numbers` meets its contract. The invariant: the first j values are none of them negative, and stand among the numbers.
use Rattle.lines.proofs.Readers.{Copied}
use Rattle.lines.proofs.numbers.Given as goal

abbrev pub invariant-loop-j : goal.invariant-loop-j
invariant-loop-j g l = Copied l.values l.number-items l.j
