-- `added` meets its contract: one place after another holds the sum.
use lib.IntN.{pos, ◌+ℤ◌}
use lib.ListN.{get_or}
use Rattle.numbers.proofs.Filling.{Filled}
use Rattle.exposure.proofs.rows.added.Given as goal

abbrev pub invariant-loop-j : goal.invariant-loop-j
invariant-loop-j l = Filled 16 (λ x. get_or l.fn.a x (pos 0) +ℤ get_or l.b x (pos 0)) (pos 0) l.fn.a l.j l.sum-items
