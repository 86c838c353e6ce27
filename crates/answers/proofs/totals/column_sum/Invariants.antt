-- `column_sum` meets its contract: the numbers that are added and those of the members still to come are the column's. So none overflows.
use mathlib.Core.Path.{◌≡◌}
use Prim.Native.Nat.{◌+◌}
use Rattle.methodology.specs.Text.{column_sum}
use Rattle.answers.proofs.Columns.{left}
use Rattle.answers.proofs.totals.column_sum.Given as goal

abbrev pub invariant-loop-m : goal.invariant-loop-m
invariant-loop-m l = l.sum + left 5 l.n l.figures l.c l.m ≡ column_sum 5 l.n l.figures l.c
