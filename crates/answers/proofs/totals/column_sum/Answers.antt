-- `column_sum` meets its contract: the numbers that are added and those of the members still to come are the column's. So none overflows.
use mathlib.Core.Path.{◌∙◌}
use native.Mathlib.Nat.{zero-add}
use native.Mathlib.Omega.{arith}
use Rattle.answers.proofs.Columns.{left_first, left_none, left_next}
use Rattle.answers.proofs.totals.column_sum.Goals as goal

pub loop-m-init : goal.loop-m-init
loop-m-init c = zero-add _ ∙ left_first _ _ _ _

pub overflow_add-sum-in-loop-m : goal.overflow_add-sum-in-loop-m
overflow_add-sum-in-loop-m c =
    let next = left_next 5 c.args.n c.args.figures.now c.args.c c.requires.c_lt_width.0 c.loop-m.m (omega arith) in
    omega (arith, next, c.requires.c_bound)

pub loop-m-preserved : goal.loop-m-preserved
loop-m-preserved c =
    let next = left_next 5 c.args.n c.args.figures.now c.args.c c.requires.c_lt_width.0 c.loop-m.m (omega arith) in
    omega (arith, next)

pub returns : goal.returns
returns c =
    let none = left_none 5 c.args.n c.args.figures.now c.args.c c.loop-m.m (omega arith) in
    omega (arith, none)
