-- `passed_over` meets its contract. The invariant: what is asked of all members between is what is left to ask, of m and those after it.
use mathlib.Core.Path.{sym, ◌∙◌}
use Prim.Native.Nat.{◌-◌}
use native.Mathlib.Omega.{arith}
use Rattle.validation.specs.Slices.{listed}
use Rattle.validation.proofs.Missing.{over_none, over_here, over_more}
use Rattle.validation.proofs.passed_over.Goals as goal

pub returns-then-present : goal.returns-then-present
returns-then-present c =
    let o = listed c.args.opening.now in
    let r = c.requires in
    sym (c.loop-m.invariant ∙ over_here o c.args.number c.loop-m.m c.args.to (omega arith) (omega arith) (omega arith) (sym c.if-present.ensures))

pub loop-m-preserved : goal.loop-m-preserved
loop-m-preserved c =
    let o = listed c.args.opening.now in
    c.loop-m.invariant ∙ over_more o c.args.number c.loop-m.m c.args.to (omega arith) (sym c.if-present.ensures)

pub returns : goal.returns
returns c =
    let o = listed c.args.opening.now in
    sym (c.loop-m.invariant ∙ over_none o c.args.number (c.loop-m.m - 1) c.args.to (omega arith))
