-- `rows` meets its contract: before turn m the rows of members 1 to m are printed.
use mathlib.Core.List.{flat_map}
use Prim.Native.Nat.{◌-◌, ◌*◌}
use native.Mathlib.Omega.{arith}
use lib.ListN.{length, drop, length-drop}
use lib.Seq.{take_all}
use Rattle.methodology.specs.Text.{rows}
use Rattle.report.proofs.Laws.{prints_none, prints_row_more}
use Rattle.report.proofs.Printer.rows.Goals as goal

pub loop-m-init : goal.loop-m-init
unfolding rows flat_map
loop-m-init c = prints_none c.args.self.now

pub loop-m-preserved : goal.loop-m-preserved
loop-m-preserved c =
    let figures = c.args.figures.now in
    let from = c.args.width * c.loop-m.m in
    let rest = take_all (length figures - from) (drop from figures) (omega (arith, length-drop from figures)) in
    prints_row_more _ _ _ _ c.loop-m.invariant (rw rest at c.row.ensures)
