-- `numbers` meets its contract: before turn i the first i numbers are printed.
use mathlib.Core.List.{flat_map}
use native.Mathlib.Omega.{arith}
use lib.Seq.{take_all}
use Rattle.methodology.specs.Text.{printed}
use Rattle.report.proofs.Laws.{prints_none, prints_then, prints_number_more}
use Rattle.report.proofs.Printer.numbers.Goals as goal

pub loop-x-init : goal.loop-x-init
unfolding flat_map
loop-x-init c = prints_none c.args.self.now

pub loop-x-preserved : goal.loop-x-preserved
loop-x-preserved c = prints_number_more _ c.args.numbers.now c.loop-x.x-index (omega arith) c.loop-x.invariant c.field.ensures

pub returns : goal.returns
unfolding printed
returns c =
    let numbers = c.args.numbers.now in
    prints_then (rw (take_all c.loop-x.x-index numbers c.loop-x-test.false) at c.loop-x.invariant) c.bytes.ensures
