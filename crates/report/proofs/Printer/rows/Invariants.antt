-- `rows` meets its contract: before turn m the rows of members 1 to m are printed.
use Rattle.methodology.specs.Text.{rows}
use Rattle.report.specs.Prints.{Prints}
use Rattle.report.proofs.Printer.rows.Given as goal

abbrev pub invariant-loop-m : goal.invariant-loop-m
invariant-loop-m l = Prints l.initial.self (rows l.word l.width l.m l.figures) l.self
