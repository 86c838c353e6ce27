-- `numbers` meets its contract: before turn i the first i numbers are printed.
use mathlib.Core.List.{◌∷◌, flat_map}
use lib.ListN.{take}
use Rattle.methodology.specs.Text.{tab, decimal}
use Rattle.report.specs.Prints.{Prints}
use Rattle.report.proofs.Printer.numbers.Given as goal

abbrev pub invariant-loop-x : goal.invariant-loop-x
invariant-loop-x l = Prints l.initial.self (flat_map (λ x. tab ∷ decimal x) (take l.x-index l.numbers)) l.self
