-- `line` meets its contract: the word, and then the numbers.
use mathlib.Core.List.{append_assoc}
use Rattle.methodology.specs.Text.{printed}
use Rattle.report.proofs.Laws.{prints_then}
use Rattle.report.proofs.Printer.line.Goals as goal

pub returns : goal.returns
unfolding printed
returns c = simp append_assoc (prints_then c.bytes.ensures c.numbers.ensures)
