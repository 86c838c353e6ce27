-- `row` meets its contract: the word, the first number and the others, one after another.
use mathlib.Core.List.{flat_map, append_assoc}
use Rattle.methodology.specs.Text.{printed}
use Rattle.report.proofs.Laws.{prints_then}
use Rattle.report.proofs.Printer.row.Goals as goal

pub returns : goal.returns
unfolding printed flat_map
returns c = simp append_assoc (prints_then c.bytes.ensures (prints_then c.field.ensures c.numbers.ensures))
