-- `refusal` meets its contract: its array and its word are those of `refused_line`.
use Rattle.methodology.specs.Text.{bytes}
use Rattle.report.proofs.Printer.refusal.Goals as goal

pub returns : goal.returns
unfolding bytes
returns c = rw c.number.ensures at c.line.ensures
