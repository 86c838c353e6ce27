-- `print_day` meets its contract: the three pieces are printed one after another, and the sums are those that the definition has.
use Rattle.methodology.specs.Text.{day_lines, bytes}
use Rattle.report.proofs.Laws.{prints_then}
use Rattle.answers.proofs.print_day.Goals as goal

pub returns : goal.returns
unfolding day_lines bytes
returns c = prints_then (prints_then c.line.ensures c.rows.ensures) (rw c.day_totals-sums.ensures at c.line-2.ensures)
