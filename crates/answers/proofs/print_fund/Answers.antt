-- `print_fund` meets its contract: the two pieces are printed one after the other.
use Rattle.methodology.specs.Text.{fund_lines, bytes}
use Rattle.report.proofs.Laws.{prints_then}
use Rattle.answers.proofs.print_fund.Goals as goal

pub returns : goal.returns
unfolding fund_lines bytes
returns c = prints_then c.line.ensures c.rows.ensures
