-- `run_month` meets its contract: what follows a month is shorter, since its heading is read.
use Rattle.std.proofs.Common.{length, ap, arith}
use Rattle.accounts.proofs.Line.{line_shorter}
use Rattle.vectors.proofs.run_month.Goals as goal

pub returns : goal.returns
returns g c =
    let (read, after) = c.in-Some.ensures in
    let parts = c.in-Some-split_at_checked.ensures.cases in
    omega (arith, line_shorter _ c.args.text.now _ read, ap length after, parts)
