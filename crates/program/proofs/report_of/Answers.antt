-- `report_of` meets its contract: where no read failed, what is put into the buffer is the report of the whole input.
use Rattle.std.proofs.Common.{arith}
use Rattle.month.proofs.Whole.{report_fits, whole}
use Rattle.program.specs.declared.TheConstants.{TEXT_ROOM}
use Rattle.program.proofs.report_of.Goals as goal

pub returns-clause-out_after : goal.returns-clause-out_after
returns-clause-out_after c =
    rw c.in_ok-n.was (whole c.args.text.now _ _ c.in_ok-n.n _ c.requires.2 c.report.ensures TEXT_ROOM (omega arith))

pub returns-clause-upper_bound : goal.returns-clause-upper_bound
returns-clause-upper_bound c = report_fits c.args.text.now _ _ c.in_ok-n.n _ c.requires.2 c.report.ensures
