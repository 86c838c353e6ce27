-- `run_all` ends: each month leaves less of the text.
use Rattle.std.proofs.Common.{length}
use Rattle.vectors.proofs.run_all.Given as goal

abbrev pub decreases-loop-next : goal.decreases-loop-next
decreases-loop-next g l = length l.rest
