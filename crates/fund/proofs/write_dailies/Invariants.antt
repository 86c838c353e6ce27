-- `write_dailies` meets its contract: before turn i the buffer is filled with the rows of the first i members.
use lib.ListN.{length}
use Rattle.numbers.proofs.Filling.{FilledRows}
use Rattle.methodology.specs.Day.{five}
use Rattle.fund.proofs.write_dailies.Given as goal

abbrev pub invariant-loop-i : goal.invariant-loop-i
invariant-loop-i l = FilledRows 5 (λ e. five e l.max l.total) l.losses (length l.losses) l.initial.out l.i l.out
