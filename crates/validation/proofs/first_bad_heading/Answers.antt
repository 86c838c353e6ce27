-- `first_bad_heading` meets its contract. The invariant: what is left of the search, after the heading before i.
use native.Mathlib.Omega.{arith}
use Rattle.std.proofs.lemmas.Bool.Decides.{nat_tests}
use Rattle.validation.proofs.Headings.{search_more, search_stop}
use Rattle.validation.proofs.first_bad_heading.Goals as goal

pub returns-then-bad_heading : goal.returns-then-bad_heading
returns-then-bad_heading c = grind (arith, nat_tests, search_stop)

pub loop-i-preserved : goal.loop-i-preserved
loop-i-preserved c = grind (arith, nat_tests, search_more)
