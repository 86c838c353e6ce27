-- `read_members` meets its contract: what is due of all lines is what is due of those that are left.
use Rattle.month.proofs.Openings.{Left}
use Rattle.month.proofs.members.read_members.Given as goal

abbrev pub invariant-loop-j : goal.invariant-loop-j
invariant-loop-j l = Left l.text l.groups l.firsts l.lasts l.j l.rest
