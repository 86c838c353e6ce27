-- `read_members` meets its contract: what is due of all lines is what is due of those that are left.
use mathlib.Core.Path.{sym}
use Rattle.std.proofs.Common.{arith}
use Rattle.methodology.specs.Text.{bytes}
use Rattle.month.proofs.Openings.{left_bad, left_other, left_more}
use Rattle.month.proofs.members.read_members.Goals as goal

pub returns-in_default : goal.returns-in_default
unfolding bytes
returns-in_default c = rw (sym c.loop-j.auto.groups) (left_bad c.loop-j.invariant (omega arith) c.in_default.ensures)

pub returns-then-member-j : goal.returns-then-member-j
unfolding bytes
returns-then-member-j c = rw (sym c.loop-j.auto.groups) (left_other c.loop-j.invariant (omega arith) c.in-Some.ensures.0 c.if-member-j.true)

pub loop-j-preserved : goal.loop-j-preserved
unfolding bytes
loop-j-preserved c = left_more c.loop-j.invariant (omega arith) c.in-Some.ensures.0 c.if-member-j.false _ c.in-Some.ensures.1
