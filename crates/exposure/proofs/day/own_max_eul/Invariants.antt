-- `own_max_eul` meets its contract: the pass of `MaxPass`, member by member.
use Rattle.methodology.specs.Account.{accounts}
use Rattle.methodology.specs.Brought.{day_brought}
use Rattle.exposure.proofs.MaxPass.{MaxPass}
use Rattle.exposure.proofs.day.own_max_eul.Given as goal

abbrev pub invariant-loop-i : goal.invariant-loop-i
invariant-loop-i l = MaxPass l.fn.opening (accounts l.fn.opening.k (day_brought l.day)) l.rows l.top l.i l.left
