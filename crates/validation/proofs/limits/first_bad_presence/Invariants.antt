-- `first_bad_presence` meets its contract. The invariant: no member before place i is bad.
use Prim.Native.Nat.{ℕ, ◌-◌}
use lib.ListN.{length, get_or}
use Rattle.numbers.proofs.Lists.{NoneBefore}
use Rattle.methodology.specs.Account.{members}
use Rattle.methodology.specs.Refusals.{bad_presence}
use Rattle.validation.proofs.limits.first_bad_presence.Given as goal

abbrev pub invariant-loop-i : goal.invariant-loop-i
invariant-loop-i l = NoneBefore (λ (m : ℕ). bad_presence (get_or l.firsts (m - 1) 0) (get_or l.lasts (m - 1) 0)) (members (length l.firsts)) 0 l.i
