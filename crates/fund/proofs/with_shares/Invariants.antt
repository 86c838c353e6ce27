-- `with_shares` meets its contract: one member's sum after another takes its share.
use mathlib.Core.Bool.{cond}
use Prim.Native.Nat.{◌+◌}
use lib.Dec.{ltb}
use lib.ListN.{get_or}
use Rattle.numbers.proofs.Filling.{Filled}
use Rattle.fund.specs.Shares.{share_in}
use Rattle.fund.proofs.with_shares.Given as goal

abbrev pub invariant-loop-i : goal.invariant-loop-i
invariant-loop-i l = Filled 32 (λ x. get_or l.fn.sums x 0 + cond (ltb x l.n) (share_in l.out x) 0) 0 l.fn.sums l.i l.all
