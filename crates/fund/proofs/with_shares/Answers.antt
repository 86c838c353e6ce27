-- `with_shares` meets its contract: one member's sum after another takes its share.
use borrow.Author.Tests.{le-ltb}
use native.Mathlib.Omega.{arith}
use Rattle.numbers.proofs.Filling.{filled_rest}
use Rattle.fund.proofs.with_shares.Goals as goal

pub returns : goal.returns
returns c = filled_rest 32 _ 0 _ (λ x h g. rw (le-ltb x c.args.n (omega (arith, c.loop-i-test.false))) (omega arith)) c.loop-i.invariant
