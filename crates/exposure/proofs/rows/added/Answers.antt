-- `added` meets its contract: one place after another holds the sum.
use borrow.Author.Rules.{rules}
use native.Mathlib.Omega.{arith}
use lib.IntN.{pos}
use Rattle.numbers.proofs.Signed.{back}
use Rattle.numbers.proofs.Filling.{filled_more, filled_all}
use Rattle.exposure.proofs.Tables.{near_back, sum_fits}
use Rattle.exposure.specs.GroupRows.{plus}
use Rattle.exposure.proofs.rows.added.Goals as goal

pub loop-j-preserved : goal.loop-j-preserved
loop-j-preserved c =
    let l = c.loop-j in
    filled_more 16 _ (pos 0) _ (search rules)
    (rw (l.invariant.rest l.j (omega arith), near_back c.requires.first l.j, near_back c.requires.second l.j) (back (sum_fits c.requires.first c.requires.second l.j)))
    l.invariant

pub returns : goal.returns
unfolding plus
returns c = filled_all 16 _ (pos 0) _ (omega arith) c.loop-j.invariant
