-- `rows_greatest` meets its contract. The invariant: `most` is the greatest of the rows passed.
use mathlib.Core.Path.{refl, ◌∙◌}
use mathlib.Core.List.{[]}
use native.Mathlib.Omega.{arith}
use Rattle.numbers.specs.Sums.{greatest}
use Rattle.numbers.proofs.Sums.{greatest_more}
use Rattle.exposure.proofs.rows.rows_greatest.Goals as goal

pub loop-row-init : goal.loop-row-init
unfolding greatest
loop-row-init c = refl

pub loop-row-preserved : goal.loop-row-preserved
loop-row-preserved c =
    let l = c.loop-row in
    c.max-most.ensures ∙ greatest_more c.args.rows l.row-index [] _ _ _ (omega (arith, c.requires.tall)) l.invariant c.row_greatest.ensures
