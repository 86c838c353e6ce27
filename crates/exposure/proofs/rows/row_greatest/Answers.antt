-- `row_greatest` meets its contract. The invariant: `most` is the greatest of the numbers passed.
use borrow.Author.Rules.{rules}
use mathlib.Core.Path.{refl, ◌∙◌}
use native.Mathlib.Omega.{arith}
use lib.IntN.{pos}
use lib.ListN.{get_or}
use mir.Syntax.{w64}
use mir.Val.{SFits}
use Rattle.numbers.specs.Signed.{◌⁺}
use Rattle.numbers.specs.Sums.{greatest}
use Rattle.numbers.proofs.Signed.{back}
use Rattle.numbers.proofs.Sums.{greatest_more}
use Rattle.exposure.proofs.rows.row_greatest.Goals as goal

pub loop-x-init : goal.loop-x-init
unfolding greatest
loop-x-init c = refl

pub loop-x-preserved : goal.loop-x-preserved
loop-x-preserved c =
    let l = c.loop-x in
    let f : SFits w64 (get_or c.args.row l.x-index (pos 0)) = search rules in
    let g = rw (back f) at c.gain.ensures in
    c.max-most.ensures ∙ greatest_more c.args.row l.x-index (pos 0) (λ z. z ⁺) _ _ (omega (arith, c.requires)) l.invariant g
