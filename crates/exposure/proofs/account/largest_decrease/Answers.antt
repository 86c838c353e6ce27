-- `largest_decrease` meets its contract. The invariant: `most` is the greatest of the decreases passed.
use mathlib.Core.Path.{refl, ◌∙◌}
use native.Mathlib.Omega.{arith}
use lib.IntN.{pos}
use lib.Seq.{take_all}
use Rattle.numbers.specs.Sums.{greatest}
use Rattle.numbers.proofs.Sums.{greatest_more}
use Rattle.exposure.proofs.Decreases.{npv_back, stresses, stress_at, largest_is}
use Rattle.exposure.proofs.account.largest_decrease.Goals as goal

pub loop-stress-init : goal.loop-stress-init
unfolding greatest
loop-stress-init c = refl

pub decrease-requires : goal.decrease-requires
decrease-requires c =
    let (some, p) = c.requires in
    let (e, l) = stress_at _ some c.loop-stress.stress-index c.loop-stress-test.true in
    rw (e, npv_back p 0 some, npv_back p _ l) (p.at 0 some, p.at _ l)

pub loop-stress-preserved : goal.loop-stress-preserved
loop-stress-preserved c =
    let (some, p) = c.requires in
    let i = c.loop-stress.stress-index in
    let (e, l) = stress_at _ some i c.loop-stress-test.true in
    let fall = rw (npv_back p 0 some, e, npv_back p _ l, ← e) at c.decrease.ensures in
    c.max-most.ensures ∙ greatest_more (stresses c.args.row.now) i (pos 0) _ _ _ c.loop-stress-test.true c.loop-stress.invariant fall

pub returns : goal.returns
returns c =
    let all = rw (take_all c.loop-stress.stress-index (stresses c.args.row.now) (omega (arith, c.loop-stress-test.false))) at c.loop-stress.invariant in
    all ∙ largest_is c.args.row.now c.requires.0
