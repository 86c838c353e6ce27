-- `numbers` meets its contract. The invariant: the first j values are none of them negative, and stand among the numbers.
use Rattle.std.proofs.Common.{◌<◌, length, get_or, pos, rules, arith}
use Rattle.std.proofs.lemmas.List.{length-replicate}
use Rattle.lines.proofs.Readers.{natural_none, natural_some, copied_more, no_numbers, some_negative, all_natural}
use Rattle.lines.proofs.numbers.Goals as goal

pub returns-in_err-rest : goal.returns-in_err-rest
returns-in_err-rest g c = rw c.from_residual.ensures (no_numbers _ _ _ (rw length-replicate at c.in_err-rest.ensures))

pub returns-in_err-number : goal.returns-in_err-number
returns-in_err-number g c =
    let inside : c.loop-j.j < length c.line.new.values = omega (arith, length-replicate g.row.N (pos 0)) in
    rw c.from_residual-in_err-number.ensures (some_negative _ _ _ (rw length-replicate at c.in_ok-rest.ensures.0) inside (natural_none (get_or c.line.new.values c.loop-j.j (pos 0)) (search rules) c.in_err-number.ensures))

pub loop-j-preserved : goal.loop-j-preserved
loop-j-preserved g c =
    let (natural, value) = natural_some (get_or c.line.new.values c.loop-j.j (pos 0)) (search rules) _ c.in_ok-number.ensures in
    copied_more c.loop-j.invariant _ (omega (arith, length-replicate g.row.N (pos 0))) natural value

pub returns : goal.returns
returns g c = (all_natural _ _ _ (rw length-replicate at c.in_ok-rest.ensures.0) c.loop-j.invariant (omega (arith, length-replicate g.row.N (pos 0))), c.in_ok-rest.ensures.1)
