-- `write_contributions` meets its contract: before turn i the buffer is filled with the rows of the first i members, and the total is theirs.
-- It fits, since no contribution is above twice the greatest Max EUL.
use mathlib.Core.Path.{refl, ap, ◌∙◌}
use Prim.Native.Nat.{ℕ, ◌*◌, ◌≤◌}
use native.Mathlib.Omega.{arith}
use borrow.Author.Rules.{rules}
use Rattle.numbers.specs.Sums.{Σ}
use Rattle.numbers.proofs.Filling.{filled_rows_none, filled_rows_more}
use Rattle.numbers.proofs.Sums.{Σ-more}
use Rattle.methodology.specs.Contribution.{charge, funded, three}
use Rattle.quotient.specs.Ranges.{Charge, greatest_total}
use Rattle.fund.proofs.RawCharge.{charge_le}
use Rattle.fund.proofs.write_contributions.Goals as goal

pub loop-i-init : goal.loop-i-init
unfolding three Σ
loop-i-init c = (filled_rows_none 3 _ (λ s. refl) (search rules) c.requires.sizes.1, omega arith, refl)

-- a raw charge, and the contribution that it funds, are at most twice the greatest Max EUL
raw_most : {m s d : ℕ} → Charge m s d → charge m s d ≤ 2 * greatest_total
raw_most {m} {s} {d} h = omega (arith, charge_le m s d h.shares, h.bounded)

funded_most : {m s d : ℕ} → Charge m s d → funded (charge m s d) ≤ 2 * greatest_total
unfolding funded
funded_most h = omega (arith, raw_most h)

pub write_three-total-requires-clause-raw_bound : goal.write_three-total-requires-clause-raw_bound
write_three-total-requires-clause-raw_bound c = omega (arith, raw_most (c.requires.each_sum c.loop-i.i (search rules)), c.raw_charge.ensures)

pub overflow_add-total : goal.overflow_add-total
overflow_add-total c =
    let h = c.requires.each_sum c.loop-i.i (search rules) in
    let w = c.write_three-total.ensures.value ∙ ap funded c.raw_charge.ensures in
    omega (arith, funded_most h, w)

pub loop-i-preserved : goal.loop-i-preserved
unfolding three
loop-i-preserved c =
    let w = c.write_three-total in
    let r = c.raw_charge in
    let v = c.loop-i.invariant in
    let h = c.requires.each_sum c.loop-i.i (search rules) in
    let f = w.ensures.value ∙ ap funded r.ensures in (
      filled_rows_more 3 _ (λ s. refl) (search rules) 0 (search rules) v.0 w.auto.out (rw r.ensures at w.ensures.out_after),
      omega (arith, funded_most h, f, v.1),
      Σ-more c.args.sums.now c.loop-i.i 0 _ _ _ (search rules) v.2 f,
    )
