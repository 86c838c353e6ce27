-- `read` meets its contract. The invariant: what is due of all lines is what is due of those that are left (`ReadSoFar`).
use Rattle.std.proofs.Common.{get_or, pos, arith, rules, w64}
use Rattle.numbers.proofs.Signed.{back_ok}
use Rattle.accounts.proofs.Stores.{lent_inside, lent_some, row_stresses, row_npvs, npvs_are}
use Rattle.accounts.proofs.AcctLoop.{reading_bad, reading_over, reading_more}
use Rattle.accounts.proofs.Places.read.Goals as goal

pub returns-in_default : goal.returns-in_default
returns-in_default c =
    reading_bad c.loop-j.invariant c.loop-j-test.true (rw (row_stresses c.args.k (omega arith)) at c.in_default.ensures)

pub returns-then-text-next-gt-MOST_BYTES : goal.returns-then-text-next-gt-MOST_BYTES
returns-then-text-next-gt-MOST_BYTES c =
    let (read, next) = c.in-Some.ensures in
    reading_over c.loop-j.invariant c.loop-j-test.true (rw (row_stresses c.args.k (omega arith)) at read) next c.if-text-next-gt-MOST_BYTES.true

pub loop-j-preserved : goal.loop-j-preserved
loop-j-preserved c =
    let inside = lent_inside c.loop-j.j c.args.k c.loop-j.self.npvs (omega arith) (omega arith) (search rules) in
    let values = c.account.new.values in
    let (read, next) = c.in-Some.ensures in
    let long = row_npvs c.args.k (omega arith) values c.account.auto.values in
    let npvs = npvs_are _ values c.copy_from_slice.new.self _ (lent_some c.loop-j.j c.args.k c.loop-j.self.npvs inside) (back_ok w64 (get_or values 3 (pos 0)) (search rules)) c.copy_from_slice.ensures.after in
    rw npvs
    (reading_more c.loop-j.invariant c.loop-j-test.true (rw (row_stresses c.args.k (omega arith)) at read) next _ c.if-text-next-gt-MOST_BYTES.false long
    (record { heading = omega arith; npvs = omega (arith, inside); margin = omega arith; extra = omega arith }))
