-- `row` meets its contract. The invariant: what all the fields hold is what stands in the row before j, and then what is left.
use Rattle.std.proofs.Common.{◌≡◌, ℕ, eqb, Option, None, Some, ne_eqb, arith, ◌<◌, ◌^◌, rules, refl, w64}
use Rattle.std.specs.Option.{option_eq, unwrap_or}
use lib.Signed.{mag}
use mir.Val.{hbits}
use Rattle.numbers.proofs.Signed.{back_ok}
use Rattle.fields.proofs.RowRead.{rows_start, rows_bad, rows_on, rows_end}
use Rattle.fields.proofs.row.Goals as goal

-- no place is the last's next
place_is : (o : Option ℕ) (n j : ℕ) → j < n → eqb j (unwrap_or o n) ≡ option_eq eqb (Some j) o
place_is None n j h = ne_eqb j n (λ e. omega arith)
place_is (Some i) n j h = refl

pub loop-j-init : goal.loop-j-init
loop-j-init c = rows_start _ _ _ _ refl

pub returns-in_err-read : goal.returns-in_err-read
returns-in_err-read c = rw c.from_residual.ensures (rows_bad _ _ _ c.loop-j.invariant c.loop-j-test.true (rw (c.unwrap_or-kind_place.ensures, place_is c.args.kind_place _ c.loop-j.j c.loop-j-test.true, c.due.ensures.value) at c.in_err-read.ensures))

pub loop-j-preserved : goal.loop-j-preserved
loop-j-preserved c =
    let (read, after) = rw (c.unwrap_or-kind_place.ensures, place_is c.args.kind_place _ c.loop-j.j c.loop-j-test.true, c.due.ensures.value) at c.in_ok-read.ensures in
    let fits : mag c.in_ok-read.read < 2 ^ hbits w64 = search rules in
    rw (after, back_ok w64 c.in_ok-read.read fits) (rows_on _ _ _ c.loop-j.invariant c.in_ok-read.read c.loop-j-test.true read)

pub returns : goal.returns
returns c = rows_end _ _ _ c.loop-j.invariant c.loop-j-test.false
