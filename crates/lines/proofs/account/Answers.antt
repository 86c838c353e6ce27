-- `account` meets its contract: each exit is a law of `Readers` about the row that was read.
use Rattle.std.proofs.Common.{◌≡◌, true, false, refl, get_or, pos, rules, arith}
use Rattle.methodology.specs.Text.{bytes}
use Rattle.lines.proofs.FormsAsRows.{signs_wrong}
use Rattle.lines.proofs.Readers.{cast_asks, cast_gives, natural_none, natural_some, row_kind, no_account, signs_bad, signs_good}
use Rattle.lines.proofs.account.Goals as goal

pub returns-in_err-rest : goal.returns-in_err-rest
unfolding bytes
returns-in_err-rest c = rw c.from_residual.ensures (no_account _ _ (omega (arith, c.requires)) c.in_err-rest.ensures)

pub returns-in_err-member : goal.returns-in_err-member
unfolding bytes
returns-in_err-member c =
    let wrong : signs_wrong c.line.new.values ≡ true = rw (natural_none (get_or c.line.new.values 0 (pos 0)) (search rules) c.in_err-member.ensures) refl in
    rw c.from_residual-in_err-member.ensures (signs_bad _ _ (omega (arith, c.requires)) c.in_ok-rest.ensures.0 wrong)

pub returns-in_err-number : goal.returns-in_err-number
unfolding bytes
returns-in_err-number c =
    let wrong : signs_wrong c.line.new.values ≡ true = rw ((natural_some (get_or c.line.new.values 0 (pos 0)) (search rules) _ c.in_ok-member.ensures).0, natural_none (get_or c.line.new.values 1 (pos 0)) (search rules) c.in_err-number.ensures) refl in
    rw c.from_residual-in_err-number.ensures (signs_bad _ _ (omega (arith, c.requires)) c.in_ok-rest.ensures.0 wrong)

pub overflow_cast-kind : goal.overflow_cast-kind
overflow_cast-kind c = cast_asks (get_or c.line.new.values 2 (pos 0)) (search rules) (row_kind _ _ _ _ _ c.in_ok-rest.ensures.0)

pub returns-in_err-margin : goal.returns-in_err-margin
unfolding bytes
returns-in_err-margin c =
    let wrong : signs_wrong c.line.new.values ≡ true =
    rw ((natural_some (get_or c.line.new.values 0 (pos 0)) (search rules) _ c.in_ok-member.ensures).0, (natural_some (get_or c.line.new.values 1 (pos 0)) (search rules) _ c.in_ok-number.ensures).0, natural_none (get_or c.line.new.values 4 (pos 0)) (search rules) c.in_err-margin.ensures) refl in
    rw c.from_residual-in_err-margin.ensures (signs_bad _ _ (omega (arith, c.requires)) c.in_ok-rest.ensures.0 wrong)

pub returns-in_err-extra : goal.returns-in_err-extra
unfolding bytes
returns-in_err-extra c =
    let wrong : signs_wrong c.line.new.values ≡ true =
    rw ((natural_some (get_or c.line.new.values 0 (pos 0)) (search rules) _ c.in_ok-member.ensures).0, (natural_some (get_or c.line.new.values 1 (pos 0)) (search rules) _ c.in_ok-number.ensures).0, (natural_some (get_or c.line.new.values 4 (pos 0)) (search rules) _ c.in_ok-margin.ensures).0, natural_none (get_or c.line.new.values 5 (pos 0)) (search rules) c.in_err-extra.ensures) refl in
    rw c.from_residual-in_err-extra.ensures (signs_bad _ _ (omega (arith, c.requires)) c.in_ok-rest.ensures.0 wrong)

pub returns : goal.returns
unfolding bytes
returns c =
    let values = c.line.new.values in
    let (member, member_is) = natural_some (get_or c.line.new.values 0 (pos 0)) (search rules) _ c.in_ok-member.ensures in
    let (number, number_is) = natural_some (get_or c.line.new.values 1 (pos 0)) (search rules) _ c.in_ok-number.ensures in
    let (margin, margin_is) = natural_some (get_or c.line.new.values 4 (pos 0)) (search rules) _ c.in_ok-margin.ensures in
    let (extra, extra_is) = natural_some (get_or c.line.new.values 5 (pos 0)) (search rules) _ c.in_ok-extra.ensures in
    let right : signs_wrong values ≡ false = rw (member, number, margin, extra) refl in
    let kind = cast_gives (get_or values 2 (pos 0)) (search rules) (row_kind _ _ _ _ values c.in_ok-rest.ensures.0) in (
      rw (member_is, number_is, margin_is, extra_is, kind) (signs_good _ _ (omega (arith, c.requires)) c.in_ok-rest.ensures.0 right),
      c.in_ok-rest.ensures.1,
    )
