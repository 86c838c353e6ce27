-- `write_five` meets its contract: the five stores put a row over the first five elements, and so does the filling of a day without losses.
use mathlib.Core.Path.{refl, ◌∙◌}
use mathlib.Core.List.{[], ◌∷◌}
use native.Mathlib.Omega.{arith}
use lib.Seq.{sets-eq}
use Rattle.methodology.specs.Day.{share, value, reserve, estimate}
use Rattle.fund.proofs.Dailies.{five_some, five_none}
use Rattle.fund.proofs.write_five.Goals as goal

pub returns-then-t-eq0 : goal.returns-then-t-eq0
returns-then-t-eq0 c = let a = c.args in rw (c.copy_from_slice.ensures.after, five_none a.e a.max a.t c.if-t-eq0.true) refl

pub returns : goal.returns
unfolding share value reserve estimate
returns c =
    let a = c.args in
    let cents = c.daily-cents in
    sets-eq (a.e ∷ c.share.result ∷ cents.result.value ∷ cents.result.reserve ∷ cents.result.estimate ∷ []) a.out.now 0 (omega arith)
    ∙ rw (five_some a.e a.max a.t c.if-t-eq0.false, c.share.ensures, cents.ensures.0, cents.ensures.1, cents.ensures.2)
