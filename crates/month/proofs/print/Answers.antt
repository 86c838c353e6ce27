-- `print` meets its contract: the period line, its limits, and the report from the member lines on.
use mathlib.Core.Path.{◌≡◌, sym, ◌∙◌}
use mathlib.Core.Bool.{true, false, ◌||◌}
use lib.ListN.{get_or}
use Rattle.methodology.specs.Refusals.{n_outside, k_outside}
use Rattle.methodology.specs.Text.{bytes}
use Rattle.month.proofs.LinesDue.{period_bad, period_outside, period_good}
use Rattle.month.proofs.print.Goals as goal
use Rattle.month.proofs.print.Goals.{then-n_outside-via-then-n_outside, then-n_outside-via-else-n_outside+then-k_outside}

pub returns-in_default : goal.returns-in_default
unfolding bytes
returns-in_default c = rw (period_bad c.args.text.now c.in_default.ensures) c.refusal.ensures

pub returns-then-n_outside : goal.returns-then-n_outside
unfolding bytes
returns-then-n_outside c =
    let ns = c.in-Some.line.0 in
    let beyond : (n_outside (get_or ns 0 0) || k_outside (get_or ns 1 0)) ≡ true =
    elim c.then-n_outside.branch [
      | then-n_outside-via-then-n_outside w ↦ rw (sym c.n_outside.ensures ∙ w.if-n_outside.true)
      | then-n_outside-via-else-n_outside+then-k_outside w ↦
          rw (sym c.n_outside.ensures ∙ w.if-n_outside.false, sym w.k_outside.ensures ∙ w.if-k_outside.true)
    ] in
    rw (period_outside c.args.text.now ns c.in-Some.ensures.0 beyond) c.refusal-then-n_outside.ensures

pub returns : goal.returns
unfolding bytes
returns c =
    let ns = c.in-Some.line.0 in
    let within : (n_outside (get_or ns 0 0) || k_outside (get_or ns 1 0)) ≡ false =
    rw (sym c.n_outside.ensures ∙ c.if-n_outside.false, sym c.k_outside.ensures ∙ c.if-k_outside.false) in
    rw (period_good c.args.text.now ns c.in-Some.ensures.0 within, ← c.in-Some.ensures.1) c.from_members.ensures
