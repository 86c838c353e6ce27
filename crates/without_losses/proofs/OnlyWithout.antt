-- A month all of whose days are without losses (document 02, Change 4): "closing answers as in Change 2". A closing's figures go by the days
-- that count, and of these there are none, as in a month that has not begun.
use mathlib.Core.Path.{◌≡◌, ap, sym, ◌∙◌}
use mathlib.Core.List.{List, []}
use Prim.Native.Nat.{ℕ}
use Rattle.std.specs.List.{AllByRecursion}
use Rattle.methodology.specs.declared.Status.TheVariants.{Closed}
use Rattle.methodology.specs.Day.{total}
use Rattle.methodology.specs.Contribution.{KeptDay, counted}
use Rattle.methodology.specs.Register.{Call, Register, refusal, accept, if_accepted, answer_by, answer, buffer}
use Rattle.methodology.proofs.Passed.{answer_is, buffer_is}
use Rattle.methodology.proofs.Counted.{counted_none}
use Rattle.without_losses.specs.PutIn.{SameFigures}
use Rattle.without_losses.proofs.PutIn.{same_figures, returned_same, written_same}

-- a closing answers and writes the same over other days that come to the same figures, as over those alone that count (`left_out`)
pub closing_same : (g : Register) (days : List KeptDay) (room : ℕ) (before : List ℕ) → SameFigures g.held g.days days
    → let g' : Register = record { status = g.status; held = g.held; days = days } in
    (answer g (Call.closing room) ≡ answer g' (Call.closing room)) × (buffer g (Call.closing room) before ≡ buffer g' (Call.closing room) before)
unfolding refusal accept
closing_same g days room before f =
    let g' : Register = record { status = g.status; held = g.held; days = days } in
    let c = Call.closing room in (
      answer_is g c ∙ ap (answer_by (refusal g c)) (returned_same Closed g.held f c) ∙ sym (answer_is g' c),
      buffer_is g c before ∙ ap (λ l. if_accepted (refusal g c) l before) (written_same Closed g.held f c) ∙ sym (buffer_is g' c before),
    )

pub as_not_begun : (g : Register) (room : ℕ) (before : List ℕ) → AllByRecursion (λ d. total g.held d.accounts ≡ 0) g.days
    → let none : Register = record { status = g.status; held = g.held; days = [] } in
    (answer g (Call.closing room) ≡ answer none (Call.closing room)) × (buffer g (Call.closing room) before ≡ buffer none (Call.closing room) before)
unfolding counted
as_not_begun g room before all = closing_same g [] room before (same_figures g.held g.days [] (counted_none g.held g.days all))
