-- `turn` meets its contract: the line is the end line, or a day line of the right form and count, or bad.
use mathlib.Core.Path.{refl, sym, ap, ◌∙◌}
use Rattle.std.specs.Prelude.{Some, ℕ, ◌<◌, length}
use Rattle.std.proofs.lemmas.List.{length-drop}
use Rattle.std.proofs.Common.{arith}
use Rattle.std.proofs.lemmas.Bool.Decides.{Decides-eqb}
use Rattle.std.proofs.lemmas.Option.{IfSome_then}
use Rattle.std.proofs.lemmas.Slice.Eq.{strip_prefix_is}
use Rattle.methodology.specs.Text.{bytes}
use Rattle.accounts.proofs.Line.{line_shorter}
use Rattle.day.proofs.Steps.{same_due}
use Rattle.month.proofs.LinesDue.{end_bytes, end_due, not_end, day_bad, day_outside, day_good}
use Rattle.month.proofs.days.turn.Goals as goal

pub returns-in-Some-clause-turn_meets : goal.returns-in-Some-clause-turn_meets
returns-in-Some-clause-turn_meets c =
    let from = c.args.from in
    let found = strip_prefix_is Decides-eqb from.rest.now end_bytes (Some c.in-Some.rest) c.in-Some.ensures.cases in
    λ g h. rw (end_due g from.line from.rest.now c.in-Some.rest.now found) (c.end.ensures g h)

pub returns-in_default-numbers-clause-turn_meets : goal.returns-in_default-numbers-clause-turn_meets
unfolding bytes
returns-in_default-numbers-clause-turn_meets c =
    let from = c.args.from in
    let no_end = not_end from.rest.now c.in_default.ensures.cases in
    λ g h. rw (day_bad g from.line from.rest.now no_end c.in_default-numbers.ensures) c.refusal.ensures

pub returns-then-count_outside-clause-turn_meets : goal.returns-then-count_outside-clause-turn_meets
unfolding bytes
returns-then-count_outside-clause-turn_meets c =
    let from = c.args.from in
    let no_end = not_end from.rest.now c.in_default.ensures.cases in
    let read = c.in-Some-numbers.ensures.0 in
    let beyond = sym c.count_outside.ensures ∙ c.if-count_outside.true in
    λ g h. rw (day_outside g from.line from.rest.now no_end _ read beyond) c.refusal-then-count_outside.ensures

pub take_day-requires-clause-counted : goal.take_day-requires-clause-counted
take_day-requires-clause-counted c =
    let (read, after) = c.in-Some-numbers.ensures in
    omega (arith, c.args.from.counted, ap length after, line_shorter _ c.args.from.rest.now _ read)

pub returns-clause-further : goal.returns-clause-further
returns-clause-further c =
    let (read, after) = c.in-Some-numbers.ensures in
    IfSome_then _ {Q = λ to. length to.rest.now < length c.args.from.rest.now} c.take_day.ensures.goes_on
    (λ to h. omega (arith, ap length h.0, length-drop {A = ℕ}, ap length after, line_shorter _ c.args.from.rest.now _ read))

pub returns-clause-turn_meets : goal.returns-clause-turn_meets
unfolding bytes
returns-clause-turn_meets c =
    let from = c.args.from in
    let no_end = not_end from.rest.now c.in_default.ensures.cases in
    let (read, after) = c.in-Some-numbers.ensures in
    let within = sym c.count_outside.ensures ∙ c.if-count_outside.false in
    λ g h. same_due _ _ _ (day_good g from.line from.rest.now no_end _ read within ∙ rw after refl) (c.take_day.ensures.turn_meets g h)
