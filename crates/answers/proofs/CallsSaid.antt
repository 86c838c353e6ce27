-- What a call says is what the report has of it, for a period that follows its register, and whatever the report goes on with. The answer
-- tells the row of the refusal table, and that tells what `opened`, `sized` and `closed` print.
use mathlib.Core.Path.{◌≡◌, refl, sym, ap, subst, ◌∙◌}
use mathlib.Core.List.{List, [], ◌++◌}
use Prim.Native.Nat.{ℕ, ◌*◌}
use lib.ListN.{length}
use Rattle.methodology.specs.declared.Refusal.{Refusal}
use Rattle.methodology.specs.RowNumbers.{row_index}
use Rattle.methodology.specs.Refusals.{clear}
use Rattle.methodology.specs.declared.Opening.{Opening}
use Rattle.methodology.specs.Account.{DayInput}
use Rattle.methodology.specs.Register.{Call, Register, start, refusal, accept, step, returned, written, Answer, accepted, refused_by, answer_by, answer, buffer}
use Rattle.methodology.specs.Text.{refused_line, opening_line_named, line_named, day_lines, fund_lines, Expected, day, followed_by}
use Rattle.methodology.specs.Text.{opened as Text·opened, sized as Text·sized, closed as Text·closed}
use Rattle.methodology.proofs.Passed.{step_clear}
use Rattle.period.specs.declared.Period.{Period}
use Rattle.period.specs.Calls.{fresh_period, OpeningMeets, DayMeets, ClosingMeets}
use Rattle.period.specs.Follows.{Follows}
use Rattle.period.proofs.Simulation.{starts, opening_follows, day_follows, closing_follows}
use Rattle.answers.specs.InStep.{InStep}
use Rattle.answers.proofs.RefusalRows.{is_clear, is_told}

-- ---- the opening

module _ (o : Opening) where
  abbrev first : Call
  first = Call.opening o

  opening_says : {said : Answer} {left : Period} → OpeningMeets fresh_period o said left
      → answer_by (refusal start first) (returned (step start first) first) ≡ said
  unfolding answer
  opening_says m = sym (opening_follows starts m).1

  pub opening_refused : (met : Refusal) {left : Period} → OpeningMeets fresh_period o (refused_by met) left → (rest : Expected → List ℕ)
      → followed_by (Text·opened (refusal start first) o) rest ≡ refused_line met (opening_line_named (row_index met))
  unfolding Text·opened followed_by
  opening_refused met m rest = let t = is_told (refusal start first) _ met (opening_says m) in rw (t.is, t.number, t.index) refl

  module _ {left : Period} (m : OpeningMeets fresh_period o (accepted []) left) where
    opening_clear : refusal start first ≡ clear
    opening_clear = (is_clear (refusal start first) _ _ (opening_says m)).0

    pub opening_accepted : (rest : Expected → List ℕ) → followed_by (Text·opened (refusal start first) o) rest ≡ rest (day (step start first))
    unfolding Text·opened followed_by
    opening_accepted rest = rw opening_clear refl

    pub opening_in_step : InStep (step start first) left o.n o.k
    unfolding accept
    opening_in_step =
        let held : (step start first).held ≡ o = ap (λ (g : Register). g.held) (step_clear start first opening_clear) in
        record { follows = (opening_follows starts m).0; members = ap (λ (o : Opening). o.n) held; scenarios = ap (λ (o : Opening). o.k) held }

-- ---- a day

day_kept : (g : Register) (d : DayInput) (room : ℕ) → (accept g (Call.day d room)).held ≡ g.held
unfolding accept
day_kept g d room = refl

abbrev call : Register → DayInput → Call
call g d = Call.day d (5 * g.held.n)

module _ (g : Register) {period : Period} {n k : ℕ} (h : InStep g period n k) (d : DayInput) {before : List ℕ} (room : length before ≡ 5 * n) where
  module _ {said : Answer} {left : Period} {after : List ℕ} (m : DayMeets period d before said left after) where
    abbrev DayFollows : Call → Type 0
    DayFollows c = Follows (step g c) left × (said ≡ answer g c) × (after ≡ buffer g c before)

    day_follows_lem : DayFollows (call g d)
    day_follows_lem =
        subst (λ (x : ℕ). DayFollows (Call.day d x)) (room ∙ ap (λ (x : ℕ). 5 * x) (sym h.members)) (day_follows h.follows m)

    day_says : answer_by (refusal g (call g d)) (returned (step g (call g d)) (call g d)) ≡ said
    unfolding answer
    day_says = sym day_follows_lem.1

  pub day_refused : (met : Refusal) {left : Period} {after : List ℕ} → DayMeets period d before (refused_by met) left after
      → (line : ℕ) (rest : Expected → List ℕ)
      → followed_by (Text·sized (refusal g (call g d)) g d line) rest ≡ refused_line met (line_named line (row_index met))
  unfolding Text·sized followed_by
  day_refused met m line rest = let t = is_told (refusal g (call g d)) _ met (day_says m) in rw (t.is, t.number, t.index) refl

  module _ {figures : List ℕ} {left : Period} {after : List ℕ} (m : DayMeets period d before (accepted figures) left after) where
    passes : (refusal g (call g d) ≡ clear) × (returned (step g (call g d)) (call g d) ≡ figures)
    passes = is_clear (refusal g (call g d)) _ _ (day_says m)

    held_is : (step g (call g d)).held ≡ g.held
    held_is = ap (λ (x : Register). x.held) (step_clear g (call g d) passes.0) ∙ day_kept g d (5 * g.held.n)

    pub day_in_step : InStep (step g (call g d)) left n k
    day_in_step =
        record {
          follows = (day_follows_lem m).0;
          members = ap (λ (o : Opening). o.n) held_is ∙ h.members;
          scenarios = ap (λ (o : Opening). o.k) held_is ∙ h.scenarios;
        }

    day_wrote : after ≡ written (step g (call g d)) (call g d)
    unfolding buffer
    day_wrote = (day_follows_lem m).2 ∙ rw passes.0

    pub day_accepted : (line : ℕ) (rest : Expected → List ℕ)
        → followed_by (Text·sized (refusal g (call g d)) g d line) rest ≡ day_lines d.terms.number n figures after ++ rest (day (step g (call g d)))
    unfolding Text·sized followed_by
    day_accepted line rest = rw (passes.0, passes.1, ← day_wrote, day_in_step.members) refl

-- ---- the closing

closing_kept : (g : Register) (room : ℕ) → (accept g (Call.closing room)).held ≡ g.held
unfolding accept
closing_kept g room = refl

abbrev last : Register → Call
last g = Call.closing (3 * g.held.n)

module _ (g : Register) {period : Period} {n k : ℕ} (h : InStep g period n k) {before : List ℕ} (room : length before ≡ 3 * n) where
  module _ {said : Answer} {left : Period} {after : List ℕ} (m : ClosingMeets period before said left after) where
    abbrev ClosingSays : Call → Type 0
    ClosingSays c = (said ≡ answer g c) × (after ≡ buffer g c before)

    closing_says_lem : ClosingSays (last g)
    closing_says_lem =
        let (_, said, wrote) = closing_follows h.follows m in
        subst (λ (x : ℕ). ClosingSays (Call.closing x)) (room ∙ ap (λ (x : ℕ). 3 * x) (sym h.members)) (said, wrote)

    closing_says : answer_by (refusal g (last g)) (returned (step g (last g)) (last g)) ≡ said
    unfolding answer
    closing_says = sym closing_says_lem.0

  pub closing_refused : (met : Refusal) {left : Period} {after : List ℕ} → ClosingMeets period before (refused_by met) left after
      → (line : ℕ) → Text·closed (refusal g (last g)) g line ≡ refused_line met line
  unfolding Text·closed
  closing_refused met m line = let t = is_told (refusal g (last g)) _ met (closing_says m) in rw (t.is, t.number) refl

  pub closing_accepted : {figures : List ℕ} {left : Period} {after : List ℕ} → ClosingMeets period before (accepted figures) left after
      → (line : ℕ) → Text·closed (refusal g (last g)) g line ≡ fund_lines n figures after
  unfolding Text·closed buffer
  closing_accepted {after = after} m line =
      let (c, f) = is_clear (refusal g (last g)) _ _ (closing_says m) in
      let kept : (step g (last g)).held ≡ g.held = ap (λ (x : Register). x.held) (step_clear g (last g) c) ∙ closing_kept g (3 * g.held.n) in
      let members : (step g (last g)).held.n ≡ n = ap (λ (o : Opening). o.n) kept ∙ h.members in
      let wrote : after ≡ written (step g (last g)) (last g) = (closing_says_lem m).1 ∙ rw c in
      rw (c, f, ← wrote, members) refl
