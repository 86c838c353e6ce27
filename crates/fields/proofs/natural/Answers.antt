-- `natural` meets its contract: each return is a law of `DigitsRead`, by the tests that led there.
use Rattle.std.proofs.Common.{⊎_elim, arith}
use Rattle.fields.proofs.Fronts.{rest_is}
use Rattle.fields.proofs.DigitsRead.{other_bad, open_bad, size_is, empty_bad, zeros_bad, run_good}
use Rattle.fields.proofs.natural.Goals as goal
use Rattle.fields.proofs.natural.Goals.{then-size-text-via-then-size-text, then-size-text-via-else-size-text+then-text-size, then-size-eq0-via-then-size-eq0, then-size-eq0-via-else-size-eq0+then-size-gt1}

pub returns-then-size-text : goal.returns-then-size-text
returns-then-size-text c =
    let r = c.first_digits-value.ensures in
    elim c.then-size-text.branch [
      | then-size-text-via-then-size-text w ↦ open_bad _ _ _ _ r.run c.requires (omega arith)
      | then-size-text-via-else-size-text+then-text-size w ↦ other_bad _ _ _ _ r.run (omega (arith, r.run.within)) r.over w.if-text-size.true
    ]

pub returns-then-size-eq0 : goal.returns-then-size-eq0
returns-then-size-eq0 c =
    let r = c.first_digits-value.ensures in
    elim c.then-size-eq0.branch [
      | then-size-eq0-via-then-size-eq0 w ↦ empty_bad _ _ _ _ r.run (omega (arith, r.run.within)) c.if-text-size.false c.requires w.if-size-eq0.true
      | then-size-eq0-via-else-size-eq0+then-size-gt1 w ↦
          zeros_bad _ _ _ _ r.run (omega (arith, r.run.within)) c.if-text-size.false c.requires w.if-size-gt1.true.0 w.if-size-gt1.true.1
    ]

pub returns : goal.returns
returns c =
    let r = c.first_digits-value.ensures in (
      run_good _ _ _ _ r.run (omega (arith, r.run.within)) c.if-text-size.false c.requires c.if-size-eq0.false (λ z. ⊎_elim (λ k. k.1) (λ k. absurd (k z)) c.if-size-gt1.either),
      rest_is _ _ (size_is _ _ _ _ r.run (omega (arith, r.run.within)) c.if-text-size.false c.requires),
    )
