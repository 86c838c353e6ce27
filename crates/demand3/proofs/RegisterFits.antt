-- What the register says of an accepted call fits 64 bits: such a call can be made, and what the program returns and writes does.
use mathlib.Core.Path.{◌≡◌, sym, ap, subst, ◌∙◌}
use Prim.Native.Nat.{ℕ}
use lib.ListN.{replicate, length-replicate}
use Rattle.std.specs.List.{AllByRecursion}
use Rattle.methodology.specs.Account.{DayInput}
use Rattle.methodology.specs.Refusals.{clear}
use Rattle.methodology.specs.Register.{Call, Register, start, refusal, step, returned, written, answer, buffer}
use Rattle.methodology.proofs.Passed.{step_clear}
use Rattle.fund.proofs.Dailies.{Few}
use Rattle.period.specs.declared.Period.{Period}
use Rattle.period.specs.Follows.{Follows}
use Rattle.period.proofs.Sizing.{passes_all, written_few}
use Rattle.period.proofs.Simulation.{starts, day_row_lem, day_writes}
use Rattle.demand3.specs.Made.{Asked, lent, call_of}
use Rattle.demand3.specs.Demand3.{Fits64, Narrow}
use Rattle.demand3.proofs.EveryList.{agrees}
use Rattle.demand3.proofs.Fitting.{zeros_fit, narrow_fresh, fits, makes}

-- a register that calls lead to, with the period that they leave
pub record Kept (g : Register) : Type 0 where
  pub period : Period
  pub follows : Follows g period
  pub narrow : Narrow period

pub kept_first : Kept start
kept_first = record { period = _; follows = starts; narrow = narrow_fresh }

-- after a call it is still one, and the numbers of an accepted call fit
pub record CallFits (g : Register) (c : Call) : Type 0 where
  pub kept : Kept (step g c)
  pub returned_fits : refusal g c ≡ clear → AllByRecursion Fits64 (returned (step g c) c)
  pub written_fits : refusal g c ≡ clear → AllByRecursion Fits64 (written (step g c) c)

as_asked : {g : Register} → Kept g → (a : Asked) → AllByRecursion Fits64 (lent a) → CallFits g (call_of a)
unfolding answer buffer
as_asked k a free =
    let (said, left, after, m) = makes k.period a in
    let f = fits k.narrow a said left after m in
    let (follows, agreed) = agrees k.follows a said left after m in
    record {
      kept = record { period = left; follows = follows; narrow = f.period };
      returned_fits = λ passes. rw (agreed.answer, passes) at f.answer;
      written_fits = λ passes. rw (agreed.buffer, passes) at (f.buffer free);
    }

-- a day and a closing are lent zeros to write over
pub call_fits : {g : Register} → Kept g → (c : Call) → CallFits g c
call_fits k (Call.opening o) = as_asked k (Asked.opening o) tt
call_fits {g} k (Call.day d room) =
    subst (λ (r : ℕ). CallFits g (Call.day d r)) (length-replicate room 0) (as_asked k (Asked.day d (replicate room 0)) (zeros_fit room))
call_fits {g} k (Call.closing room) =
    subst (λ (r : ℕ). CallFits g (Call.closing r)) (length-replicate room 0) (as_asked k (Asked.closing (replicate room 0)) (zeros_fit room))

-- a day's numbers are so small that sums of them fit too
pub writes_few : {g : Register} → Kept g → (d : DayInput) (room : ℕ) → refusal g (Call.day d room) ≡ clear
    → AllByRecursion Few (written (step g (Call.day d room)) (Call.day d room))
writes_few {g} k d room passes =
    let call = Call.day d room in
    let s = passes_all k.period d room (day_row_lem k.follows d room ∙ passes) in
    subst (AllByRecursion Few) (day_writes k.follows d room ∙ ap (λ (g : Register). written g call) (sym (step_clear g call passes))) (written_few s)
