-- Calls made on a period: what each was asked, what came back, and what its contract says of it.
use Rattle.std.specs.Prelude.{◌≡◌, List, [], ◌∷◌, ℕ, length}
use Rattle.methodology.specs.declared.Opening.{Opening}
use Rattle.methodology.specs.Account.{DayInput}
use Rattle.methodology.specs.Register.{Call, Answer}
use Rattle.period.specs.declared.Period.{Period}
use Rattle.period.specs.declared.DayReturns.{DayReturns}
use Rattle.period.specs.declared.ClosingReturns.{ClosingReturns}
use Rattle.period.specs.Reading.{opening_returned, day_returned, closing_returned}
use Rattle.period.specs.Calls.{OpeningMeets, DayMeets, ClosingMeets}

-- a call's arguments, the lent buffer among them; an opening is lent none
pub data Asked : Type 0 where
  opening : (o : Opening) → Asked
  day : (d : DayInput) (out : List ℕ) → Asked
  closing : (out : List ℕ) → Asked

-- what an accepted call returns, as the program has it and in document 01's order
abbrev pub Returned : Asked → Type 0
Returned (Asked.opening o) = Unit {0}
Returned (Asked.day d out) = DayReturns
Returned (Asked.closing out) = ClosingReturns

abbrev pub figures_of : (a : Asked) → Returned a → List ℕ
figures_of (Asked.opening o) = opening_returned
figures_of (Asked.day d out) = day_returned
figures_of (Asked.closing out) = closing_returned

-- a call that was made: its arguments, document 01's answer, the period that it left, and the lent buffer after it
pub record Made : Type 0 where
  pub asked : Asked
  pub answer : Answer
  pub period : Period
  pub after : List ℕ

-- the lent buffer before it
abbrev pub lent : Asked → List ℕ
lent (Asked.opening o) = []
lent (Asked.day d out) = out
lent (Asked.closing out) = out

-- What the register is fed: "the arguments of each call as they stand at that call, the output's length among them, and nothing of the
-- program's period or answers".
abbrev pub call_of : Asked → Call
call_of (Asked.opening o) = Call.opening o
call_of (Asked.day d out) = Call.day d (length out)
call_of (Asked.closing out) = Call.closing (length out)

-- what the call's contract says of it, made on period p; lent no buffer, an opening leaves none
abbrev pub Meets : Period → Asked → Answer → (left : Period) → (after : List ℕ) → Type 0
Meets p (Asked.opening o) said left after = OpeningMeets p o said left × (after ≡ [])
Meets p (Asked.day d out) said left after = DayMeets p d out said left after
Meets p (Asked.closing out) said left after = ClosingMeets p out said left after

-- "every list of opening, day and closing calls [..], where each gets the period that the one before returned"
abbrev pub MadeOn : Period → List Made → Type 0
MadeOn p [] = Unit {0}
MadeOn p (c ∷ cs) = Meets p c.asked c.answer c.period c.after × MadeOn c.period cs
