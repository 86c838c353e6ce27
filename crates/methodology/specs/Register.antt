-- Document 01, "Calls on a period": the register, "fed the arguments of each call [..] and nothing of the program's period or answers", and
-- what a call answers and leaves in its lent buffer by it. The demands are the customer's, numbered.
use Rattle.std.specs.Prelude.{List, [], ◌∷◌, ℕ, Option, Some, None, Ok, Err, length}
use Rattle.methodology.specs.declared.Status.{Status}
use Rattle.methodology.specs.declared.Status.TheVariants.{Fresh, Open, Closed}
use Rattle.methodology.specs.declared.Refusal.{Refusal}
use Rattle.methodology.specs.declared.Opening.{Opening}
use Rattle.methodology.specs.Account.{DayInput, no_opening, accounts}
use Rattle.methodology.specs.Day.{total, dailies}
use Rattle.methodology.specs.Contribution.{KeptDay, reported_max_eul, highest, counted, contributions, total_funded}
use Rattle.methodology.specs.RowNumbers.{row_number, row_index}
use Rattle.methodology.specs.Refusals.{Verdict, opening_refusal, day_refusal, closing_refusal}

-- A call: "the arguments of each call as they stand at that call, the output's length among them", which is `room`.
pub data Call : Type 0 where
  opening : Opening → Call
  day : DayInput → (room : ℕ) → Call
  closing : (room : ℕ) → Call

-- "It holds a status (fresh, open or closed), what the last accepted opening brought, and the days kept", the last first.
pub record Register : Type 0 where
  pub status : Status
  pub held : Opening
  pub days : List KeptDay

-- "It starts fresh, with no day kept." No opening was accepted yet, and no answer depends on what is held then.
abbrev pub start : Register
start = record { status = Fresh; held = no_opening; days = [] }

-- "the last accepted day number is that of the last day kept, or 0 if there is none"; the last day kept is the first of the list
abbrev pub last_number : List KeptDay → ℕ
last_number [] = 0
last_number (d ∷ ds) = d.number

-- "At each call the refusal table is read with what the register holds"
unfoldable pub refusal : Register → Call → Verdict
refusal g (opening o) = opening_refusal g.status o
refusal g (day d room) = day_refusal g.status g.held (last_number g.days) d room
refusal g (closing room) = closing_refusal g.status g.held room

-- The register as an accepted call leaves it: "an opening makes the status open, is held, and drops all days; a day is kept; a closing
-- makes the status closed". M, D, the last accepted day number and all sums are worked from the days, so an opening makes them 0.
unfoldable pub accept : Register → Call → Register
accept g (opening o) = record { status = Open; held = o; days = [] }
accept g (day d room) =
    record {
      status = g.status;
      held = g.held;
      days = record { number = d.terms.number; accounts = accounts g.held.k d } ∷ g.days;
    }
accept g (closing room) = record { status = Closed; held = g.held; days = g.days }

-- one of two, as a call is accepted or meets a row
abbrev pub if_accepted {ℓ} : {A : Type ℓ} → Verdict → (then otherwise : A) → A
if_accepted (Ok _) x y = x
if_accepted (Err r) x y = y

-- "A call that meets a row is refused by the first in the order above, and the register stays as it was. Any other call is accepted".
-- "Accepted, in M, D and demand 3, means this."
unfoldable pub step : Register → Call → Register
step g c = if_accepted (refusal g c) (accept g c) g

-- What a call answers: "acceptance, with the figures due if any, or one numbered refusal" (demand 1), "with its index in rows 5 and 6"
-- (demand 3), or "with the first such member's number" in row 10, in the index's place (document 02, Change 7).
pub data Answer : Type 0 where
  accepted : (figures : List ℕ) → Answer
  refused : (number : ℕ) → Answer
  refused_at : (number index : ℕ) → Answer

-- The figures that an accepted call returns, "worked from that call's arguments and the register as the call leaves it" (demand 3): a day
-- "returns T and Max EUL", a closing "returns D, M and the total funded". A day's Max EUL is the one that it reports (document 02, Change
-- 3), over the days that the register keeps, this one among them; D goes by those of them that count (Change 4).
unfoldable pub returned : (after : Register) → Call → List ℕ
returned g (opening o) = []
returned g (day d room) = total g.held (accounts g.held.k d) ∷ reported_max_eul g.held g.days ∷ []
returned g (closing room) = length (counted g.held g.days) ∷ highest g.held g.days ∷ total_funded g.held g.days ∷ []

-- what an accepted call writes to its lent buffer; an opening is lent none
unfoldable pub written : (after : Register) → Call → List ℕ
written g (opening o) = []
written g (day d room) = dailies g.held (reported_max_eul g.held g.days) (accounts g.held.k d)
written g (closing room) = contributions g.held g.days

-- a refusal is answered by its row's number, with the index that the row has
abbrev pub refused_with : (number : ℕ) → (index : Option ℕ) → Answer
refused_with number None = refused number
refused_with number (Some index) = refused_at number index

abbrev pub refused_by : Refusal → Answer
refused_by r = refused_with (row_number r) (row_index r)

abbrev pub answer_by : Verdict → (figures : List ℕ) → Answer
answer_by (Ok _) figures = accepted figures
answer_by (Err r) figures = refused_by r

-- the answer to a call
unfoldable pub answer : Register → Call → Answer
answer g c = answer_by (refusal g c) (returned (step g c) c)

-- The lent buffer after a call, from that before it, which is `room` long. A refused call leaves "period, buffers as before".
unfoldable pub buffer : Register → Call → (before : List ℕ) → List ℕ
buffer g c before = if_accepted (refusal g c) (written (step g c) c) before
