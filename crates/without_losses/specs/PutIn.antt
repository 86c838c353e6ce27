-- Document 02, Change 4: a day without losses put into a month, anywhere. What becomes of the calls after it, by the register: each is
-- answered and writes the same, but that a day that was refused by one of its accounts may be refused by its number.
use Rattle.std.specs.Prelude.{◌≡◌, List, [], ◌∷◌, ℕ, ◌<◌, ◌≤◌, Option, Some, None}
use Rattle.methodology.specs.declared.Opening.{Opening}
use Rattle.methodology.specs.Account.{DayInput, accounts}
use Rattle.methodology.specs.Day.{total}
use Rattle.methodology.specs.Contribution.{KeptDay, highest, counted, raw, exact_charge, contributions, total_funded}
use Rattle.methodology.specs.Refusals.{clear}
use Rattle.methodology.specs.Register.{Call, Register, refusal, if_accepted, step, Answer, refused, refused_at, answer, buffer}

-- ---- days

-- two lists of days that come to the same figures of a closing: the days that count, so D and the mean; M; every charge and contribution
pub record SameFigures (o : Opening) (days days' : List KeptDay) : Type 0 where
  pub counted_same : counted o days ≡ counted o days'
  pub m_same : highest o days ≡ highest o days'
  pub exact_same : (m : ℕ) → exact_charge o days m ≡ exact_charge o days' m
  pub raw_same : (m : ℕ) → raw o days m ≡ raw o days' m
  pub contributions_same : contributions o days ≡ contributions o days'
  pub funded_same : total_funded o days ≡ total_funded o days'

-- ---- calls

-- a day call without losses that the register accepts
pub record AcceptedWithout (g : Register) (d : DayInput) (room : ℕ) : Type 0 where
  pub passes : refusal g (Call.day d room) ≡ clear
  pub without : total g.held (accounts g.held.k d) ≡ 0

-- The number of the next day that an open register accepts of these calls, none where it accepts a closing before. While it is open it
-- accepts no opening, and a refused call leaves it as it was.
abbrev pub next_of : Call → Option ℕ
next_of (Call.opening o) = None
next_of (Call.day d room) = Some d.terms.number
next_of (Call.closing room) = None

abbrev pub next_number : Register → List Call → Option ℕ
next_number g [] = None
next_number g (c ∷ cs) = if_accepted (refusal g c) (next_of c) (next_number g cs)

-- The number of a day that is put in is between those of the accepted days around it: above the one before by row 3, since it is accepted,
-- and below the next.
abbrev pub BelowNext : (number : ℕ) → Option ℕ → Type 0
BelowNext number None = Unit {0}
BelowNext number (Some next) = number < next

-- What a call is answered without the day that has this number, and with it: the same; or 3 in place of a refusal with an index, by row 5 or
-- 6, where the call's own number is not above that of the day.
pub data SameOr3 (number : ℕ) : Call → (without with : Answer) → Type 0 where
  same : {c : Call} {a : Answer} → SameOr3 number c a a
  by_number : {d : DayInput} {room number' index : ℕ} → d.terms.number ≤ number → SameOr3 number (Call.day d room) (refused_at number' index) (refused 3)

-- of all calls, from two registers on; and each leaves the same in its buffer
abbrev pub EachSameOr3 : (number : ℕ) → (without with : Register) → List Call → Type 0
EachSameOr3 number g g' [] = Unit {0}
EachSameOr3 number g g' (c ∷ cs) =
    SameOr3 number c (answer g c) (answer g' c)
    × ((before : List ℕ) → buffer g c before ≡ buffer g' c before)
    × EachSameOr3 number (step g c) (step g' c) cs
