-- The refusal table as it was before Change 7, when an opening brought no first and last days: rows 1 and 5 as document 01 has them, and no row
-- 10; and the answers and buffers by it. It reads no first or last day, and figures are those of openings that have none. It is here for the
-- comparison in AsBefore.antt alone. The worked calls of the time hold it.
use mathlib.Core.Path.{◌≡◌, refl}
use mathlib.Core.Bool.{Bool, not, ◌||◌, cond}
use mathlib.Core.List.{List, [], ◌∷◌, map}
use Prim.Native.Nat.{ℕ, suc, ◌+◌}
use lib.Dec.{ltb, eqb}
use lib.ListN.{length}
use Rattle.std.specs.List.{list_any, position_or_len}
use Rattle.methodology.specs.declared.Heading.{Heading}
use Rattle.methodology.specs.declared.Status.{Status}
use Rattle.methodology.specs.declared.Refusal.TheVariants.{BadOpening, OutOfTurn, BadDayNumber, BadLengths, BadHeading, BadAmount}
use Rattle.methodology.specs.declared.Opening.{Opening}
use Rattle.methodology.specs.Account.{DayInput, accounts, nobody}
use Rattle.methodology.specs.Refusals.{Verdict, clear, row◌when◌else◌, is_open, n_outside, k_outside, group_outside, bad_day_number, bad_input, bad_output, member_outside, not_rising, number_above, kind_unknown, zero_and_house_apart, first_not_zero, bad_amount, closing_refusal}
use Rattle.methodology.specs.Register.{Call, Register, start, last_number, accept, if_accepted, returned, written, Answer, answer_by}
use Rattle.methodology.proofs.Samples.{computed, Exchange, lent}
use Rattle.methodology.proofs.WorkedCalls.{everybody_lists}

-- an opening, a call and a register without first and last days
abbrev pub without_presence : Opening → Opening
without_presence o = record { n = o.n; k = o.k; groups = o.groups; firsts = []; lasts = [] }

abbrev pub call_before : Call → Call
call_before (Call.opening o) = Call.opening (without_presence o)
call_before (Call.day d room) = Call.day d room
call_before (Call.closing room) = Call.closing room

abbrev pub register_without : Register → Register
register_without g = record { status = g.status; held = without_presence g.held; days = g.days }

-- Row 1: "n, k or a group outside its limit, or group list not n long"; "opening 2, 1".
abbrev pub bad_opening : Opening → Bool
bad_opening o = n_outside o.n || k_outside o.k || list_any group_outside o.groups || not (eqb (length o.groups) o.n)

abbrev pub opening_refusal : Status → Opening → Verdict
opening_refusal s o = row OutOfTurn when is_open s else row BadOpening when bad_opening o else clear

-- Row 5: "a member skipped"; "the last members are missing".
abbrev pub member_skipped : (prev h : Heading) → Bool
member_skipped prev h = ltb (prev.member + 1) h.member

unfoldable pub bad_heading : (n : ℕ) → (prev h : Heading) → Bool
bad_heading n prev h =
    member_outside n h
    || not_rising prev h
    || number_above h
    || kind_unknown h
    || zero_and_house_apart h
    || first_not_zero prev h
    || member_skipped prev h

unfoldable pub first_bad_heading : (n : ℕ) → (prev : Heading) → List Heading → ℕ
first_bad_heading n prev [] = 0
first_bad_heading n prev (h ∷ hs) = cond (bad_heading n prev h) 0 (suc (first_bad_heading n h hs))

unfoldable pub last_missing : (n : ℕ) → List Heading → Bool
last_missing n hs = not (list_any (λ (h : Heading). eqb h.member n) hs)

abbrev pub account_rows : Opening → DayInput → Verdict
account_rows o d =
    let count = length d.headings in
    let bad5 = first_bad_heading o.n nobody d.headings in
    let bad6 = position_or_len bad_amount (accounts o.k d) in
    row (BadHeading bad5) when ltb bad5 count || last_missing o.n d.headings else
    row (BadAmount bad6) when ltb bad6 count else
    clear

abbrev pub day_refusal : Status → Opening → (last : ℕ) → DayInput → (room : ℕ) → Verdict
day_refusal s o last d room =
    row OutOfTurn when not (is_open s) else
    row BadLengths when bad_output o room else
    row BadLengths when bad_input o d else
    row BadDayNumber when bad_day_number last d.terms.number else
    account_rows o d

-- the register, read and led on by this table
unfoldable pub refusal : Register → Call → Verdict
refusal g (Call.opening o) = opening_refusal g.status o
refusal g (Call.day d room) = day_refusal g.status g.held (last_number g.days) d room
refusal g (Call.closing room) = closing_refusal g.status g.held room

unfoldable pub step : Register → Call → Register
step g c = if_accepted (refusal g c) (accept g c) g

unfoldable pub answer : Register → Call → Answer
answer g c = answer_by (refusal g c) (returned (step g c) c)

unfoldable pub buffer : Register → Call → (before : List ℕ) → List ℕ
buffer g c before = if_accepted (refusal g c) (written (step g c) c) before

-- ---- the table

-- the calls of a list, their openings without first and last days, answered by this table from register g on
unfoldable pub played : Register → List Exchange → List Exchange
played g [] = []
played g (x ∷ xs) =
    let call = call_before x.call in
    record { call = x.call; due = answer g call; left = buffer g call (lent x.call) } ∷ played (step g call) xs

-- what held of the worked calls before the change, every condition of the refusal table among them, holds of it
pub before_the_change : map (played start) everybody_lists ≡ everybody_lists
unfolding everybody_lists computed bad_heading first_bad_heading last_missing refusal step answer buffer played
before_the_change = refl
