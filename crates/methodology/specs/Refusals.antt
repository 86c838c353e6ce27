-- Document 01, "Calls on a period": the refusal table, call by call, each row in its order of precedence: opening 2, 1, 10; day 2, 4, 3,
-- 5, 6; closing 2, 4. Each row has a name here, and its number in RowNumbers.antt; 9 is the text's. `Heading`, `Opening`, `DayTerms`, `Status`
-- and `Refusal` are declared in src/lib.rt. By document 02's Change 7 rows 1 and 5 go by first and last days too, and there is a row 10.
use Rattle.std.specs.Prelude.{Bool, true, false, not, ◌&&◌, ◌||◌, cond, List, [], ◌∷◌, ℕ, suc, Result, Ok, Err, ◌+◌, ◌*◌, leb, ltb, eqb, ℤ, pos, neg_ℤ, length}
use Rattle.std.specs.Int.Signed.{lt_z}
use Rattle.std.specs.List.{list_any, position_or_len}
use Rattle.methodology.specs.declared.Heading.{Heading}
use Rattle.methodology.specs.declared.Status.{Status}
use Rattle.methodology.specs.declared.Status.TheVariants.{Fresh, Open, Closed}
use Rattle.methodology.specs.declared.Refusal.{Refusal}
use Rattle.methodology.specs.declared.Refusal.TheVariants.{BadOpening, OutOfTurn, BadDayNumber, BadLengths, BadHeading, BadAmount, BadPresence}
use Rattle.methodology.specs.declared.Opening.{Opening}
use Rattle.methodology.specs.Account.{members, first_day, last_day, present, DayInput, Account, accounts, nobody, kind_h, kind_r, kind_a, kind_u}

-- what the table says of a call: the first row that it meets, or that it meets none
abbrev pub Verdict : Type 0
Verdict = Result (Unit {0}) Refusal

abbrev pub clear : Verdict
clear = Ok tt

infixr 20 row◌when◌else◌
-- a row of the table: its name, its condition, and the rows after it
unfoldable pub row◌when◌else◌ : (row : Refusal) → (condition : Bool) → (rest : Verdict) → Verdict
row r when condition else rest = cond condition (Err r) rest

abbrev pub is_open : Status → Bool
is_open Fresh = false
is_open Open = true
is_open Closed = false

-- whether x is below the least or above the most
abbrev pub outside : (least most x : ℕ) → Bool
outside least most x = ltb x least || ltb most x

-- ---- opening

-- "n members, numbered 1 to n (1 to 32)"
abbrev pub n_outside : (n : ℕ) → Bool
n_outside n = outside 1 32 n

-- "k stress scenarios (1 to 16)"
abbrev pub k_outside : (k : ℕ) → Bool
k_outside k = outside 1 16 k

-- "a group number, 0 to 32"
abbrev pub group_outside : (group : ℕ) → Bool
group_outside group = outside 0 32 group

-- Row 1: "n, k or a group outside its limit, or group list not n long". "A list of first or last days that is not n long is answered by 1"
-- (Change 7).
unfoldable pub bad_opening : Opening → Bool
bad_opening o =
    n_outside o.n
    || k_outside o.k
    || list_any group_outside o.groups
    || not (eqb (length o.groups) o.n)
    || not (eqb (length o.firsts) o.n)
    || not (eqb (length o.lasts) o.n)

-- Row 10, of a member: "A first day above the last, or either outside 1 to 31" (Change 7)
abbrev pub bad_presence : (first last : ℕ) → Bool
bad_presence first last = ltb last first || outside 1 31 first || outside 1 31 last

-- The rows of what an opening brings: 1, 10. A bad first or last day is answered "by 10 with the first such member's number, after 1" (Change
-- 7); members are numbered from 1. Where none is bad, `bad10` is the number of members.
unfoldable pub opening_rows : Opening → Verdict
opening_rows o =
    let bad10 = position_or_len (λ m. bad_presence (first_day o m) (last_day o m)) (members o.n) in
    row BadOpening when bad_opening o else
    row (BadPresence (bad10 + 1)) when ltb bad10 o.n else
    clear

-- Opening 2, 1, 10. Row 2: "opening while open"; so it "is accepted when fresh or closed".
unfoldable pub opening_refusal : Status → Opening → Verdict
opening_refusal s o = row OutOfTurn when is_open s else opening_rows o

-- ---- day

-- Row 3: "day number not 1 to 31, or not above the last accepted"
unfoldable pub bad_day_number : (last number : ℕ) → Bool
bad_day_number last number = outside 1 31 number || leb number last

-- "accounts not 1 to 256"
abbrev pub count_outside : (count : ℕ) → Bool
count_outside count = outside 1 256 count

-- Row 4 of what a day brings: "accounts not 1 to 256, input lengths that disagree". There are as many accounts as headings.
abbrev pub bad_input : Opening → DayInput → Bool
bad_input o d =
    let count = length d.headings in
    count_outside count
    || not (eqb (length d.npvs) (count * (o.k + 1)))
    || not (eqb (length d.margins) count)
    || not (eqb (length d.extras) count)

-- Row 4 of what it is lent: "output not 5n (day) [..] long"
abbrev pub bad_output : Opening → (room : ℕ) → Bool
bad_output o room = not (eqb room (5 * o.n))

-- Row 5, condition by condition. `number` is the day's, `prev` the heading before h, and `nobody` before the first.

-- "member outside 1 to n"
abbrev pub member_outside : (n : ℕ) → (h : Heading) → Bool
member_outside n h = outside 1 n h.member

-- the member is absent on the day: "an account for it is bad by row 5" (Change 7)
abbrev pub member_absent : Opening → (number : ℕ) → (h : Heading) → Bool
member_absent o number h = not (present o number h.member)

-- "not strictly rising by member, then account number": the later of the two is bad
abbrev pub not_rising : (prev h : Heading) → Bool
not_rising prev h =
    not (ltb prev.member h.member || eqb prev.member h.member && ltb prev.number h.number)

-- "number above 65,535"
abbrev pub number_above : (h : Heading) → Bool
number_above h = ltb 65535 h.number

-- "kind unknown"
abbrev pub kind_unknown : (h : Heading) → Bool
kind_unknown h = not (eqb h.kind kind_h || eqb h.kind kind_r || eqb h.kind kind_a || eqb h.kind kind_u)

-- "number 0 without H or H without 0"
abbrev pub zero_and_house_apart : (h : Heading) → Bool
zero_and_house_apart h = eqb h.number 0 && not (eqb h.kind kind_h) || eqb h.kind kind_h && not (eqb h.number 0)

-- "a member's first is not 0"
abbrev pub first_not_zero : (prev h : Heading) → Bool
first_not_zero prev h = not (eqb prev.member h.member) && not (eqb h.number 0)

-- whether a member that is present on the day has a number between these two
unfoldable pub passed_over : Opening → (number from to : ℕ) → Bool
passed_over o number from to = list_any (λ m. ltb from m && ltb m to && present o number m) (members o.n)

-- "a member skipped": the account that jumps is bad. By Change 7 "a missing house account of a present member" is bad, so an absent member may
-- be passed over.
abbrev pub member_skipped : Opening → (number : ℕ) → (prev h : Heading) → Bool
member_skipped o number prev h = passed_over o number prev.member h.member

unfoldable pub bad_heading : Opening → (number : ℕ) → (prev h : Heading) → Bool
bad_heading o number prev h =
    member_outside o.n h
    || member_absent o number h
    || not_rising prev h
    || number_above h
    || kind_unknown h
    || zero_and_house_apart h
    || first_not_zero prev h
    || member_skipped o number prev h

-- The "index of first bad account", or the count where none is bad. "Index counts from 0."
unfoldable pub first_bad_heading : Opening → (number : ℕ) → (prev : Heading) → List Heading → ℕ
first_bad_heading o number prev [] = 0
first_bad_heading o number prev (h ∷ hs) = cond (bad_heading o number prev h) 0 (suc (first_bad_heading o number h hs))

-- "the last members are missing": a present one (Change 7) has no account, so where no account is bad it is one of the last
unfoldable pub last_missing : Opening → (number : ℕ) → List Heading → Bool
last_missing o number hs = list_any (λ m. present o number m && not (list_any (λ h. eqb h.member m) hs)) (members o.n)

-- an NPV's limits, "from -10^12 to 10^12", and a margin's, "0 to 10^12"
abbrev pub limit : ℕ
limit = 1000000000000

abbrev pub npv_outside : ℤ → Bool
npv_outside z = lt_z z (neg_ℤ (pos limit)) || lt_z (pos limit) z

-- Row 6: "amount outside its limit, or extra above margin"
unfoldable pub bad_amount : Account → Bool
bad_amount a = list_any npv_outside a.npvs || outside 0 limit a.margin || ltb a.margin a.extra

-- Rows 5 and 6, of a day's accounts. Row 5: the first bad account comes first, and "Index = account count if the last members are missing"
-- and none is bad. "Row 5 is tested over all accounts before row 6." Where no amount is bad, `bad6` is the account count.
unfoldable pub account_rows : Opening → DayInput → Verdict
account_rows o d =
    let count = length d.headings in
    let bad5 = first_bad_heading o d.terms.number nobody d.headings in
    let bad6 = position_or_len bad_amount (accounts o.k d) in
    row (BadHeading bad5) when ltb bad5 count || last_missing o d.terms.number d.headings else
    row (BadAmount bad6) when ltb bad6 count else
    clear

-- The rows of what a day brings: 4, 3, 5, 6. `last` is the last accepted day number.
unfoldable pub day_rows : Opening → (last : ℕ) → DayInput → Verdict
day_rows o last d =
    row BadLengths when bad_input o d else
    row BadDayNumber when bad_day_number last d.terms.number else
    account_rows o d

-- Day 2, 4, 3, 5, 6. Row 2: "day [..] while not open". Row 4 is met by the output or by the input. A day without losses, of a T of 0, is as
-- good as any (Change 4).
unfoldable pub day_refusal : Status → Opening → (last : ℕ) → DayInput → (room : ℕ) → Verdict
day_refusal s o last d room =
    row OutOfTurn when not (is_open s) else
    row BadLengths when bad_output o room else
    day_rows o last d

-- ---- closing

-- Closing 2, 4. Row 2: "closing while not open". Row 4: "output not [..] 3n (closing) long". A closing with no accepted day is as good as
-- any (Change 2).
unfoldable pub closing_refusal : Status → Opening → (room : ℕ) → Verdict
closing_refusal s o room =
    row OutOfTurn when not (is_open s) else
    row BadLengths when not (eqb room (3 * o.n)) else
    clear
