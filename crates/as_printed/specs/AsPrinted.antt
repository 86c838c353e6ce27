-- Document 02, Change 1, of the report as a person reads it off its bytes: "Each sum equals that of the day's records as printed, and the
-- first equals T." `AsPrinted` is the claim. It says too that the days' Max EULs never fall (Change 3), what a day without losses shows
-- (Change 4), that a report with a fund leaves no day of the text out, and that each share of a day with losses is that of the loss and T (Change 6).
use Rattle.std.specs.Prelude.{◌≡◌, Bool, true, false, cond, not, ◌&&◌, ◌||◌, ℕ, ◌+◌, ◌*◌, ◌^◌, ◌≤◌, ◌<◌, eqb, ltb, length, get_or, take, drop}
use mathlib.Core.List.{List, [], ◌∷◌, ◌++◌, map, flat_map}
use Rattle.std.specs.Prelude.{Some}
use Rattle.std.specs.List.{fold, filter, list_any, AllByRecursion, range_with_len}
use Rattle.numbers.specs.Sums.{Σ}
use Rattle.methodology.specs.declared.Opening.{Opening}
use Rattle.methodology.specs.Account.{DayInput, Account, members}
use Rattle.methodology.specs.Member.{loss}
use Rattle.methodology.specs.Day.{total, share, value, reserve, estimate, five, dailies}
use Rattle.methodology.specs.Contribution.{counts}
use Rattle.methodology.specs.Refusals.{clear}
use Rattle.methodology.specs.Register.{Call, Register, start, refusal, step, returned, written}
use Rattle.methodology.specs.Text.{LF, bytes, same, split, fields, is_digit, value_from, number_of, decimal, stretch, totals, day_lines, report_of}
use Rattle.demand3.specs.Demand3.{Fits64}

-- ---- a line

-- a line as it is read: its word, and of each field after it the value of its digits
pub record Line : Type 0 where
  pub word : List ℕ
  pub numbers : List ℕ

abbrev pub worded : (word numbers : List ℕ) → Line
worded word numbers = record { word = word; numbers = numbers }

abbrev pub line_of : (line : List ℕ) → Line
line_of line = worded (get_or (fields line) 0 []) (map (value_from 0) (drop 1 (fields line)))

-- the lines of a report or a text, and what follows its last LF
abbrev pub lines_of : (s : List ℕ) → List Line
lines_of s = map line_of (split LF s)

-- the numbers of the days among these lines: the first number of each `day` line
abbrev pub day_numbers : List Line → List ℕ
day_numbers lines = map (λ l. get_or l.numbers 0 0) (filter (λ l. same l.word (bytes "day")) lines)

abbrev pub has_fund : List Line → Bool
has_fund lines = list_any (λ l. same l.word (bytes "fund")) lines

-- a line that has nothing but its word and its numbers in decimal, all below 2^64
pub record InDecimal (line : List ℕ) : Type 0 where
  pub fields_are : fields line ≡ (line_of line).word ∷ map decimal (line_of line).numbers
  pub fit : AllByRecursion Fits64 (line_of line).numbers

-- ---- a day

-- an accepted day as it is read: the day line's numbers, "the day's records", which are those of its daily lines, and the total line's
pub record DayRead : Type 0 where
  pub number : ℕ
  pub T : ℕ
  pub Max : ℕ
  pub records : List (List ℕ)
  pub sums : List ℕ

-- its lines
abbrev pub lines_of_day : DayRead → List Line
lines_of_day d =
    (worded (bytes "day") (d.number ∷ d.T ∷ d.Max ∷ []) ∷ [])
    ++ map (worded (bytes "daily")) d.records
    ++ (worded (bytes "total") d.sums ∷ [])

pub record AddsUp (n : ℕ) (d : DayRead) : Type 0 where
  -- a record for each member: its number, and five more
  pub of_members : map (λ numbers. get_or numbers 0 0) d.records ≡ members n
  pub wide : AllByRecursion (λ numbers. length numbers ≡ 6) d.records
  -- "Each sum equals that of the day's records as printed"
  pub sums_are : d.sums ≡ map (λ c. Σ d.records (λ numbers. get_or numbers c 0)) (range_with_len 1 5)
  -- "and the first equals T"
  pub first_is : get_or d.sums 0 0 ≡ d.T
  -- where T is 0, "every member's e, share and cents are 0" (Change 4)
  pub nothing_lost : d.T ≡ 0 → AllByRecursion (λ numbers. drop 1 numbers ≡ 0 ∷ 0 ∷ 0 ∷ 0 ∷ 0 ∷ []) d.records
  -- and where it is above 0 each share is "e × 10^15 / T rounded up", of that record's e and of T (Change 6)
  pub shares_are : 0 < d.T → AllByRecursion (λ numbers. get_or numbers 2 0 ≡ share (get_or numbers 1 0) d.T) d.records

-- ---- a report

-- n, the number of members: the first number in the text's first line
abbrev pub members_in : (text : List ℕ) → ℕ
members_in text = get_or (line_of (get_or (split LF text) 0 [])).numbers 0 0

-- a line that is no day's
abbrev pub Other : Line → Type 0
Other l = (same l.word (bytes "day") || same l.word (bytes "daily") || same l.word (bytes "total")) ≡ false

-- a fund line whose first numbers are this D and this M, or no fund line
abbrev pub FundSays : (D M : ℕ) → Line → Type 0
FundSays D M l = same l.word (bytes "fund") ≡ true → take 2 l.numbers ≡ D ∷ M ∷ []

-- Change 3: no day's Max EUL is below the one of the day before it, and before the first stands `top`; on a day without losses it is the same
-- (Change 4).
abbrev pub NeverFall : (top : ℕ) → List DayRead → Type 0
NeverFall top [] = Unit {0}
NeverFall top (d ∷ ds) = (top ≤ d.Max) × (d.T ≡ 0 → d.Max ≡ top) × NeverFall d.Max ds

-- the last day's Max EUL, or `top` without days
abbrev pub last_max : (top : ℕ) → List DayRead → ℕ
last_max = fold (λ top d. d.Max)

-- Change 4: how many of the days count, those whose T is above 0
abbrev pub days_counted : List DayRead → ℕ
days_counted days = length (filter (λ d. counts d.T) days)

-- A report of n members is its accepted days, each of which adds up, and after them other lines. Where there is a fund its D is the number of
-- the days that count, and its M is the Max EUL of the last day, 0 without days. The same of what is left of a report after some accepted
-- days: `before` of these count, and the last reported `top`.
pub record DaysAddUp (n before top : ℕ) (report : List ℕ) : Type 0 where
  pub days : List DayRead
  pub rest : List Line
  pub whole : lines_of report ≡ flat_map lines_of_day days ++ rest
  pub add_up : AllByRecursion (AddsUp n) days
  pub never_fall : NeverFall top days
  pub no_day : AllByRecursion Other rest
  pub all_there : AllByRecursion (FundSays (before + days_counted days) (last_max top days)) rest

-- ---- what was summed is what is read

-- the register that is fed these calls, refused ones among them
abbrev pub register_fed : Register → List Call → Register
register_fed = fold step

-- what an accepted call returned and wrote is below 2^64, where g is the register as the call leaves it
pub record AcceptedFits (g : Register) (call : Call) : Type 0 where
  pub returned_fits : AllByRecursion Fits64 (returned g call)
  pub written_fits : AllByRecursion Fits64 (written g call)

-- An accepted day: the sums of what it wrote are below 2^64 too, and its lines in the report are read as these very numbers, each member's
-- after its own.
pub record ReadAsSummed (g : Register) (d : DayInput) (call : Call) : Type 0 where
  pub sums_fit : AllByRecursion Fits64 (totals g.held.n (written g call))
  pub reads :
      lines_of (day_lines d.terms.number g.held.n (returned g call) (written g call))
      ≡ lines_of_day
      (record {
        number = d.terms.number;
        T = get_or (returned g call) 0 0;
        Max = get_or (returned g call) 1 0;
        records = map (λ m. m ∷ stretch 5 m (written g call)) (members g.held.n);
        sums = totals g.held.n (written g call);
      })
      ++ lines_of []

-- ---- Change 1

-- "the sums of e, share, value, reserve and estimate over that day's members", from its accounts and the Max EUL that it reports. On a day
-- without losses each of these is 0 (Change 4).
abbrev pub sums_of_five : Opening → (Max : ℕ) → List Account → List ℕ
sums_of_five o Max accts =
    let e = loss o.k accts in
    let T = total o accts in
    cond (eqb T 0) (0 ∷ 0 ∷ 0 ∷ 0 ∷ 0 ∷ [])
    (Σ (members o.n) e
    ∷ Σ (members o.n) (λ m. share (e m) T)
    ∷ Σ (members o.n) (λ m. value (e m) Max T)
    ∷ Σ (members o.n) (λ m. reserve (e m) Max T)
    ∷ Σ (members o.n) (λ m. estimate (e m) Max T)
    ∷ [])

pub record AsPrinted : Type 0 where
  -- a member's record is its five numbers, and the sums of the columns are those of the five
  pub record_is : (o : Opening) (Max : ℕ) (accts : List Account) (m : ℕ) → 1 ≤ m → m ≤ o.n
      → stretch 5 m (dailies o Max accts) ≡ five (loss o.k accts m) Max (total o accts)
  pub sums_are_of_five : (o : Opening) (Max : ℕ) (accts : List Account) → totals o.n (dailies o Max accts) ≡ sums_of_five o Max accts
  -- "and the first equals T"
  pub first_sum_is_t : (o : Opening) (Max : ℕ) (accts : List Account) → get_or (totals o.n (dailies o Max accts)) 0 0 ≡ total o accts
  -- A number below 10^20 is printed in digits alone, with no leading zero, which have its value; where there are at most 13 they are that
  -- number to the reader of a text.
  pub digits_alone : (x : ℕ) → list_any (λ b. not (is_digit b)) (decimal x) ≡ false
  pub no_leading_zero : (x : ℕ) → x < 10 ^ 20 → (eqb (get_or (decimal x) 0 0) 48 && ltb 1 (length (decimal x))) ≡ false
  pub reads_back : (x : ℕ) → x < 10 ^ 20 → value_from 0 (decimal x) ≡ x
  pub reads_back_as_text : (x : ℕ) → x < 10 ^ 13 → number_of (decimal x) ≡ Some x
  -- every accepted call, and every accepted day, after any calls
  pub accepted_fits : (calls : List Call) (c : Call)
      → let g = register_fed start calls in
      refusal g c ≡ clear → AcceptedFits (step g c) c
  pub read_as_summed : (calls : List Call) (d : DayInput)
      → let g = register_fed start calls in
      let call = Call.day d (5 * g.held.n) in
      refusal g call ≡ clear → ReadAsSummed (step g call) d call
  -- every line of every report
  pub all_decimal : (text : List ℕ) → AllByRecursion InDecimal (split LF (report_of text))
  -- "Each sum equals that of the day's records as printed, and the first equals T." The days' Max EULs never fall, and M is the last (Change 3).
  pub days_add_up : (text : List ℕ) → DaysAddUp (members_in text) 0 0 (report_of text)
  -- No day is left out, with losses or without: where a report has a fund, its days are those of the text, in the text's order.
  pub days_shown : (text : List ℕ) → has_fund (lines_of (report_of text)) ≡ true
      → day_numbers (lines_of (report_of text)) ≡ day_numbers (lines_of text)
