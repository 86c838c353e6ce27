-- Document 01, "The month's text": for any bytes, the bytes of the report. What is read makes calls, and the register answers them. By
-- document 02's Change 1 a total stands under each accepted day; by its Change 2 a month may have no day; by its Change 7 a member line has a
-- first and a last day.
use Rattle.std.specs.Prelude.{Bool, true, false, not, ◌&&◌, ◌||◌, cond, ℕ, zero, suc, ◌+◌, ◌-◌, ◌*◌, ◌/◌, ◌%◌, ltb, eqb, ℤ, pos, neg_ℤ, length, get_or, take, drop, Ok, Err}
use mathlib.Core.List.{List, [], ◌∷◌, ◌++◌, flat_map}
use Rattle.std.specs.Prelude.{Option, None, Some}
use Prim.Native.Char.{code}
use Prim.Native.String.{String, [] as empty, ◌∷◌ as ◌then◌}
use Rattle.std.specs.List.{list_any}
use Rattle.numbers.specs.Sums.{Σ}
use Rattle.methodology.specs.declared.Refusal.{Refusal}
use Rattle.methodology.specs.declared.Refusal.TheVariants.{BadOpening, BadLengths, BadLine}
use Rattle.methodology.specs.declared.Opening.{Opening}
use Rattle.methodology.specs.Account.{DayInput, no_accounts, members, kind_h, kind_r, kind_a, kind_u}
use Rattle.methodology.specs.RowNumbers.{row_number, row_index}
use Rattle.methodology.specs.Refusals.{Verdict, outside, n_outside, k_outside, count_outside}
use Rattle.methodology.specs.Register.{Call, Register, start, refusal, step, returned, written}

-- ---- bytes

-- the codes of a text's characters: its bytes, where all are below 256
unfoldable pub bytes : String → List ℕ
bytes empty = []
bytes (c then s) = code c ∷ bytes s

abbrev pub tab : ℕ
tab = 9

abbrev pub LF : ℕ
LF = 10

-- whether two lists of bytes are the same
unfoldable pub same : (s t : List ℕ) → Bool
same [] [] = true
same [] (y ∷ t) = false
same (x ∷ s) [] = false
same (x ∷ s) (y ∷ t) = eqb x y && same s t

-- a byte put in front of the first part; there is one
unfoldable pub onto : ℕ → List (List ℕ) → List (List ℕ)
onto x [] = (x ∷ []) ∷ []
onto x (p ∷ ps) = (x ∷ p) ∷ ps

-- The parts between the bytes b, one more than there are such bytes: never none. "Each field is a part of its line."
unfoldable pub split : (b : ℕ) → List ℕ → List (List ℕ)
split b [] = [] ∷ []
split b (x ∷ s) = cond (eqb x b) ([] ∷ split b s) (onto x (split b s))

-- "fields parted by one tab"
abbrev pub fields : (line : List ℕ) → List (List ℕ)
fields line = split tab line

-- ---- fields

abbrev pub is_digit : ℕ → Bool
is_digit b = not (outside 48 57 b)

-- the value of decimal digits, after those that make v
unfoldable pub value_from : (v : ℕ) → List ℕ → ℕ
value_from v [] = v
value_from v (b ∷ s) = value_from (10 * v + (b - 48)) s

-- "Numbers have 1 to 13 digits, no leading zero (0 itself is good)"
unfoldable pub number_of : (field : List ℕ) → Option ℕ
number_of f =
    cond (outside 1 13 (length f) || list_any (λ b. not (is_digit b)) f || eqb (get_or f 0 0) 48 && ltb 1 (length f)) None (Some (value_from 0 f))

-- the number with a minus: none where there is no number, or it is 0
unfoldable pub below0 : Option ℕ → Option ℤ
below0 None = None
below0 (Some v) = cond (eqb v 0) None (Some (neg_ℤ (pos v)))

-- the number without one
unfoldable pub above0 : Option ℕ → Option ℤ
above0 None = None
above0 (Some v) = Some (pos v)

-- "and for NPVs a minus (never -0)"
unfoldable pub signed_of : (field : List ℕ) → Option ℤ
signed_of f = cond (eqb (get_or f 0 0) 45) (below0 (number_of (drop 1 f))) (above0 (number_of f))

-- "A kind is the letter H, R, A or U, else 9."
unfoldable pub kind_of : (field : List ℕ) → ℕ
kind_of f =
    cond (same f (bytes "H")) kind_h (cond (same f (bytes "R")) kind_r (cond (same f (bytes "A")) kind_a (cond (same f (bytes "U")) kind_u 9)))

-- x in front of xs, where both are there
unfoldable pub also : {A : Type 0} → Option A → Option (List A) → Option (List A)
also None xs = None
also (Some x) None = None
also (Some x) (Some xs) = Some (x ∷ xs)

-- every field as f reads it: none where one is not of its form
unfoldable pub every_field : {A : Type 0} → (List ℕ → Option A) → List (List ℕ) → Option (List A)
every_field f [] = Some []
every_field f (x ∷ xs) = also (f x) (every_field f xs)

-- ---- lines

-- "ASCII lines ended by LF, at most 512 bytes before it"
unfoldable pub bad_bytes : (line : List ℕ) → Bool
bad_bytes line = ltb 512 (length line) || list_any (ltb 127) line

-- "The first word is compared whole": the numbers after it, `count` of them
unfoldable pub numbers_after : (word : List ℕ) → (count : ℕ) → (line : List ℕ) → Option (List ℕ)
numbers_after word count line =
    cond (same (get_or (fields line) 0 []) word && eqb (length (fields line)) (count + 1)) (every_field number_of (drop 1 (fields line))) None

-- a line of an account; the NPVs are its base and its stresses
pub record AccountLine : Type 0 where
  pub member : ℕ
  pub number : ℕ
  pub kind : ℕ
  pub npvs : List ℤ
  pub margin : ℕ
  pub extra : ℕ

-- from its member, account number, margin and extra, its NPVs and its kind
unfoldable pub account_by : Option (List ℕ) → Option (List ℤ) → (kind : ℕ) → Option AccountLine
account_by None npvs kind = None
account_by (Some ns) None kind = None
account_by (Some ns) (Some npvs) kind =
    Some (record { member = get_or ns 0 0; number = get_or ns 1 0; kind = kind; npvs = npvs; margin = get_or ns 2 0; extra = get_or ns 3 0 })

-- "member, account, kind, base, margin, extra, stress 1 to k"
unfoldable pub account_of : (k : ℕ) → (line : List ℕ) → Option AccountLine
account_of k line =
    let fs = fields line in
    cond (same (get_or fs 0 []) (bytes "acct") && eqb (length fs) (7 + k))
    (account_by (every_field number_of (take 2 (drop 1 fs) ++ take 2 (drop 5 fs))) (every_field signed_of (get_or fs 4 [] ∷ drop 7 fs)) (kind_of (get_or fs 3 [])))
    None

-- ---- the report's lines

-- n in decimal, where it has at most k + 1 digits
unfoldable pub digits : (k n : ℕ) → List ℕ
digits zero n = (48 + n % 10) ∷ []
digits (suc k) n = cond (ltb n 10) [] (digits k (n / 10)) ++ ((48 + n % 10) ∷ [])

-- a number in decimal: any below 10^20, as all that a report holds are
abbrev pub decimal : ℕ → List ℕ
decimal n = digits 19 n

-- "with one tab between fields and LF after each line"
unfoldable pub printed : (word : List ℕ) → List ℕ → List ℕ
printed word numbers = word ++ flat_map (λ x. tab ∷ decimal x) numbers ++ (LF ∷ [])

-- "A refusal prints `refused`, number, line (from 1)"
abbrev pub refused_line : Refusal → (line : ℕ) → List ℕ
refused_line row line = printed (bytes "refused") (row_number row ∷ line ∷ [])

-- member m's numbers, `width` of them in its stretch of what a call wrote
abbrev pub stretch : (width m : ℕ) → (out : List ℕ) → List ℕ
stretch width m out = take width (drop (width * (m - 1)) out)

-- a line for each member with its numbers
unfoldable pub rows : (word : List ℕ) → (width n : ℕ) → (out : List ℕ) → List ℕ
rows word width n out = flat_map (λ m. printed word (m ∷ stretch width m out)) (members n)

-- the sum of a column of what a call wrote: of each member's number at index c in its stretch
unfoldable pub column_sum : (width n : ℕ) → (out : List ℕ) → (c : ℕ) → ℕ
column_sum width n out c = Σ (members n) (λ m. get_or (stretch width m out) c 0)

-- Document 02, Change 1: "the sums of e, share, value, reserve and estimate over that day's members", the columns of what a day wrote, in
-- their order
unfoldable pub totals : (n : ℕ) → (out : List ℕ) → List ℕ
totals n out = column_sum 5 n out 0 ∷ column_sum 5 n out 1 ∷ column_sum 5 n out 2 ∷ column_sum 5 n out 3 ∷ column_sum 5 n out 4 ∷ []

-- An accepted day, which returned `answer` and wrote `out`: "day number, T, Max EUL; member and its five numbers". By Change 1, "After a
-- day's daily lines the report prints `total`, then the sums".
unfoldable pub day_lines : (number n : ℕ) → (answer out : List ℕ) → List ℕ
day_lines number n answer out =
    printed (bytes "day") (number ∷ answer) ++ rows (bytes "daily") 5 n out ++ printed (bytes "total") (totals n out)

-- an accepted closing, likewise: "D, M, total funded; member and its three numbers"
unfoldable pub fund_lines : (n : ℕ) → (answer out : List ℕ) → List ℕ
fund_lines n answer out = printed (bytes "fund") answer ++ rows (bytes "contribution") 3 n out

-- ---- reading

-- What the next line must be. The register has what calls have left; a line's number counts from 1.
pub data Expected : Type 0 where
  -- the period line
  period : Expected
  -- a member's line, after those that o holds
  member : (o : Opening) → Expected
  -- a day line or the end line
  day : (g : Register) → Expected
  -- an account's line: the day line was `at`, `count` accounts are due, d holds those read, and their lines have `used` bytes with LFs
  account : (g : Register) → (d : DayInput) → (at count used : ℕ) → Expected
  -- nothing, since the end line was `at`
  after_end : (g : Register) → (at : ℕ) → Expected

-- what reading a line does: it prints, and then the report ends, or the next line is expected
pub data Read : Type 0 where
  ends : (report : List ℕ) → Read
  goes_on : (report : List ℕ) → Expected → Read

-- "the first bad line for 9"
abbrev pub bad : (line : ℕ) → Read
bad line = ends (refused_line BadLine line)

-- "An n, k [..] outside its limit is refused before the lines under it are read"
unfoldable pub read_period : (line : ℕ) → Option (List ℕ) → Read
read_period i None = bad i
read_period i (Some ns) =
    let n = get_or ns 0 0 in
    let k = get_or ns 1 0 in
    cond (n_outside n || k_outside k) (ends (refused_line BadOpening i)) (goes_on [] (member (record { n = n; k = k; groups = []; firsts = []; lasts = [] })))

-- "The line is the period line for 1", which is line 1, and for 10 "that member's line" (Change 7): member 1's follows the period line.
abbrev pub opening_line_named : (member : Option ℕ) → ℕ
opening_line_named None = 1
opening_line_named (Some m) = 1 + m

-- "a call is made after its lines are read"
unfoldable pub opened : Verdict → Opening → Read
opened (Ok _) o = goes_on [] (day (step start (Call.opening o)))
opened (Err row) o = ends (refused_line row (opening_line_named (row_index row)))

-- the opening with a member more: "the member line gets both as its last fields" (Change 7), the first day and the last
unfoldable pub with_member : Opening → (group first last : ℕ) → Opening
with_member o group first last =
    record {
      n = o.n;
      k = o.k;
      groups = o.groups ++ (group ∷ []);
      firsts = o.firsts ++ (first ∷ []);
      lasts = o.lasts ++ (last ∷ []);
    }

-- "Member lines run from 1 to n."
unfoldable pub read_member : Opening → (line : ℕ) → Option (List ℕ) → Read
read_member o i None = bad i
read_member o i (Some ns) =
    let o' = with_member o (get_or ns 1 0) (get_or ns 2 0) (get_or ns 3 0) in
    cond (eqb (get_or ns 0 0) (length o'.groups))
    (cond (eqb (length o'.groups) o.n) (opened (refusal start (Call.opening o')) o') (goes_on [] (member o')))
    (bad i)

-- "[an] account count outside its limit is refused before the lines under it are read"
unfoldable pub read_day : Register → (line : ℕ) → Option (List ℕ) → Read
read_day g i None = bad i
read_day g i (Some ns) =
    cond (count_outside (get_or ns 1 0)) (ends (refused_line BadLengths i))
    (goes_on [] (account g (no_accounts (record { number = get_or ns 0 0 })) i (get_or ns 1 0) 0))

-- "the day line for 3, 4 [..], the account's (or next) line for 5 and 6", which have an index. The first account's line follows the day line.
abbrev pub line_named : (day_line : ℕ) → (index : Option ℕ) → ℕ
line_named i None = i
line_named i (Some index) = i + 1 + index

-- the day call, made after its lines are read
unfoldable pub sized : Verdict → Register → DayInput → (line : ℕ) → Read
sized (Ok _) g d i =
    let call = Call.day d (5 * g.held.n) in
    let after = step g call in
    goes_on (day_lines d.terms.number after.held.n (returned after call) (written after call)) (day after)
sized (Err row) g d i = ends (refused_line row (line_named i (row_index row)))

-- the day with an account more
unfoldable pub with_account : DayInput → AccountLine → DayInput
with_account d a =
    record {
      terms = d.terms;
      headings = d.headings ++ (record { member = a.member; number = a.number; kind = a.kind } ∷ []);
      npvs = d.npvs ++ a.npvs;
      margins = d.margins ++ (a.margin ∷ []);
      extras = d.extras ++ (a.extra ∷ []);
    }

-- "a call is made after its lines are read, so 9 in them comes first"
unfoldable pub read_account : Register → DayInput → (at count used line : ℕ) → Option AccountLine → Read
read_account g d at count used i None = bad i
read_account g d at count used i (Some a) =
    let d' = with_account d a in
    cond (eqb (length d'.headings) count) (sized (refusal g (Call.day d' (5 * g.held.n))) g d' at) (goes_on [] (account g d' at count used))

-- "A day's acct lines hold at most 65,536 bytes with their LFs; the line that passes this is bad by row 9." "Nothing follows end." The end
-- line has one field, its word.
unfoldable pub read_line : Expected → (number : ℕ) → (line : List ℕ) → Read
read_line period i l = read_period i (numbers_after (bytes "period") 2 l)
read_line (member o) i l = read_member o i (numbers_after (bytes "member") 4 l)
read_line (day g) i l = cond (same l (bytes "end")) (goes_on [] (after_end g i)) (read_day g i (numbers_after (bytes "day") 2 l))
read_line (account g d at count used) i l =
    let now = used + length l + 1 in
    cond (ltb 65536 now) (bad i) (read_account g d at count now i (account_of g.held.k l))
read_line (after_end g at) i l = bad i

-- The closing call, made at the end line, which a refusal would name. Since Change 2 none is left: the period is open, and the output 3n long
-- (`closing_clear` in Reports.antt, among the proofs).
unfoldable pub closed : Verdict → Register → (line : ℕ) → List ℕ
closed (Ok _) g i =
    let call = Call.closing (3 * g.held.n) in
    let after = step g call in
    fund_lines after.held.n (returned after call) (written after call)
closed (Err row) g i = refused_line row i

-- The last part is no line, since no LF ends it. What is due here is missing or unended, and both are 9: "A missing line, or one after end,
-- is bad by row 9 under its own line number, before the closing call." After end alone it may be empty.
unfoldable pub at_end : Expected → (number : ℕ) → (rest : List ℕ) → List ℕ
at_end period i rest = refused_line BadLine i
at_end (member o) i rest = refused_line BadLine i
at_end (day g) i rest = refused_line BadLine i
at_end (account g d at count used) i rest = refused_line BadLine i
at_end (after_end g at) i rest = cond (same rest []) (closed (refusal g (Call.closing (3 * g.held.n))) g at) (refused_line BadLine i)

-- What a line prints, and what those after it do: "accepted days stay printed".
unfoldable pub followed_by : Read → (rest : Expected → List ℕ) → List ℕ
followed_by (ends report) rest = report
followed_by (goes_on report next) rest = report ++ rest next

-- The report from a line on, of the parts between LFs, of which the last is no line. A refusal "ends the output".
unfoldable pub report_from : (number : ℕ) → (parts : List (List ℕ)) → Expected → List ℕ
report_from i [] e = []
report_from i (l ∷ []) e = at_end e i l
report_from i (l ∷ m ∷ ls) e = followed_by (cond (bad_bytes l) (bad i) (read_line e i l)) (report_from (i + 1) (m ∷ ls))

-- the report of a text
unfoldable pub report_of : (text : List ℕ) → List ℕ
report_of text = report_from 1 (split LF text) period
