-- A report has at most 147,456 bytes. The numbers of accepted days rise to 31, so there are at most 31 of them; a day prints at most 4,500
-- bytes, and so does what ends the report.
use mathlib.Core.Path.{◌≡◌, refl, ap}
use mathlib.Core.Bool.{cond}
use mathlib.Core.List.{List, [], ◌∷◌, ◌++◌, flat_map}
use Prim.Native.Nat.{ℕ, zero, suc, ◌+◌, ◌-◌, ◌*◌, ◌/◌, ◌%◌, ◌≤◌}
use native.Mathlib.Omega.{arith}
use lib.Dec.{ltb}
use lib.ListN.{length, take, drop, length-append, length-take}
use Rattle.std.proofs.lemmas.List.FromFn.{length-range_with_len}
use Rattle.methodology.specs.Account.{members}
use Rattle.methodology.specs.Register.{Call, Register, start, last_number, accept, step, returned, written}
use Rattle.methodology.specs.declared.Refusal.{Refusal}
use Rattle.methodology.specs.RowNumbers.{row_number}
use Rattle.methodology.specs.Text.{LF, tab, bytes, digits, decimal, printed, refused_line, stretch, rows, totals, day_lines, fund_lines, report_of}
use Rattle.methodology.proofs.Passed.{step_clear, by_test}
use Rattle.methodology.proofs.Enough.{rises}
use Rattle.methodology.proofs.Reports.{day_call, closing_call, sized_lines, Rest, a_day_lem, a_fund, a_refusal, Report, a_period, no_period, reports}

-- ---- the report's lines

digits_short : (k n : ℕ) → length (digits k n) ≤ suc k
unfolding digits
digits_short zero n = omega arith
digits_short (suc k) n =
    let front = cond (ltb n 10) [] (digits k (n / 10)) in
    let h = by_test (λ (s : List ℕ). length s ≤ suc k) (ltb n 10) [] (digits k (n / 10)) (λ e. omega arith) (λ e. digits_short k (n / 10)) in
    omega (arith, length-append front ((48 + n % 10) ∷ []))

-- pieces of at most w bytes each
pieces_short : (w : ℕ) (f : ℕ → List ℕ) → ((x : ℕ) → length (f x) ≤ w) → (xs : List ℕ) → length (flat_map f xs) ≤ w * length xs
unfolding flat_map
pieces_short w f h [] = omega arith
pieces_short w f h (x ∷ xs) = omega (arith, length-append (f x) (flat_map f xs), h x, pieces_short w f h xs)

-- a number has a tab and at most 20 digits
pub printed_short : (word numbers : List ℕ) → length (printed word numbers) ≤ length word + 21 * length numbers + 1
unfolding printed
printed_short word numbers =
    let fields = flat_map (λ x. tab ∷ decimal x) numbers in
    let whole : length (printed word numbers) ≡ length (word ++ fields) + 1 = length-append (word ++ fields) (LF ∷ []) in
    let each = pieces_short 21 (λ x. tab ∷ decimal x) (λ x. omega (arith, digits_short 19 x)) numbers in
    omega (arith, length-append word fields)

-- the widest line of a member is the daily line: 5 letters, 6 numbers and an LF
rows_short : (word : List ℕ) (width n : ℕ) (out : List ℕ) → length word + 21 * width ≤ 110 → length (rows word width n out) ≤ 132 * n
unfolding rows
rows_short word width n out h =
    let all : length (rows word width n out) ≤ 132 * length (members n) = pieces_short 132 _ one (members n) in
    omega (arith, length-range_with_len 1 n)
  where
    one : (m : ℕ) → length (printed word (m ∷ stretch width m out)) ≤ 132
    one m = let part = drop (width * (m - 1)) out in omega (arith, printed_short word (m ∷ take width part), length-take width part)

-- the most bytes that a day prints, and that the end of a report does
abbrev a_day : ℕ
a_day = 4500

day_short : (number n : ℕ) (figures out : List ℕ) → length figures ≡ 2 → n ≤ 32 → length (day_lines number n figures out) ≤ a_day
unfolding day_lines totals bytes
day_short number n figures out two few =
    let head = printed (bytes "day") (number ∷ figures) in
    let lines = rows (bytes "daily") 5 n out in
    let under = printed (bytes "total") (totals n out) in
    let whole : length (day_lines number n figures out) ≡ length (head ++ lines) + length under = length-append (head ++ lines) under in
    let daily = rows_short (bytes "daily") 5 n out (omega arith) in
    omega (arith, length-append head lines, printed_short (bytes "day") (number ∷ figures), printed_short (bytes "total") (totals n out))

fund_short : (n : ℕ) (figures out : List ℕ) → length figures ≡ 3 → n ≤ 32 → length (fund_lines n figures out) ≤ a_day
unfolding fund_lines bytes
fund_short n figures out three few =
    let head = printed (bytes "fund") figures in
    let lines = rows (bytes "contribution") 3 n out in
    let whole : length (fund_lines n figures out) ≡ length head + length lines = length-append head lines in
    omega (arith, printed_short (bytes "fund") figures, rows_short (bytes "contribution") 3 n out (omega arith))

refused_short : (row : Refusal) (line : ℕ) → length (refused_line row line) ≤ a_day
unfolding bytes
refused_short row line = omega (arith, printed_short (bytes "refused") (row_number row ∷ line ∷ []))

-- ---- the whole report, by what it is made of

-- the end, and a day for each number above the last: an accepted day's number is above it
rest_short : {last : ℕ} {g : Register} {days s : List ℕ} → g.held.n ≤ 32 → Rest last g days s → length s ≤ a_day + a_day * (31 - last_number g.days)
unfolding accept returned
rest_short {g = g} few (a_day_lem {rest = rest} d clear more) =
    let call = day_call g d in
    let after = step g call in
    let members : after.held.n ≡ g.held.n = ap (λ (x : Register). x.held.n) (step_clear g call clear) in
    let number : last_number after.days ≡ d.terms.number = ap (λ (x : Register). last_number x.days) (step_clear g call clear) in
    let printed = day_short d.terms.number after.held.n (returned after call) (written after call) refl (omega arith) in
    omega (arith, length-append (sized_lines after d call) rest, rest_short (omega arith) more, rises g d (5 * g.held.n) clear)
rest_short {g = g} few (a_fund clear) =
    let call = closing_call g in
    let after = step g call in
    let members : after.held.n ≡ g.held.n = ap (λ (x : Register). x.held.n) (step_clear g call clear) in
    omega (arith, fund_short after.held.n (returned after call) (written after call) refl (omega arith))
rest_short few (a_refusal row line k) = omega (arith, refused_short row line)

report_short : {n last : ℕ} {days s : List ℕ} → Report n last days s → length s ≤ 147456
unfolding accept
report_short (a_period o is few clear rest) =
    let members : (step start (Call.opening o)).held.n ≡ o.n = ap (λ (x : Register). x.held.n) (step_clear start (Call.opening o) clear) in
    omega (arith, rest_short (omega arith) rest)
report_short (no_period row line k) = omega (arith, refused_short row line)

pub short : (text : List ℕ) → length (report_of text) ≤ 147456
short text = report_short (reports text)
