-- Document 01, "Figures to hold it to": cases 1 to 10 as one table, and one theorem: each figure that the definitions give is the one due.
-- By computation. Every case starts from accounts in a day's slices; 1, 2, 9 and 10 go through the calls of a period. Then, beyond document
-- 01, what its figures leave open: a whole month, exact charges, shares and charges at the last place, days without losses, allowances and
-- shortfalls, and words that no answer shows.
use mathlib.Core.Path.{◌≡◌, refl}
use mathlib.Core.List.{List, [], ◌∷◌, ◌++◌, map}
use Prim.Native.Nat.{ℕ, suc, ◌+◌, ◌-◌, ◌*◌, ◌<◌, min}
use native.Mathlib.Omega.{arith}
use lib.IntN.{ℤ, pos}
use lib.ListN.{length, get_or, replicate}
use Rattle.std.specs.List.{AllByRecursion, range_with_len}
use Rattle.numbers.specs.Fractions.{Fraction, ◌over◌, Proper, ◌≼◌, ◌≺◌}
use Rattle.methodology.specs.declared.Opening.{Opening}
use Rattle.methodology.specs.Account.{DayInput, members, accounts, nobody}
use Rattle.methodology.specs.Member.{member_under, member_own}
use Rattle.methodology.specs.Day.{own_max_eul, share, five}
use Rattle.methodology.specs.Contribution.{KeptDay, counted, sum_of_shares, raw, charge, exact_charge, allowance, shortfall}
use Rattle.methodology.specs.Register.{Register, start, opening, day, closing, step, returned, written, buffer}
use Rattle.methodology.proofs.Samples.{computed, H, R, A, U, Line, acct, minus, losing, houses, clients, day_of, opening_of}

-- a case: the figures that the definitions give, and those that document 01 has, shares as document 02's Change 6 has them
pub record Case : Type 0 where
  pub got : List ℤ
  pub due : List ℤ

infix 95 ◌is◌
infix 95 ◌is_signed◌
infix 75 ◌is_fraction◌
abbrev ◌is◌ : List ℕ → List ℕ → Case
got is due = record { got = map pos got; due = map pos due }

abbrev ◌is_signed◌ : List ℤ → List ℤ → Case
got is_signed due = record { got = got; due = due }

-- a period of one scenario, with a group number for each member
abbrev groups : List ℕ → Opening
groups gs = opening_of (length gs) 1 gs

-- the six members of 001, by Position Account STV and Margin Balance, the first one's margin as given
abbrev illustrative : (margin : ℕ) → DayInput
illustrative margin =
    day_of 1
    (acct 1 0 H (pos 1000) margin 0 (pos 0 ∷ [])
    ∷ acct 2 0 H (pos 300) 100 0 (pos 0 ∷ [])
    ∷ acct 3 0 H (pos 500) 250 0 (pos 0 ∷ [])
    ∷ acct 4 0 H (pos 800) 300 0 (pos 0 ∷ [])
    ∷ acct 5 0 H (pos 600) 400 0 (pos 0 ∷ [])
    ∷ acct 6 0 H (pos 400) 200 0 (pos 0 ∷ [])
    ∷ [])

-- of these, as the first day of a period, T, Max EUL, and one after another the given columns of what the day writes
abbrev columns : List ℕ → (out : List ℕ) → List ℕ
columns [] out = []
columns (c ∷ cs) out = map (λ m. get_or out (5 * (m - 1) + c) 0) (members 6) ++ columns cs out

abbrev illustrated : (margin : ℕ) → (cs : List ℕ) → List ℕ
illustrated margin cs =
    let call = day (illustrative margin) 30 in
    let after = step (step start (opening (groups (0 ∷ 0 ∷ 0 ∷ 0 ∷ 0 ∷ 0 ∷ [])))) call in
    returned after call ++ columns cs (written after call)

-- member 1's EUL under the one scenario and its own, from its house EUL and its clients
abbrev member_euls : (house : ℤ) → List (ℕ × ℤ) → List ℤ
member_euls house cs =
    let accts = accounts 1 (day_of 1 (losing 1 0 H house ∷ clients 1 cs)) in
    member_under accts 1 1 ∷ member_own 1 accts 1 ∷ []

-- a day's own Max EUL
abbrev max_of : Opening → List Line → List ℕ
max_of o lines = own_max_eul o (accounts o.k (day_of 1 lines)) ∷ []

-- what the closing writes of a period without groups whose members' losses on days 1, 2, .. are given
abbrev days_from : (number : ℕ) → Register → List (List ℤ) → Register
days_from number g [] = g
days_from number g (es ∷ ess) = days_from (suc number) (step g (day (day_of number (houses 1 es)) (5 * g.held.n))) ess

abbrev closed : Opening → List (List ℤ) → List ℕ
closed o ess = buffer (days_from 1 (step start (opening o)) ess) (closing (3 * o.n)) []

pub cases : List Case
cases =
    -- 1: T, Max EUL, losses, shares, values, reserves; and the estimates as 001, 6.1.2 has them
    illustrated 550 (0 ∷ 1 ∷ 2 ∷ 3 ∷ 4 ∷ [])
    is (1800 ∷ 500
    ∷ 450 ∷ 200 ∷ 250 ∷ 500 ∷ 200 ∷ 200
    ∷ 250000000000000 ∷ 111111111111112 ∷ 138888888888889 ∷ 277777777777778 ∷ 111111111111112 ∷ 111111111111112
    ∷ 12500 ∷ 5556 ∷ 6944 ∷ 13889 ∷ 5556 ∷ 5556
    ∷ 13750 ∷ 6111 ∷ 7639 ∷ 15278 ∷ 6111 ∷ 6111
    ∷ 27500 ∷ 12222 ∷ 15278 ∷ 30556 ∷ 12222 ∷ 12222
    ∷ [])
    -- 2: with a margin of 700 the first loss is 300; T, Max EUL, losses, values and reserves as 001, 6.2 has them
    ∷ illustrated 700 (0 ∷ 2 ∷ 3 ∷ [])
    is (1650 ∷ 500
    ∷ 300 ∷ 200 ∷ 250 ∷ 500 ∷ 200 ∷ 200
    ∷ 9091 ∷ 6061 ∷ 7576 ∷ 15152 ∷ 6061 ∷ 6061
    ∷ 10000 ∷ 6667 ∷ 8333 ∷ 16667 ∷ 6667 ∷ 6667
    ∷ [])
    -- 3: House -40; R 60, 50, 30, -25; U 20; A 10: EUL 100
    ∷ member_euls (minus 40)
    ((R, pos 60) ∷ (R, pos 50) ∷ (R, pos 30) ∷ (R, minus 25) ∷ (U, pos 20) ∷ (A, pos 10) ∷ [])
    is_signed (pos 100 ∷ pos 100 ∷ [])
    -- 4: House 0; R 10, 10; U 100: EUL 160
    ∷ member_euls (pos 0) ((R, pos 10) ∷ (R, pos 10) ∷ (U, pos 100) ∷ []) is_signed (pos 160 ∷ pos 160 ∷ [])
    -- 5: House 0; R five times 3: EUL 8
    ∷ member_euls (pos 0) ((R, pos 3) ∷ (R, pos 3) ∷ (R, pos 3) ∷ (R, pos 3) ∷ (R, pos 3) ∷ [])
    is_signed (pos 8 ∷ pos 8 ∷ [])
    -- 6: Affiliates 100 and -30 under one scenario: Max EUL 100
    ∷ max_of (groups (1 ∷ 1 ∷ [])) (houses 1 (pos 100 ∷ minus 30 ∷ [])) is (100 ∷ [])
    -- 7: Affiliates 100 and 80, a third member 150: Max EUL 180
    ∷ max_of (groups (1 ∷ 1 ∷ 0 ∷ [])) (houses 1 (pos 100 ∷ pos 80 ∷ pos 150 ∷ [])) is (180 ∷ [])
    -- 8: Affiliates, one losing 100 under 1 only, the other 80 under 2 only, no margins: Max EUL 100
    ∷ max_of (opening_of 2 2 (1 ∷ 1 ∷ []))
    (acct 1 0 H (pos 100) 0 0 (pos 0 ∷ pos 100 ∷ []) ∷ acct 2 0 H (pos 80) 0 0 (pos 80 ∷ pos 0 ∷ []) ∷ [])
    is (100 ∷ [])
    -- 9: One day, three losses of 200,000,000: raw 73,333,334 each
    ∷ closed (groups (0 ∷ 0 ∷ 0 ∷ [])) ((pos 200000000 ∷ pos 200000000 ∷ pos 200000000 ∷ []) ∷ [])
    is (73333334 ∷ 73333334 ∷ 146666668
    ∷ 73333334 ∷ 73333334 ∷ 146666668
    ∷ 73333334 ∷ 73333334 ∷ 146666668
    ∷ [])
    -- 10: Days (100m, 100m) and (0, 600m): funded 165,000,000 and 495,000,000
    ∷ closed (groups (0 ∷ 0 ∷ [])) ((pos 100000000 ∷ pos 100000000 ∷ []) ∷ (pos 0 ∷ pos 600000000 ∷ []) ∷ [])
    is (165000000 ∷ 165000000 ∷ 330000000 ∷ 495000000 ∷ 495000000 ∷ 990000000 ∷ [])
    ∷ []

pub ten_figures : map (λ (c : Case). c.got) cases ≡ map (λ (c : Case). c.due) cases
unfolding cases computed
ten_figures = refl

-- Beyond document 01: 31 days, on day i of which two members lose i and 33 - i million, so that M is the first day's.
abbrev month_of_31 : List (List ℤ)
month_of_31 = map (λ i. pos (i * 1000000) ∷ pos ((33 - i) * 1000000) ∷ []) (range_with_len 1 31)

pub whole_month : closed (groups (0 ∷ 0 ∷ [])) month_of_31 ≡ 17066667 ∷ 50000000 ∷ 100000000 ∷ 18133334 ∷ 50000000 ∷ 100000000 ∷ []
unfolding computed
whole_month = refl

-- The Max EULs that these days report (document 02, Change 3). Their own fall from 32 to 17 million and rise to 31 again.
abbrev reported_from : (number : ℕ) → Register → List (List ℤ) → List ℕ
reported_from number g [] = []
reported_from number g (es ∷ ess) =
    let call = day (day_of number (houses 1 es)) (5 * g.held.n) in
    get_or (returned (step g call) call) 1 0 ∷ reported_from (suc number) (step g call) ess

pub whole_month_reports : reported_from 1 (step start (opening (groups (0 ∷ 0 ∷ [])))) month_of_31 ≡ replicate 31 32000000
unfolding computed
whole_month_reports = refl

-- what demand 3 holds cases 9 and 10 to, with nothing rounded: a fraction is p over q where its cross products agree and its denominator is
-- above 0
abbrev ◌is_fraction◌ : Fraction → Fraction → Case
x is_fraction y = (x.num * y.den ∷ min 1 x.den ∷ []) is (y.num * x.den ∷ 1 ∷ [])

abbrev exact : List (List ℤ) → Opening → (m : ℕ) → Fraction
exact ess o m = exact_charge o (days_from 1 (step start (opening o)) ess).days m

-- a fraction's numerator and denominator
abbrev parts : Fraction → List ℕ
parts x = x.num ∷ x.den ∷ []

-- three days of two members; the first has the highest Max EUL
abbrev worst_first : List (List ℤ)
worst_first =
    (pos 400000000 ∷ pos 200000000 ∷ [])
    ∷ (pos 100000000 ∷ pos 300000000 ∷ [])
    ∷ (pos 70000000 ∷ pos 30000000 ∷ [])
    ∷ []

-- and the last, by the same days the other way round
abbrev worst_last : List (List ℤ)
worst_last =
    (pos 70000000 ∷ pos 30000000 ∷ [])
    ∷ (pos 100000000 ∷ pos 300000000 ∷ [])
    ∷ (pos 400000000 ∷ pos 200000000 ∷ [])
    ∷ []

-- a day on which two members lose 6 and 2
abbrev stressed : KeptDay
stressed =
    record {
      number = 1;
      accounts = accounts 1 (day_of 1 (acct 1 0 H (pos 10) 0 0 (pos 4 ∷ []) ∷ acct 2 0 H (pos 5) 0 0 (pos 3 ∷ []) ∷ []));
    }

-- the three days with days without losses before, between and after them; and such days alone
abbrev with_days_without_losses : List (List ℤ)
with_days_without_losses =
    (pos 0 ∷ pos 0 ∷ [])
    ∷ (pos 400000000 ∷ pos 200000000 ∷ [])
    ∷ (pos 0 ∷ minus 7 ∷ [])
    ∷ (pos 100000000 ∷ pos 300000000 ∷ [])
    ∷ (minus 5 ∷ minus 5 ∷ [])
    ∷ (minus 1 ∷ pos 0 ∷ [])
    ∷ (pos 70000000 ∷ pos 30000000 ∷ [])
    ∷ (minus 400000000 ∷ pos 0 ∷ [])
    ∷ []

abbrev only_without_losses : List (List ℤ)
only_without_losses = (pos 0 ∷ pos 0 ∷ []) ∷ (minus 3 ∷ pos 0 ∷ []) ∷ []

-- these days as the register keeps them, the last first
abbrev kept : List (List ℤ) → List KeptDay
kept ess = (days_from 1 (step start (opening (groups (0 ∷ 0 ∷ [])))) ess).days

-- of two members the sums of shares and the raw charges over days
abbrev sums_and_charges : List KeptDay → List ℕ
sums_and_charges days =
    let o = groups (0 ∷ 0 ∷ []) in
    map (sum_of_shares o days) (1 ∷ 2 ∷ []) ++ map (raw o days) (1 ∷ 2 ∷ [])

pub exact_cases : List Case
exact_cases =
    -- 9: the exact charge is 73,333,333 and a third
    exact ((pos 200000000 ∷ pos 200000000 ∷ pos 200000000 ∷ []) ∷ []) (groups (0 ∷ 0 ∷ 0 ∷ [])) 3 is_fraction 220000000 over 3
    -- 10: and here each is whole
    ∷ exact ((pos 100000000 ∷ pos 100000000 ∷ []) ∷ (pos 0 ∷ pos 600000000 ∷ []) ∷ []) (groups (0 ∷ 0 ∷ [])) 1 is_fraction 165000000 over 1
    ∷ exact ((pos 100000000 ∷ pos 100000000 ∷ []) ∷ (pos 0 ∷ pos 600000000 ∷ []) ∷ []) (groups (0 ∷ 0 ∷ [])) 2 is_fraction 495000000 over 1
    -- three days, by hand: 11 · 400m / 30 of 400/600 + 100/400 + 70/100, and of 200/600 + 300/400 + 30/100
    ∷ exact worst_first (groups (0 ∷ 0 ∷ [])) 1 is_fraction 2134000000 over 9
    ∷ exact worst_last (groups (0 ∷ 0 ∷ [])) 2 is_fraction 1826000000 over 9
    -- four days: 11 · 10 / 40 of 10/20 + 4/10 + 3/10 + 1/10
    ∷ exact ((pos 10 ∷ pos 10 ∷ []) ∷ (pos 4 ∷ pos 6 ∷ []) ∷ (pos 3 ∷ pos 7 ∷ []) ∷ (pos 1 ∷ pos 9 ∷ []) ∷ []) (groups (0 ∷ 0 ∷ [])) 1 is_fraction 143 over 40
    -- one scenario, under which the stresses are not 0: 11 · 6 / 10 of 6/8, and of 2/8
    ∷ exact_charge (groups (0 ∷ 0 ∷ [])) (stressed ∷ []) 1 is_fraction 99 over 20
    ∷ exact_charge (groups (0 ∷ 0 ∷ [])) (stressed ∷ []) 2 is_fraction 33 over 20
    -- no day: the exact charge is 0 over 1 (document 02, Change 2), and a raw one 0, whatever M and the sum of shares would be
    ∷ parts (exact [] (groups (0 ∷ 0 ∷ [])) 1) is (0 ∷ 1 ∷ [])
    ∷ parts (exact [] (opening_of 3 2 (4 ∷ 4 ∷ 0 ∷ [])) 3) is (0 ∷ 1 ∷ [])
    ∷ (charge 0 0 0 ∷ charge 400000000 1000000000000000 0 ∷ charge 400000000 1000000000000000 1 ∷ []) is (0 ∷ 0 ∷ 440000000 ∷ [])
    -- A share has fifteen places and is rounded up at the last of them (document 02, Change 6); where it has no remainder it stays. One dollar
    -- of the greatest T has two parts.
    ∷ (share 1 1000000000000000 ∷ share 1 1000000000000001 ∷ share 1 999999999999999 ∷ share 1 767000000000000 ∷ []) is (1 ∷ 1 ∷ 2 ∷ 2 ∷ [])
    ∷ (share 0 7 ∷ share 2 3 ∷ share 7 7 ∷ share 3 2 ∷ []) is (0 ∷ 666666666666667 ∷ 1000000000000000 ∷ 1500000000000000 ∷ [])
    -- A charge divides the sum of such shares, once: of one part and of the most; where their mean is no whole number; and from one part to the
    -- next it passes a dollar.
    ∷ (charge 767000000000000 1 1 ∷ charge 767000000000000 31000000000000000 31 ∷ []) is (1 ∷ 843700000000000 ∷ [])
    ∷ (charge 767000000000000 7 6 ∷ charge 767000000000000 4 3 ∷ []) is (1 ∷ 2 ∷ [])
    ∷ (charge 1 909090909090909 1 ∷ charge 1 909090909090910 1 ∷ charge 1 1818181818181818 2 ∷ charge 1 1818181818181819 2 ∷ []) is (1 ∷ 2 ∷ 1 ∷ 2 ∷ [])
    -- a sum of thirds, each rounded up on its day
    ∷ sums_and_charges (kept ((pos 1 ∷ pos 2 ∷ []) ∷ (pos 1 ∷ pos 2 ∷ []) ∷ [])) is (666666666666668 ∷ 1333333333333334 ∷ 1 ∷ 2 ∷ [])
    -- A day without losses: a member's five numbers are 0, whatever loss and Max EUL would be, and its own Max EUL is 0. A dollar is a loss.
    ∷ (five 0 0 0 ++ (five 0 400000000 0 ++ five 5 9 0)) is replicate 15 0
    ∷ five 1 400000000 1 is (1 ∷ 1000000000000000 ∷ 40000000000 ∷ 44000000000 ∷ 88000000000 ∷ [])
    ∷ five 0 400000000 1 is replicate 5 0
    ∷ max_of (groups (0 ∷ 0 ∷ [])) (houses 1 (pos 0 ∷ minus 7 ∷ [])) is (0 ∷ [])
    ∷ max_of (groups (1 ∷ 1 ∷ [])) (houses 1 (minus 1 ∷ minus 7 ∷ [])) is (0 ∷ [])
    -- It does not count (document 02, Change 4): of these eight days the second, the fourth and the seventh do, the last first. The sums of
    -- shares, the raw and the exact charges are those of the three alone.
    ∷ map (λ d. d.number) (counted (groups (0 ∷ 0 ∷ [])) (kept with_days_without_losses)) is (7 ∷ 4 ∷ 2 ∷ [])
    ∷ sums_and_charges (kept worst_first) is (1616666666666667 ∷ 1383333333333334 ∷ 237111112 ∷ 202888889 ∷ [])
    ∷ sums_and_charges (kept with_days_without_losses) is (1616666666666667 ∷ 1383333333333334 ∷ 237111112 ∷ 202888889 ∷ [])
    ∷ exact with_days_without_losses (groups (0 ∷ 0 ∷ [])) 1 is_fraction 2134000000 over 9
    ∷ exact with_days_without_losses (groups (0 ∷ 0 ∷ [])) 2 is_fraction 1826000000 over 9
    -- where no day counts, all is as without a day
    ∷ (length (counted (groups (0 ∷ 0 ∷ [])) (kept only_without_losses)) ∷ sums_and_charges (kept only_without_losses)) is replicate 5 0
    ∷ parts (exact only_without_losses (groups (0 ∷ 0 ∷ [])) 1) is (0 ∷ 1 ∷ [])
    ∷ parts (exact only_without_losses (groups (0 ∷ 0 ∷ [])) 2) is (0 ∷ 1 ∷ [])
    -- The allowance is 1 dollar where M is 0, 2.1 dollars where it is 10^15, 1.0011 dollars where it is 10^12, 1.8437 where it is the most
    -- that an M can be, and in the printed month 1.000000429 dollars (Change 6). Nothing of it is rounded.
    ∷ allowance 0 is_fraction 1 over 1
    ∷ allowance 1000000000000000 is_fraction 21 over 10
    ∷ allowance 1000000000000 is_fraction 10011 over 10000
    ∷ allowance 767000000000000 is_fraction 18437 over 10000
    ∷ allowance 390000000 is_fraction 1000000429 over 1000000000
    ∷ allowance 7 is_fraction 10000000000000077 over 10000000000000000
    -- the printed month's second member falls short by 39,275,000
    ∷ map shortfall (10725000 ∷ 0 ∷ 49999999 ∷ 50000000 ∷ 418275000 ∷ []) is (39275000 ∷ 50000000 ∷ 1 ∷ 0 ∷ 0 ∷ [])
    ∷ []

pub exact_figures : map (λ (c : Case). c.got) exact_cases ≡ map (λ (c : Case). c.due) exact_cases
unfolding exact_cases computed
exact_figures = refl

-- What demand 3 says its bounds by, from both sides: at most, less than, a denominator above 0, every number of a list.
pub orders :
    (1 over 2 ≼ 3 over 6)
    × ¬ (2 over 2 ≼ 2 over 3)
    × (2 over 2 ≺ 3 over 2)
    × ¬ (2 over 1 ≺ 6 over 3)
    × Proper (0 over 1)
    × ¬ Proper (1 over 0)
    × AllByRecursion (λ x. x < 3) (1 ∷ 2 ∷ [])
    × ¬ AllByRecursion (λ x. x < 3) (3 ∷ 2 ∷ [])
    × ¬ AllByRecursion (λ x. x < 3) (1 ∷ 3 ∷ [])
orders = (
  omega arith,
  (λ h. omega (arith, h)),
  omega arith,
  (λ h. omega (arith, h)),
  omega arith,
  (λ h. omega (arith, h)),
  (omega arith, (omega arith, tt)),
  (λ h. omega (arith, h.0)),
  (λ h. omega (arith, h.1.0)),
)

-- What no answer shows: the heading before a day's first account.
pub before_the_first : nobody ≡ record { member = 0; number = 0; kind = 0 }
before_the_first = refl
