-- How the worked examples are written: accounts as lines in the order of an acct line of the month's text, put into a day's four slices.
use mathlib.Core.List.{List, [], ◌∷◌, map, flat_map}
use Prim.Native.Nat.{ℕ, suc}
use lib.IntN.{ℤ, pos, neg_ℤ}
use lib.ListN.{replicate}
use Rattle.numbers.specs.Signed.{◌⁺, ◌⁻}
use Rattle.numbers.specs.Lists.{insert, descending}
use Rattle.numbers.specs.Sums.{Σ, Σℤ, greatest}
use Rattle.numbers.specs.Fractions.{Σᶠ}
use Rattle.numbers.specs.Rounding.{ceil_div, round_div}
use Rattle.methodology.specs.declared.Heading.{Heading}
use Rattle.methodology.specs.declared.Opening.{Opening}
use Rattle.methodology.specs.Account.{present, DayInput, account_at, accounts, decrease, eul_of, eul_under, largest_decrease, own_eul}
use Rattle.methodology.specs.Member.{accounts_of, house_eul, half_of_clients, two_largest_of_r, part_b, part_c, member_eul, member_under, member_own, loss}
use Rattle.methodology.specs.Day.{total, group_of, group_sum, own_max_eul, share, value, reserve, estimate, five, dailies}
use Rattle.methodology.specs.Contribution.{reported_max_eul, highest, counted, sum_of_shares, charge, raw, funded, unfunded, exact_charge, shortfall, allowance, three, contributions, total_funded}
use Rattle.methodology.specs.Refusals.{
  row◌when◌else◌,
  bad_opening,
  opening_rows,
  opening_refusal,
  bad_day_number,
  passed_over,
  bad_heading,
  first_bad_heading,
  last_missing,
  bad_amount,
  account_rows,
  day_rows,
  day_refusal,
  closing_refusal,
}
use Rattle.methodology.specs.Register.{Register, Call, opening, day, closing, Answer, refusal, accept, step, returned, written, answer, buffer}

-- Who unfolds this unfolds every definition on its line, so that the examples compute.
unfoldable pub computed : Unit {0}
unfolding flat_map insert descending Σ Σℤ greatest Σᶠ ceil_div round_div account_at accounts decrease eul_of eul_under largest_decrease own_eul accounts_of house_eul half_of_clients two_largest_of_r part_b part_c member_eul member_under member_own loss total group_of group_sum own_max_eul share value reserve estimate five dailies reported_max_eul highest counted sum_of_shares charge raw funded unfunded exact_charge shortfall allowance three contributions total_funded row◌when◌else◌ present bad_opening opening_rows opening_refusal bad_day_number passed_over bad_heading first_bad_heading last_missing bad_amount account_rows day_rows day_refusal closing_refusal refusal accept step returned written answer buffer
computed = tt

-- "Kinds: H (0) house; R (1) [..]; A (2) [..]; U (3) [..]": document 01's numbers, and not the definitions', which the examples hold.
abbrev pub H : ℕ
H = 0

abbrev pub R : ℕ
R = 1

abbrev pub A : ℕ
A = 2

abbrev pub U : ℕ
U = 3

pub record Line : Type 0 where
  pub heading : Heading
  pub base : ℤ
  pub margin : ℕ
  pub extra : ℕ
  pub stresses : List ℤ

-- member, account, kind, base, margin, extra, stress 1 to k
abbrev pub acct : (member number kind : ℕ) → (base : ℤ) → (margin extra : ℕ) → (stresses : List ℤ) → Line
acct member number kind base margin extra stresses =
    record {
      heading = record { member = member; number = number; kind = kind };
      base = base;
      margin = margin;
      extra = extra;
      stresses = stresses;
    }

-- a negative number
abbrev pub minus : ℕ → ℤ
minus n = neg_ℤ (pos n)

-- an account whose EUL is e under the one scenario: a decrease of e, or where e is negative none and a margin of -e
abbrev pub losing : (member number kind : ℕ) → (e : ℤ) → Line
losing member number kind e = acct member number kind (pos (e ⁺)) (e ⁻) 0 (pos 0 ∷ [])

-- an account that falls from limit to limit under the one scenario
abbrev pub from_limit_to_limit : (member number kind : ℕ) → Line
from_limit_to_limit member number kind = acct member number kind (pos 1000000000000) 0 0 (minus 1000000000000 ∷ [])

-- house accounts with the given EULs, of members from the first on
abbrev pub houses : (first : ℕ) → List ℤ → List Line
houses first [] = []
houses first (e ∷ es) = losing first 0 H e ∷ houses (suc first) es

-- client accounts of member 1, by kind and EUL, numbered from the first on
abbrev pub clients : (first : ℕ) → List (ℕ × ℤ) → List Line
clients first [] = []
clients first (c ∷ cs) = losing 1 first c.0 c.1 ∷ clients (suc first) cs

-- a day's number and its accounts
abbrev pub day_of : (number : ℕ) → List Line → DayInput
day_of number lines =
    record {
      terms = record { number = number };
      headings = map (λ l. l.heading) lines;
      npvs = flat_map (λ l. l.base ∷ l.stresses) lines;
      margins = map (λ l. l.margin) lines;
      extras = map (λ l. l.extra) lines;
    }

-- what an opening brings, and the call, with everybody present on all days
abbrev pub opening_of : (n k : ℕ) → (groups : List ℕ) → Opening
opening_of n k groups = record { n = n; k = k; groups = groups; firsts = replicate n 1; lasts = replicate n 31 }

abbrev pub brings : (n k : ℕ) → (groups : List ℕ) → Call
brings n k groups = opening (opening_of n k groups)

-- the call with each of its lists; and of n members in no group under one scenario, with their first and last days
abbrev pub brings_lists : (n k : ℕ) → (groups firsts lasts : List ℕ) → Call
brings_lists n k groups firsts lasts = opening (record { n = n; k = k; groups = groups; firsts = firsts; lasts = lasts })

abbrev pub brings_days : (n : ℕ) → (firsts lasts : List ℕ) → Call
brings_days n firsts lasts = brings_lists n 1 (replicate n 0) firsts lasts

-- a call with what it must answer and leave in its buffer
pub record Exchange : Type 0 where
  pub call : Call
  pub due : Answer
  pub left : List ℕ

-- the buffer that a call is lent: sevens
abbrev pub lent : Call → List ℕ
lent (opening o) = []
lent (day d room) = replicate room 7
lent (closing room) = replicate room 7

infix 95 ◌gets◌
infix 95 ◌gets◌writing◌
-- a call that leaves its buffer as it was
abbrev pub ◌gets◌ : Call → Answer → Exchange
c gets a = record { call = c; due = a; left = lent c }

abbrev pub ◌gets◌writing◌ : Call → Answer → List ℕ → Exchange
c gets a writing out = record { call = c; due = a; left = out }

-- the register's own answers and buffers, call by call
unfoldable pub played : Register → List Exchange → List Exchange
played g [] = []
played g (x ∷ xs) =
    record { call = x.call; due = answer g x.call; left = buffer g x.call (lent x.call) } ∷ played (step g x.call) xs
