-- Calls at the limits of size, with what they must answer: 32 members, 16 scenarios, 256 accounts, group 32, day 31. By
-- computation; the figures are those of a recalculation of its own from the documents.
use mathlib.Core.Path.{◌≡◌, refl}
use mathlib.Core.List.{List, [], ◌∷◌, ◌++◌, map, flat_map}
use Prim.Native.Nat.{ℕ, ◌-◌, ◌*◌}
use lib.IntN.{pos}
use lib.ListN.{replicate}
use Rattle.std.specs.List.{range_with_len}
use Rattle.methodology.specs.Register.{Call, day, closing, start, accepted, refused, refused_at}
use Rattle.methodology.proofs.Samples.{computed, H, U, Line, acct, losing, from_limit_to_limit, day_of, brings, Exchange, ◌gets◌, ◌gets◌writing◌, played}

-- Member 32, whose Affiliate is member 31, on day 31; the others lose 1. The day before it nobody loses.
abbrev member_32 : List Exchange
member_32 =
    brings 32 1 (replicate 30 0 ++ (32 ∷ 32 ∷ [])) gets accepted []
    ∷ day (day_of 30 (map (λ m. losing m 0 H (pos 0)) (range_with_len 1 32))) 160 gets accepted (0 ∷ 0 ∷ []) writing replicate 160 0
    ∷ day (day_of 31 (map (λ m. losing m 0 H (pos 1)) (range_with_len 1 31) ++ (losing 32 0 H (pos 9) ∷ []))) 160
    gets accepted (40 ∷ 10 ∷ [])
    writing (flat_map (λ m. 1 ∷ 25000000000000 ∷ 25 ∷ 28 ∷ 55 ∷ []) (range_with_len 1 31) ++ (9 ∷ 225000000000000 ∷ 225 ∷ 248 ∷ 495 ∷ []))
    ∷ closing 96
    gets accepted (1 ∷ 10 ∷ 1600000000 ∷ [])
    writing (flat_map (λ m. 1 ∷ 50000000 ∷ 100000000 ∷ []) (range_with_len 1 31) ++ (3 ∷ 50000000 ∷ 100000000 ∷ []))
    ∷ []

-- a month of 32 members that has not begun
abbrev not_begun : List Exchange
not_begun =
    brings 32 16 (replicate 32 32) gets accepted []
    ∷ closing 95 gets refused 4
    ∷ closing 96 gets accepted (0 ∷ 0 ∷ 1600000000 ∷ []) writing (flat_map (λ m. 0 ∷ 50000000 ∷ 100000000 ∷ []) (range_with_len 1 32))
    ∷ []

-- two Affiliates in group 32 that lose 3 and 4 under one scenario of 16 alone: Max EUL is their sum
abbrev under_one : (lines : List Line) → List Exchange
under_one lines =
    brings 2 16 (32 ∷ 32 ∷ []) gets accepted []
    ∷ day (day_of 1 lines) 10
    gets accepted (7 ∷ 7 ∷ [])
    writing (3 ∷ 428571428571429 ∷ 300 ∷ 330 ∷ 660 ∷ 4 ∷ 571428571428572 ∷ 400 ∷ 440 ∷ 880 ∷ [])
    ∷ closing 6 gets accepted (1 ∷ 7 ∷ 100000000 ∷ []) writing (4 ∷ 50000000 ∷ 100000000 ∷ 5 ∷ 50000000 ∷ 100000000 ∷ [])
    ∷ []

abbrev under_16 : List Line
under_16 =
    acct 1 0 H (pos 5) 0 0 (replicate 15 (pos 5) ++ (pos 2 ∷ []))
    ∷ acct 2 0 H (pos 9) 0 0 (replicate 15 (pos 9) ++ (pos 5 ∷ []))
    ∷ []

abbrev under_1 : List Line
under_1 = acct 1 0 H (pos 5) 0 0 (pos 2 ∷ replicate 15 (pos 5)) ∷ acct 2 0 H (pos 9) 0 0 (pos 5 ∷ replicate 15 (pos 9)) ∷ []

-- Each of 16 scenarios alone: on day j a loss of j hangs on scenario j, so that each day has the highest Max EUL so far.
abbrev one_by_one : List Exchange
one_by_one =
    brings 1 16 (0 ∷ []) gets accepted []
    ∷ map
    (λ j.
    day (day_of j (acct 1 0 H (pos 20) 0 0 (replicate (j - 1) (pos 20) ++ (pos (20 - j) ∷ replicate (16 - j) (pos 20))) ∷ [])) 5
    gets accepted (j ∷ j ∷ [])
    writing (j ∷ 1000000000000000 ∷ 100 * j ∷ 110 * j ∷ 220 * j ∷ []))
    (range_with_len 1 16)
    ++ (closing 3 gets accepted (16 ∷ 16 ∷ 50000000 ∷ []) writing (18 ∷ 50000000 ∷ 100000000 ∷ []) ∷ [])

-- row 6 of each of 16 stresses
abbrev stress_outside : List Exchange
stress_outside =
    brings 1 16 (0 ∷ []) gets accepted []
    ∷ map
    (λ j. day (day_of 1 (acct 1 0 H (pos 0) 0 0 (replicate (j - 1) (pos 0) ++ (pos 1000000000001 ∷ replicate (16 - j) (pos 0))) ∷ [])) 5 gets refused_at 6 0)
    (range_with_len 1 16)

-- 256 accounts of one member; the last at index 255
abbrev with_last : Line → Call
with_last line = day (day_of 1 (losing 1 0 H (pos 1) ∷ map (λ i. losing 1 i U (pos 1)) (range_with_len 1 254) ++ (line ∷ []))) 5

abbrev accounts_256 : List Exchange
accounts_256 =
    brings 1 1 (0 ∷ []) gets accepted []
    ∷ with_last (losing 1 65536 U (pos 1)) gets refused_at 5 255
    ∷ with_last (acct 1 255 U (pos 1) 0 1 (pos 0 ∷ [])) gets refused_at 6 255
    ∷ with_last (losing 1 65535 U (pos 1)) gets accepted (384 ∷ 384 ∷ []) writing (384 ∷ 1000000000000000 ∷ 38400 ∷ 42240 ∷ 84480 ∷ [])
    ∷ []

-- 256 accounts that fall from limit to limit: no Max EUL is higher. A day on which a dollar is lost reports it, and its cents go by it; a
-- day without losses reports it too.
abbrev highest_of_all : List Exchange
highest_of_all =
    brings 1 1 (0 ∷ []) gets accepted []
    ∷ day (day_of 1 (from_limit_to_limit 1 0 H ∷ map (λ i. from_limit_to_limit 1 i U) (range_with_len 1 255))) 5
    gets accepted (767000000000000 ∷ 767000000000000 ∷ [])
    writing (767000000000000 ∷ 1000000000000000 ∷ 76700000000000000 ∷ 84370000000000000 ∷ 168740000000000000 ∷ [])
    ∷ day (day_of 2 (losing 1 0 H (pos 1) ∷ [])) 5
    gets accepted (1 ∷ 767000000000000 ∷ [])
    writing (1 ∷ 1000000000000000 ∷ 76700000000000000 ∷ 84370000000000000 ∷ 168740000000000000 ∷ [])
    ∷ day (day_of 3 (losing 1 0 H (pos 0) ∷ [])) 5 gets accepted (0 ∷ 767000000000000 ∷ []) writing replicate 5 0
    ∷ closing 3
    gets accepted (2 ∷ 767000000000000 ∷ 843700000000000 ∷ [])
    writing (843700000000000 ∷ 843700000000000 ∷ 1687400000000000 ∷ [])
    ∷ []

-- One dollar beside the most that another member can lose, in 255 accounts: a share of two parts, and a charge of two dollars.
abbrev one_dollar : List Exchange
one_dollar =
    brings 2 1 (0 ∷ 0 ∷ []) gets accepted []
    ∷ day (day_of 1 (from_limit_to_limit 1 0 H ∷ map (λ i. from_limit_to_limit 1 i U) (range_with_len 1 254) ++ (losing 2 0 H (pos 1) ∷ []))) 10
    gets accepted (764000000000001 ∷ 764000000000000 ∷ [])
    writing (764000000000000 ∷ 999999999999999 ∷ 76399999999999900 ∷ 84039999999999890 ∷ 168079999999999780 ∷ 1 ∷ 2 ∷ 100 ∷ 110 ∷ 220 ∷ [])
    ∷ closing 6
    gets accepted (1 ∷ 764000000000000 ∷ 840400050000000 ∷ [])
    writing (840400000000000 ∷ 840400000000000 ∷ 1680800000000000 ∷ 2 ∷ 50000000 ∷ 100000000 ∷ [])
    ∷ []

-- 31 days without losses; and the same but for one day, the 17th
abbrev nothing_on : (first count so_far : ℕ) → List Exchange
nothing_on first count so_far =
    map (λ i. day (day_of i (losing 1 0 H (pos 0) ∷ [])) 5 gets accepted (0 ∷ so_far ∷ []) writing replicate 5 0) (range_with_len first count)

abbrev nothing_in_31_days : List Exchange
nothing_in_31_days =
    (brings 1 1 (0 ∷ []) gets accepted [])
    ∷ nothing_on 1 31 0
    ++ (closing 3 gets accepted (0 ∷ 0 ∷ 50000000 ∷ []) writing (0 ∷ 50000000 ∷ 100000000 ∷ []) ∷ [])

abbrev one_of_31_days : List Exchange
one_of_31_days =
    (brings 1 1 (0 ∷ []) gets accepted [])
    ∷ nothing_on 1 16 0
    ++ ((day (day_of 17 (losing 1 0 H (pos 10) ∷ [])) 5 gets accepted (10 ∷ 10 ∷ []) writing (10 ∷ 1000000000000000 ∷ 1000 ∷ 1100 ∷ 2200 ∷ []))
    ∷ nothing_on 18 14 10
    ++ (closing 3 gets accepted (1 ∷ 10 ∷ 50000000 ∷ []) writing (11 ∷ 50000000 ∷ 100000000 ∷ []) ∷ []))

pub limit_lists : List (List Exchange)
limit_lists =
    member_32
    ∷ not_begun
    ∷ under_one under_16
    ∷ under_one under_1
    ∷ one_by_one
    ∷ stress_outside
    ∷ accounts_256
    ∷ highest_of_all
    ∷ one_dollar
    ∷ nothing_in_31_days
    ∷ one_of_31_days
    ∷ []

pub worked_limits : map (played start) limit_lists ≡ limit_lists
unfolding limit_lists played computed
worked_limits = refl
