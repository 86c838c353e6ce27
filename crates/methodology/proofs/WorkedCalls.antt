-- Calls worked by the register: document 01's printed month, with the shares of document 02's Change 6; M on each of three days; a
-- month whose own Max EULs fall and rise; months that have not begun; months with days without losses, and of such days alone; shares of a few
-- parts; a period whose calls meet every condition of document 01's refusal table from both sides, and every pair of its order of precedence;
-- months in which members join or leave, with row 10 and what is new in rows 1 and 5. One table, one theorem: each answer, and each number
-- left in a buffer, is the one due. By computation. The figures were worked out from the documents by a recalculation of its own. The largest
-- periods are in WorkedLimits.antt.
use mathlib.Core.Path.{◌≡◌, refl}
use mathlib.Core.List.{List, [], ◌∷◌, ◌++◌, map, flat_map}
use Prim.Native.Nat.{ℕ, ◌+◌, ◌-◌, ◌*◌}
use lib.IntN.{ℤ, pos}
use lib.ListN.{length, drop, replicate}
use Rattle.std.specs.List.{range_with_len}
use Rattle.methodology.specs.declared.Status.TheVariants.{Fresh, Open, Closed}
use Rattle.methodology.specs.declared.Opening.{Opening}
use Rattle.methodology.specs.Register.{Call, opening, day, closing, Register, start, step, accepted, refused, refused_at}
use Rattle.methodology.proofs.Samples.{computed, H, R, A, U, Line, acct, minus, losing, from_limit_to_limit, houses, clients, day_of, opening_of, brings, brings_days, brings_lists, Exchange, ◌gets◌, ◌gets◌writing◌, played}

-- the printed month
abbrev printed : List Exchange
printed =
    brings 2 1 (0 ∷ 0 ∷ []) gets accepted []
    ∷ day (day_of 3 (acct 1 0 H (pos 390000000) 0 0 (pos 0 ∷ []) ∷ acct 2 0 H (pos 10000000) 0 0 (pos 0 ∷ []) ∷ [])) 10
    gets accepted (400000000 ∷ 390000000 ∷ [])
    writing (390000000 ∷ 975000000000000 ∷ 38025000000 ∷ 41827500000 ∷ 83655000000
    ∷ 10000000 ∷ 25000000000000 ∷ 975000000 ∷ 1072500000 ∷ 2145000000 ∷ [])
    ∷ closing 6
    gets accepted (1 ∷ 390000000 ∷ 468275000 ∷ [])
    writing (418275000 ∷ 418275000 ∷ 836550000 ∷ 10725000 ∷ 50000000 ∷ 100000000 ∷ [])
    ∷ []

-- ---- M, on the first, the second and the last of three days

-- a day by what each member loses, on its house account
abbrev losses : (number : ℕ) → List ℕ → Call
losses number es = day (day_of number (houses 1 (map pos es))) (5 * length es)

-- M is its Max EUL, wherever it stands
abbrev worst : (number : ℕ) → Exchange
worst number =
    losses number (400000000 ∷ 200000000 ∷ [])
    gets accepted (600000000 ∷ 400000000 ∷ [])
    writing (400000000 ∷ 666666666666667 ∷ 26666666667 ∷ 29333333333 ∷ 58666666667
    ∷ 200000000 ∷ 333333333333334 ∷ 13333333333 ∷ 14666666667 ∷ 29333333333 ∷ [])

abbrev middling : (number : ℕ) → Exchange
middling number =
    losses number (100000000 ∷ 300000000 ∷ [])
    gets accepted (400000000 ∷ 300000000 ∷ [])
    writing (100000000 ∷ 250000000000000 ∷ 7500000000 ∷ 8250000000 ∷ 16500000000
    ∷ 300000000 ∷ 750000000000000 ∷ 22500000000 ∷ 24750000000 ∷ 49500000000 ∷ [])

abbrev least : (number : ℕ) → Exchange
least number =
    losses number (70000000 ∷ 30000000 ∷ [])
    gets accepted (100000000 ∷ 70000000 ∷ [])
    writing (70000000 ∷ 700000000000000 ∷ 4900000000 ∷ 5390000000 ∷ 10780000000
    ∷ 30000000 ∷ 300000000000000 ∷ 2100000000 ∷ 2310000000 ∷ 4620000000 ∷ [])

-- after the worst they report its Max EUL, by which their cents go; the least one's T is below it (document 02, Change 3)
abbrev middling_after : (number : ℕ) → Exchange
middling_after number =
    losses number (100000000 ∷ 300000000 ∷ [])
    gets accepted (400000000 ∷ 400000000 ∷ [])
    writing (100000000 ∷ 250000000000000 ∷ 10000000000 ∷ 11000000000 ∷ 22000000000
    ∷ 300000000 ∷ 750000000000000 ∷ 30000000000 ∷ 33000000000 ∷ 66000000000 ∷ [])

abbrev least_after : (number : ℕ) → Exchange
least_after number =
    losses number (70000000 ∷ 30000000 ∷ [])
    gets accepted (100000000 ∷ 400000000 ∷ [])
    writing (70000000 ∷ 700000000000000 ∷ 28000000000 ∷ 30800000000 ∷ 61600000000
    ∷ 30000000 ∷ 300000000000000 ∷ 12000000000 ∷ 13200000000 ∷ 26400000000 ∷ [])

-- the period of these days, in any order: D, M and both charges are the same
abbrev closes_alike : (days : List Exchange) → List Exchange
closes_alike days =
    (brings 2 1 (0 ∷ 0 ∷ []) gets accepted [])
    ∷ days
    ++ ((closing 6
    gets accepted (3 ∷ 400000000 ∷ 440000001 ∷ [])
    writing (237111112 ∷ 237111112 ∷ 474222224 ∷ 202888889 ∷ 202888889 ∷ 405777778 ∷ []))
    ∷ [])

abbrev three_days : (first second third : ℕ → Exchange) → List Exchange
three_days first second third = closes_alike (first 1 ∷ second 2 ∷ third 3 ∷ [])

-- ---- the highest so far (document 02, Change 3)

-- Own Max EULs of 50, 80, 30, 60, 5, 90 and 2: what is reported never falls. Refused calls between them, days that would raise it among
-- them, leave it alone, and so do a refused opening and a refused closing.
abbrev so_far : List Exchange
so_far =
    brings 2 1 (0 ∷ 0 ∷ []) gets accepted []
    ∷ losses 3 (50 ∷ 30 ∷ [])
    gets accepted (80 ∷ 50 ∷ [])
    writing (50 ∷ 625000000000000 ∷ 3125 ∷ 3438 ∷ 6875 ∷ 30 ∷ 375000000000000 ∷ 1875 ∷ 2063 ∷ 4125 ∷ [])
    ∷ losses 5 (80 ∷ 20 ∷ [])
    gets accepted (100 ∷ 80 ∷ [])
    writing (80 ∷ 800000000000000 ∷ 6400 ∷ 7040 ∷ 14080 ∷ 20 ∷ 200000000000000 ∷ 1600 ∷ 1760 ∷ 3520 ∷ [])
    ∷ losses 5 (990 ∷ 10 ∷ []) gets refused 3
    ∷ losses 32 (990 ∷ 10 ∷ []) gets refused 3
    ∷ day (day_of 6 (houses 1 (pos 990 ∷ pos 10 ∷ []))) 9 gets refused 4
    ∷ losses 6 (990 ∷ []) gets refused 4
    ∷ day (day_of 6 (houses 1 (pos 990 ∷ []))) 10 gets refused_at 5 1
    ∷ losses 6 (1000000000001 ∷ 10 ∷ []) gets refused_at 6 0
    ∷ brings 2 1 (0 ∷ 0 ∷ []) gets refused 2
    ∷ closing 5 gets refused 4
    ∷ losses 6 (20 ∷ 30 ∷ [])
    gets accepted (50 ∷ 80 ∷ [])
    writing (20 ∷ 400000000000000 ∷ 3200 ∷ 3520 ∷ 7040 ∷ 30 ∷ 600000000000000 ∷ 4800 ∷ 5280 ∷ 10560 ∷ [])
    ∷ losses 9 (60 ∷ 10 ∷ [])
    gets accepted (70 ∷ 80 ∷ [])
    writing (60 ∷ 857142857142858 ∷ 6857 ∷ 7543 ∷ 15086 ∷ 10 ∷ 142857142857143 ∷ 1143 ∷ 1257 ∷ 2514 ∷ [])
    ∷ losses 10 (5 ∷ 0 ∷ [])
    gets accepted (5 ∷ 80 ∷ [])
    writing (5 ∷ 1000000000000000 ∷ 8000 ∷ 8800 ∷ 17600 ∷ 0 ∷ 0 ∷ 0 ∷ 0 ∷ 0 ∷ [])
    ∷ losses 20 (70 ∷ 90 ∷ [])
    gets accepted (160 ∷ 90 ∷ [])
    writing (70 ∷ 437500000000000 ∷ 3938 ∷ 4331 ∷ 8663 ∷ 90 ∷ 562500000000000 ∷ 5063 ∷ 5569 ∷ 11138 ∷ [])
    ∷ losses 31 (1 ∷ 2 ∷ [])
    gets accepted (3 ∷ 90 ∷ [])
    writing (1 ∷ 333333333333334 ∷ 3000 ∷ 3300 ∷ 6600 ∷ 2 ∷ 666666666666667 ∷ 6000 ∷ 6600 ∷ 13200 ∷ [])
    ∷ closing 6 gets accepted (7 ∷ 90 ∷ 100000000 ∷ []) writing (63 ∷ 50000000 ∷ 100000000 ∷ 37 ∷ 50000000 ∷ 100000000 ∷ [])
    ∷ []

-- After it an opening begins anew: of the 90 nothing is left in what days report, nor in M.
abbrev so_far_again : List Exchange
so_far_again =
    brings 2 1 (0 ∷ 0 ∷ []) gets accepted []
    ∷ losses 1 (3 ∷ 1 ∷ [])
    gets accepted (4 ∷ 3 ∷ [])
    writing (3 ∷ 750000000000000 ∷ 225 ∷ 248 ∷ 495 ∷ 1 ∷ 250000000000000 ∷ 75 ∷ 83 ∷ 165 ∷ [])
    ∷ losses 2 (2 ∷ 2 ∷ [])
    gets accepted (4 ∷ 3 ∷ [])
    writing (2 ∷ 500000000000000 ∷ 150 ∷ 165 ∷ 330 ∷ 2 ∷ 500000000000000 ∷ 150 ∷ 165 ∷ 330 ∷ [])
    ∷ closing 6 gets accepted (2 ∷ 3 ∷ 100000000 ∷ []) writing (3 ∷ 50000000 ∷ 100000000 ∷ 2 ∷ 50000000 ∷ 100000000 ∷ [])
    ∷ []

-- ---- months that have not begun (document 02, Change 2)

-- of one member and of two
abbrev none_of_one : Exchange
none_of_one = closing 3 gets accepted (0 ∷ 0 ∷ 50000000 ∷ []) writing (0 ∷ 50000000 ∷ 100000000 ∷ [])

abbrev none_of_two : Exchange
none_of_two = closing 6 gets accepted (0 ∷ 0 ∷ 100000000 ∷ []) writing (0 ∷ 50000000 ∷ 100000000 ∷ 0 ∷ 50000000 ∷ 100000000 ∷ [])

-- the first period, which its closing closes as any does; then one after it, and one all of whose days are refused
abbrev not_begun : List Exchange
not_begun =
    brings 2 1 (0 ∷ 0 ∷ []) gets accepted []
    ∷ none_of_two
    ∷ losses 1 (400000000 ∷ 200000000 ∷ []) gets refused 2
    ∷ closing 6 gets refused 2
    ∷ brings 1 16 (32 ∷ []) gets accepted []
    ∷ none_of_one
    ∷ brings 1 1 (0 ∷ []) gets accepted []
    ∷ losses 0 (5 ∷ []) gets refused 3
    ∷ losses 1 (1000000000001 ∷ []) gets refused_at 6 0
    ∷ none_of_one
    ∷ []

-- After a month with a day nothing of it is left: a period closed at once has M 0 and no charge. A day shows in D: a month with one has D 1.
abbrev not_begun_again : List Exchange
not_begun_again =
    brings 2 1 (0 ∷ 0 ∷ []) gets accepted []
    ∷ worst 7
    ∷ closing 6
    gets accepted (1 ∷ 400000000 ∷ 440000001 ∷ [])
    writing (293333334 ∷ 293333334 ∷ 586666668 ∷ 146666667 ∷ 146666667 ∷ 293333334 ∷ [])
    ∷ brings 2 1 (0 ∷ 0 ∷ []) gets accepted []
    ∷ none_of_two
    ∷ brings 1 1 (0 ∷ []) gets accepted []
    ∷ none_of_one
    ∷ brings 2 1 (0 ∷ 0 ∷ []) gets accepted []
    ∷ least 1
    ∷ closing 6
    gets accepted (1 ∷ 70000000 ∷ 103900000 ∷ [])
    writing (53900000 ∷ 53900000 ∷ 107800000 ∷ 23100000 ∷ 50000000 ∷ 100000000 ∷ [])
    ∷ []

-- ---- days without losses (document 02, Change 4)

-- a day on which two members lose nothing: it reports the highest so far, and writes 0
abbrev without_losses : (number so_far : ℕ) → Exchange
without_losses number so_far = losses number (0 ∷ 0 ∷ []) gets accepted (0 ∷ so_far ∷ []) writing replicate 10 0

-- The three days above with such days before, between and after them: what they say and write themselves, D, M and both charges stay.
abbrev beside_three_days : List (List Exchange)
beside_three_days =
    closes_alike (without_losses 1 0 ∷ worst 2 ∷ middling_after 3 ∷ least_after 4 ∷ [])
    ∷ closes_alike (worst 1 ∷ without_losses 2 400000000 ∷ middling_after 3 ∷ least_after 4 ∷ [])
    ∷ closes_alike (middling 1 ∷ worst 2 ∷ without_losses 30 400000000 ∷ least_after 31 ∷ [])
    ∷ closes_alike (middling 5 ∷ without_losses 6 300000000 ∷ worst 7 ∷ least_after 8 ∷ [])
    ∷ closes_alike (least 1 ∷ middling 2 ∷ worst 3 ∷ without_losses 31 400000000 ∷ [])
    ∷ closes_alike
    (without_losses 1 0
    ∷ without_losses 2 0
    ∷ least 4
    ∷ without_losses 5 70000000
    ∷ middling 10
    ∷ without_losses 11 300000000
    ∷ without_losses 12 300000000
    ∷ worst 20
    ∷ without_losses 30 400000000
    ∷ without_losses 31 400000000
    ∷ [])
    ∷ []

-- Its day number counts: after it the same one and a lower one are refused by 3, before 5 and 6, also where no day before it had losses and
-- where the last that had some is lower still; a higher one is accepted.
abbrev numbers_count : List Exchange
numbers_count =
    brings 2 1 (0 ∷ 0 ∷ []) gets accepted []
    ∷ without_losses 5 0
    ∷ losses 5 (10 ∷ 10 ∷ []) gets refused 3
    ∷ losses 4 (10 ∷ 10 ∷ []) gets refused 3
    ∷ losses 5 (0 ∷ 0 ∷ []) gets refused 3
    ∷ losses 1 (0 ∷ 0 ∷ []) gets refused 3
    ∷ day (day_of 5 (houses 1 (pos 10 ∷ []))) 10 gets refused 3
    ∷ day (day_of 4 (houses 1 (pos 0 ∷ []))) 10 gets refused 3
    ∷ losses 5 (1000000000001 ∷ 0 ∷ []) gets refused 3
    ∷ losses 4 (0 ∷ 1000000000001 ∷ []) gets refused 3
    ∷ losses 6 (10 ∷ 30 ∷ [])
    gets accepted (40 ∷ 30 ∷ [])
    writing (10 ∷ 250000000000000 ∷ 750 ∷ 825 ∷ 1650 ∷ 30 ∷ 750000000000000 ∷ 2250 ∷ 2475 ∷ 4950 ∷ [])
    ∷ without_losses 9 30
    ∷ losses 7 (10 ∷ 30 ∷ []) gets refused 3
    ∷ losses 9 (10 ∷ 30 ∷ []) gets refused 3
    ∷ losses 8 (0 ∷ 0 ∷ []) gets refused 3
    ∷ losses 9 (0 ∷ 0 ∷ []) gets refused 3
    ∷ losses 10 (30 ∷ 10 ∷ [])
    gets accepted (40 ∷ 30 ∷ [])
    writing (30 ∷ 750000000000000 ∷ 2250 ∷ 2475 ∷ 4950 ∷ 10 ∷ 250000000000000 ∷ 750 ∷ 825 ∷ 1650 ∷ [])
    ∷ without_losses 31 30
    ∷ losses 31 (10 ∷ 10 ∷ []) gets refused 3
    ∷ losses 30 (10 ∷ 10 ∷ []) gets refused 3
    ∷ closing 6 gets accepted (2 ∷ 30 ∷ 100000000 ∷ []) writing (17 ∷ 50000000 ∷ 100000000 ∷ 17 ∷ 50000000 ∷ 100000000 ∷ [])
    ∷ []

-- Where all days are like this, one or several, of two members and of one, the closing answers as that of a month that has not begun, and
-- closes. An opening begins anew: its days may be 1 again, and report nothing of a month before.
abbrev only_without_losses : List Exchange
only_without_losses =
    brings 2 1 (0 ∷ 0 ∷ []) gets accepted []
    ∷ without_losses 1 0
    ∷ none_of_two
    ∷ losses 2 (0 ∷ 0 ∷ []) gets refused 2
    ∷ closing 6 gets refused 2
    ∷ brings 2 1 (0 ∷ 0 ∷ []) gets accepted []
    ∷ without_losses 1 0
    ∷ without_losses 2 0
    ∷ without_losses 31 0
    ∷ closing 5 gets refused 4
    ∷ none_of_two
    ∷ brings 1 1 (32 ∷ []) gets accepted []
    ∷ losses 1 (0 ∷ []) gets accepted (0 ∷ 0 ∷ []) writing replicate 5 0
    ∷ none_of_one
    ∷ brings 1 1 (0 ∷ []) gets accepted []
    ∷ losses 30 (0 ∷ []) gets accepted (0 ∷ 0 ∷ []) writing replicate 5 0
    ∷ losses 31 (0 ∷ []) gets accepted (0 ∷ 0 ∷ []) writing replicate 5 0
    ∷ none_of_one
    ∷ brings 2 1 (0 ∷ 0 ∷ []) gets accepted []
    ∷ worst 1
    ∷ without_losses 2 400000000
    ∷ closing 6
    gets accepted (1 ∷ 400000000 ∷ 440000001 ∷ [])
    writing (293333334 ∷ 293333334 ∷ 586666668 ∷ 146666667 ∷ 146666667 ∷ 293333334 ∷ [])
    ∷ brings 2 1 (0 ∷ 0 ∷ []) gets accepted []
    ∷ without_losses 1 0
    ∷ none_of_two
    ∷ []

-- a day on which a single dollar is lost counts, before such days and between them: were they counted too, it would be charged one dollar
abbrev one_dollar : List Exchange
one_dollar =
    brings 2 1 (0 ∷ 0 ∷ []) gets accepted []
    ∷ losses 1 (1 ∷ 0 ∷ []) gets accepted (1 ∷ 1 ∷ []) writing (1 ∷ 1000000000000000 ∷ 100 ∷ 110 ∷ 220 ∷ replicate 5 0)
    ∷ without_losses 2 1
    ∷ closing 6 gets accepted (1 ∷ 1 ∷ 100000000 ∷ []) writing (2 ∷ 50000000 ∷ 100000000 ∷ 0 ∷ 50000000 ∷ 100000000 ∷ [])
    ∷ brings 2 1 (0 ∷ 0 ∷ []) gets accepted []
    ∷ without_losses 1 0
    ∷ losses 2 (0 ∷ 1 ∷ []) gets accepted (1 ∷ 1 ∷ []) writing (0 ∷ 0 ∷ 0 ∷ 0 ∷ 0 ∷ 1 ∷ 1000000000000000 ∷ 100 ∷ 110 ∷ 220 ∷ [])
    ∷ without_losses 3 1
    ∷ without_losses 4 1
    ∷ closing 6 gets accepted (1 ∷ 1 ∷ 100000000 ∷ []) writing (0 ∷ 50000000 ∷ 100000000 ∷ 2 ∷ 50000000 ∷ 100000000 ∷ [])
    ∷ []

-- five days; M is the first one's, or the last one's where they come the other way round
abbrev first_of_five : List Exchange
first_of_five =
    losses 1 (10 ∷ 10 ∷ [])
    gets accepted (20 ∷ 10 ∷ [])
    writing (10 ∷ 500000000000000 ∷ 500 ∷ 550 ∷ 1100 ∷ 10 ∷ 500000000000000 ∷ 500 ∷ 550 ∷ 1100 ∷ [])
    ∷ losses 2 (4 ∷ 6 ∷ []) gets accepted (10 ∷ 10 ∷ []) writing (4 ∷ 400000000000000 ∷ 400 ∷ 440 ∷ 880 ∷ 6 ∷ 600000000000000 ∷ 600 ∷ 660 ∷ 1320 ∷ [])
    ∷ losses 3 (3 ∷ 7 ∷ []) gets accepted (10 ∷ 10 ∷ []) writing (3 ∷ 300000000000000 ∷ 300 ∷ 330 ∷ 660 ∷ 7 ∷ 700000000000000 ∷ 700 ∷ 770 ∷ 1540 ∷ [])
    ∷ losses 4 (1 ∷ 9 ∷ []) gets accepted (10 ∷ 10 ∷ []) writing (1 ∷ 100000000000000 ∷ 100 ∷ 110 ∷ 220 ∷ 9 ∷ 900000000000000 ∷ 900 ∷ 990 ∷ 1980 ∷ [])
    ∷ losses 5 (7 ∷ 2 ∷ []) gets accepted (9 ∷ 10 ∷ []) writing (7 ∷ 777777777777778 ∷ 778 ∷ 856 ∷ 1711 ∷ 2 ∷ 222222222222223 ∷ 222 ∷ 244 ∷ 489 ∷ [])
    ∷ []

abbrev last_of_five : List Exchange
last_of_five =
    losses 1 (7 ∷ 2 ∷ []) gets accepted (9 ∷ 7 ∷ []) writing (7 ∷ 777777777777778 ∷ 544 ∷ 599 ∷ 1198 ∷ 2 ∷ 222222222222223 ∷ 156 ∷ 171 ∷ 342 ∷ [])
    ∷ losses 2 (1 ∷ 9 ∷ []) gets accepted (10 ∷ 9 ∷ []) writing (1 ∷ 100000000000000 ∷ 90 ∷ 99 ∷ 198 ∷ 9 ∷ 900000000000000 ∷ 810 ∷ 891 ∷ 1782 ∷ [])
    ∷ losses 3 (3 ∷ 7 ∷ []) gets accepted (10 ∷ 9 ∷ []) writing (3 ∷ 300000000000000 ∷ 270 ∷ 297 ∷ 594 ∷ 7 ∷ 700000000000000 ∷ 630 ∷ 693 ∷ 1386 ∷ [])
    ∷ losses 4 (4 ∷ 6 ∷ []) gets accepted (10 ∷ 9 ∷ []) writing (4 ∷ 400000000000000 ∷ 360 ∷ 396 ∷ 792 ∷ 6 ∷ 600000000000000 ∷ 540 ∷ 594 ∷ 1188 ∷ [])
    ∷ losses 5 (10 ∷ 10 ∷ [])
    gets accepted (20 ∷ 10 ∷ [])
    writing (10 ∷ 500000000000000 ∷ 500 ∷ 550 ∷ 1100 ∷ 10 ∷ 500000000000000 ∷ 500 ∷ 550 ∷ 1100 ∷ [])
    ∷ []

abbrev five_days : (days : List Exchange) → List Exchange
five_days days =
    brings 2 1 (0 ∷ 0 ∷ []) gets accepted []
    ∷ days
    ++ (closing 6 gets accepted (5 ∷ 10 ∷ 100000000 ∷ []) writing (5 ∷ 50000000 ∷ 100000000 ∷ 7 ∷ 50000000 ∷ 100000000 ∷ []) ∷ [])

-- ---- finer shares (document 02, Change 6)

-- Members that lose 1, 2 and 3 dollars beside two that lose twice the limit of an amount: with twelve places each of the three would have one
-- part.
abbrev few_parts : List Exchange
few_parts =
    brings 5 1 (replicate 5 0) gets accepted []
    ∷ day (day_of 1 (from_limit_to_limit 1 0 H ∷ from_limit_to_limit 2 0 H ∷ houses 3 (pos 1 ∷ pos 2 ∷ pos 3 ∷ []))) 25
    gets accepted (4000000000006 ∷ 2000000000000 ∷ [])
    writing (2000000000000 ∷ 499999999999251 ∷ 99999999999850 ∷ 109999999999835 ∷ 219999999999670
    ∷ 2000000000000 ∷ 499999999999251 ∷ 99999999999850 ∷ 109999999999835 ∷ 219999999999670
    ∷ 1 ∷ 250 ∷ 50 ∷ 55 ∷ 110
    ∷ 2 ∷ 500 ∷ 100 ∷ 110 ∷ 220
    ∷ 3 ∷ 750 ∷ 150 ∷ 165 ∷ 330
    ∷ [])
    ∷ closing 15
    gets accepted (1 ∷ 2000000000000 ∷ 2200149999998 ∷ [])
    writing (1099999999999 ∷ 1099999999999 ∷ 2199999999998
    ∷ 1099999999999 ∷ 1099999999999 ∷ 2199999999998
    ∷ 1 ∷ 50000000 ∷ 100000000
    ∷ 2 ∷ 50000000 ∷ 100000000
    ∷ 2 ∷ 50000000 ∷ 100000000
    ∷ [])
    ∷ []

-- ---- rounding, clients, the minimum

-- halves go up, to an even number and to an odd one, in each of the three cent figures
abbrev halves : List (List Exchange)
halves =
    (brings 4 1 (replicate 4 0) gets accepted []
    ∷ losses 1 (3 ∷ 3 ∷ 1 ∷ 1 ∷ [])
    gets accepted (8 ∷ 3 ∷ [])
    writing (3 ∷ 375000000000000 ∷ 113 ∷ 124 ∷ 248
    ∷ 3 ∷ 375000000000000 ∷ 113 ∷ 124 ∷ 248
    ∷ 1 ∷ 125000000000000 ∷ 38 ∷ 41 ∷ 83
    ∷ 1 ∷ 125000000000000 ∷ 38 ∷ 41 ∷ 83
    ∷ [])
    ∷ [])
    ∷ (brings 2 1 (0 ∷ 0 ∷ []) gets accepted []
    ∷ losses 1 (3 ∷ 1 ∷ [])
    gets accepted (4 ∷ 3 ∷ [])
    writing (3 ∷ 750000000000000 ∷ 225 ∷ 248 ∷ 495 ∷ 1 ∷ 250000000000000 ∷ 75 ∷ 83 ∷ 165 ∷ [])
    ∷ [])
    ∷ []

-- one member, by its house EUL and its clients: T and Max EUL are its EUL
abbrev of_one : (number : ℕ) → (house : ℤ) → List (ℕ × ℤ) → Call
of_one number house cs = day (day_of number (losing 1 0 H house ∷ clients 1 cs)) 5

-- negative EULs beside positive ones of the same kind, R in rising order, one R; five days, each with the highest Max EUL so far
abbrev client_days : List Exchange
client_days =
    brings 1 1 (0 ∷ []) gets accepted []
    ∷ of_one 1 (minus 1) ((R, pos 4) ∷ []) gets accepted (3 ∷ 3 ∷ []) writing (3 ∷ 1000000000000000 ∷ 300 ∷ 330 ∷ 660 ∷ [])
    ∷ of_one 2 (pos 0) ((R, pos 5) ∷ (R, minus 3) ∷ []) gets accepted (5 ∷ 5 ∷ []) writing (5 ∷ 1000000000000000 ∷ 500 ∷ 550 ∷ 1100 ∷ [])
    ∷ of_one 3 (pos 0) ((A, pos 10) ∷ (A, minus 4) ∷ []) gets accepted (15 ∷ 15 ∷ []) writing (15 ∷ 1000000000000000 ∷ 1500 ∷ 1650 ∷ 3300 ∷ [])
    ∷ of_one 4 (minus 7) ((R, pos 10) ∷ (R, pos 20) ∷ (R, pos 30) ∷ [])
    gets accepted (43 ∷ 43 ∷ [])
    writing (43 ∷ 1000000000000000 ∷ 4300 ∷ 4730 ∷ 9460 ∷ [])
    ∷ of_one 5 (pos 0) ((A, pos 10) ∷ (A, minus 4) ∷ (U, pos 20) ∷ (U, minus 6) ∷ [])
    gets accepted (45 ∷ 45 ∷ [])
    writing (45 ∷ 1000000000000000 ∷ 4500 ∷ 4950 ∷ 9900 ∷ [])
    ∷ closing 3 gets accepted (5 ∷ 45 ∷ 50000000 ∷ []) writing (50 ∷ 50000000 ∷ 100000000 ∷ [])
    ∷ []

-- a raw charge a dollar above the minimum, and one a dollar below it
abbrev at_minimum : List (List Exchange)
at_minimum =
    (brings 1 1 (0 ∷ []) gets accepted []
    ∷ losses 1 (45454546 ∷ [])
    gets accepted (45454546 ∷ 45454546 ∷ [])
    writing (45454546 ∷ 1000000000000000 ∷ 4545454600 ∷ 5000000060 ∷ 10000000120 ∷ [])
    ∷ closing 3 gets accepted (1 ∷ 45454546 ∷ 50000001 ∷ []) writing (50000001 ∷ 50000001 ∷ 100000002 ∷ [])
    ∷ [])
    ∷ (brings 1 1 (0 ∷ []) gets accepted []
    ∷ losses 1 (45454544 ∷ [])
    gets accepted (45454544 ∷ 45454544 ∷ [])
    writing (45454544 ∷ 1000000000000000 ∷ 4545454400 ∷ 4999999840 ∷ 9999999680 ∷ [])
    ∷ closing 3 gets accepted (1 ∷ 45454544 ∷ 50000000 ∷ []) writing (49999999 ∷ 50000000 ∷ 100000000 ∷ [])
    ∷ [])
    ∷ []

-- ---- the refusal table: a period of three members, the first two Affiliates, and two scenarios

-- clients of each kind; member 3 is covered by its margin, so that its own EUL is negative
abbrev mixed : List Line
mixed =
    acct 1 0 H (pos 100) 10 4 (pos 100 ∷ pos 0 ∷ [])
    ∷ acct 1 3 R (minus 20) 0 0 (minus 25 ∷ minus 50 ∷ [])
    ∷ acct 1 7 A (pos 0) 3 1 (minus 8 ∷ pos 10 ∷ [])
    ∷ acct 2 0 H (pos 50) 20 0 (minus 40 ∷ pos 20 ∷ [])
    ∷ acct 2 1 U (pos 5) 0 0 (pos 12 ∷ pos 4 ∷ [])
    ∷ acct 3 0 H (pos 0) 500 100 (minus 200 ∷ minus 100 ∷ [])
    ∷ []

-- member 1's two accounts lose under different scenarios: T is 10, and its own Max EUL is 0
abbrev hedged : List Line
hedged =
    acct 1 0 H (pos 0) 10 0 (minus 10 ∷ pos 0 ∷ [])
    ∷ acct 1 1 R (pos 0) 0 0 (pos 0 ∷ minus 10 ∷ [])
    ∷ acct 2 0 H (pos 0) 0 0 (pos 0 ∷ pos 0 ∷ [])
    ∷ acct 3 0 H (pos 0) 0 0 (pos 0 ∷ pos 0 ∷ [])
    ∷ []

-- amounts and an account number at their limits
abbrev extreme : List Line
extreme =
    acct 1 0 H (pos 1000000000000) 1000000000000 1000000000000 (minus 1000000000000 ∷ pos 1000000000000 ∷ [])
    ∷ acct 2 0 H (minus 1000000000000) 1000000000000 0 (minus 1000000000000 ∷ pos 0 ∷ [])
    ∷ acct 2 65535 U (pos 7) 1 0 (pos 3 ∷ pos 0 ∷ [])
    ∷ acct 3 0 H (pos 9) 0 0 (pos 0 ∷ pos 4 ∷ [])
    ∷ []

-- an account that loses 1, by its heading
abbrev by : (member number kind : ℕ) → Line
by member number kind = acct member number kind (pos 1) 0 0 (pos 0 ∷ pos 0 ∷ [])

-- a house account by its amounts: base, margin, extra and the second stress
abbrev with_amounts : (member : ℕ) → (base : ℤ) → (margin extra : ℕ) → (stress : ℤ) → Line
with_amounts member base margin extra stress = acct member 0 H base margin extra (pos 0 ∷ stress ∷ [])

-- a member's house account that loses 1
abbrev house : (member : ℕ) → Line
house member = by member 0 H

-- a day of the second period
abbrev on : (number : ℕ) → List Line → Call
on number lines = day (day_of number lines) 15

-- a day of these accounts, its slices changed; and one of three good accounts
abbrev lending_of : (number : ℕ) → List Line → (List ℤ → List ℤ) → (margins extras : List ℕ → List ℕ) → Call
lending_of number lines f g h =
    let d = day_of number lines in
    day (record { terms = d.terms; headings = d.headings; npvs = f d.npvs; margins = g d.margins; extras = h d.extras }) 15

abbrev lending : (number : ℕ) → (List ℤ → List ℤ) → (margins extras : List ℕ → List ℕ) → Call
lending number f g h = lending_of number (house 1 ∷ house 2 ∷ house 3 ∷ []) f g h

-- a good day with an output of this length
abbrev lent_room : (number room : ℕ) → Call
lent_room number room = day (day_of number (house 1 ∷ house 2 ∷ house 3 ∷ [])) room

-- the same with other headings
abbrev heading : (lines : List Line) → Call
heading lines =
    let d = day_of 6 (house 1 ∷ house 2 ∷ house 3 ∷ []) in
    day (record { terms = d.terms; headings = map (λ l. l.heading) lines; npvs = d.npvs; margins = d.margins; extras = d.extras }) 15

abbrev as_it_is : {X : Type 0} → List X → List X
as_it_is l = l

-- days without losses: every account is covered; or two clients are not, but their members by their house accounts, one of them just so
abbrev nothing_lost : List Line
nothing_lost = with_amounts 1 (pos 1) 1 0 (pos 0) ∷ with_amounts 2 (pos 2) 5 3 (pos 0) ∷ with_amounts 3 (pos 0) 0 0 (pos 1) ∷ []

abbrev covered : List Line
covered =
    acct 1 0 H (pos 0) 40 0 (pos 0 ∷ pos 0 ∷ [])
    ∷ acct 1 1 R (pos 60) 30 0 (pos 0 ∷ pos 60 ∷ [])
    ∷ acct 2 0 H (pos 7) 9 0 (pos 0 ∷ pos 0 ∷ [])
    ∷ acct 2 1 U (pos 2) 1 0 (pos 0 ∷ pos 2 ∷ [])
    ∷ acct 3 0 H (pos 5) 6 1 (pos 5 ∷ pos 0 ∷ [])
    ∷ []

-- an account that loses nothing, by its heading; and a member's house account of this kind
abbrev flat_by : (member number kind : ℕ) → Line
flat_by member number kind = acct member number kind (pos 0) 0 0 (pos 0 ∷ pos 0 ∷ [])

abbrev flat : (member : ℕ) → Line
flat member = flat_by member 0 H

abbrev while_fresh : List Exchange
while_fresh =
    on 6 (house 1 ∷ house 2 ∷ house 3 ∷ []) gets refused 2
    ∷ closing 9 gets refused 2
    -- row 1: n, k, a group, the first or the last, the length of their list; `opened_at_limits` has the last good ones, `not_n_long` the lists of days
    ∷ brings 0 2 [] gets refused 1
    ∷ brings 33 2 (replicate 33 0) gets refused 1
    ∷ brings 3 0 (4 ∷ 4 ∷ 0 ∷ []) gets refused 1
    ∷ brings 3 17 (4 ∷ 4 ∷ 0 ∷ []) gets refused 1
    ∷ brings 3 2 (33 ∷ 4 ∷ 0 ∷ []) gets refused 1
    ∷ brings 3 2 (4 ∷ 33 ∷ 0 ∷ []) gets refused 1
    ∷ brings 3 2 (4 ∷ 4 ∷ 33 ∷ []) gets refused 1
    ∷ brings 32 1 (replicate 31 0 ++ (33 ∷ [])) gets refused 1
    ∷ brings 3 2 (4 ∷ 4 ∷ []) gets refused 1
    ∷ brings 3 2 (4 ∷ 4 ∷ 0 ∷ 0 ∷ []) gets refused 1
    ∷ brings 3 2 (4 ∷ 4 ∷ 0 ∷ []) gets accepted []
    ∷ []

abbrev while_open : List Exchange
while_open =
    -- opening: 2, and 2 before 1
    brings 3 2 (4 ∷ 4 ∷ 0 ∷ []) gets refused 2
    ∷ brings 0 2 [] gets refused 2
    ∷ brings 3 17 (4 ∷ 4 ∷ 0 ∷ []) gets refused 2
    ∷ brings 3 2 (4 ∷ 33 ∷ 0 ∷ []) gets refused 2
    ∷ brings 3 2 (4 ∷ 4 ∷ []) gets refused 2
    -- row 4 of a closing with no accepted day; `not_begun` has the good one
    ∷ closing 0 gets refused 4
    ∷ closing 8 gets refused 4
    ∷ closing 10 gets refused 4
    -- row 4: the number of accounts, each length, the output, one too few and one too many; and 4 before 3
    ∷ on 6 [] gets refused 4
    ∷ on 6 (replicate 257 (house 1)) gets refused 4
    ∷ lending 6 (drop 1) as_it_is as_it_is gets refused 4
    ∷ lending 6 (λ l. pos 0 ∷ l) as_it_is as_it_is gets refused 4
    ∷ lending 6 as_it_is (drop 1) as_it_is gets refused 4
    ∷ lending 6 as_it_is (λ l. 0 ∷ l) as_it_is gets refused 4
    ∷ lending 6 as_it_is as_it_is (drop 1) gets refused 4
    ∷ lending 6 as_it_is as_it_is (λ l. 0 ∷ l) gets refused 4
    ∷ lending 6 (drop 3) as_it_is as_it_is gets refused 4
    ∷ heading (house 1 ∷ house 2 ∷ []) gets refused 4
    ∷ heading (house 1 ∷ house 2 ∷ house 3 ∷ by 3 1 R ∷ []) gets refused 4
    ∷ lent_room 6 0 gets refused 4
    ∷ lent_room 6 9 gets refused 4
    ∷ lent_room 6 14 gets refused 4
    ∷ lent_room 6 16 gets refused 4
    ∷ lent_room 6 30 gets refused 4
    ∷ on 0 [] gets refused 4
    ∷ lending 0 (drop 1) as_it_is as_it_is gets refused 4
    ∷ lending 0 as_it_is (drop 1) as_it_is gets refused 4
    ∷ lending 0 as_it_is as_it_is (drop 1) gets refused 4
    ∷ lent_room 0 14 gets refused 4
    -- row 3: the number's limits; and 3 before 5. The number of accounts is at its limit once
    ∷ on 0 (house 1 ∷ house 2 ∷ house 3 ∷ []) gets refused 3
    ∷ on 32 (house 1 ∷ house 2 ∷ house 3 ∷ []) gets refused 3
    ∷ on 32 (house 1 ∷ house 3 ∷ house 2 ∷ []) gets refused 3
    ∷ on 0 (replicate 256 (house 1)) gets refused 3
    -- row 5: member outside 1 to n
    ∷ on 6 (by 0 0 H ∷ house 1 ∷ house 2 ∷ house 3 ∷ []) gets refused_at 5 0
    ∷ on 6 (house 1 ∷ house 2 ∷ house 3 ∷ by 4 0 H ∷ []) gets refused_at 5 3
    ∷ on 6 (by 0 1 R ∷ house 1 ∷ house 2 ∷ house 3 ∷ []) gets refused_at 5 0
    -- not strictly rising by member, then account number
    ∷ on 6 (house 1 ∷ house 2 ∷ house 1 ∷ house 3 ∷ []) gets refused_at 5 2
    ∷ on 6 (house 1 ∷ by 1 2 R ∷ by 1 1 R ∷ house 2 ∷ house 3 ∷ []) gets refused_at 5 2
    ∷ on 6 (house 1 ∷ house 2 ∷ by 2 2 U ∷ by 2 2 U ∷ house 3 ∷ []) gets refused_at 5 3
    -- number above 65,535
    ∷ on 6 (house 1 ∷ house 2 ∷ house 3 ∷ by 3 65536 A ∷ []) gets refused_at 5 3
    ∷ on 6 (house 1 ∷ by 1 2 R ∷ by 1 2 U ∷ house 2 ∷ house 3 ∷ []) gets refused_at 5 2
    -- kind unknown
    ∷ on 6 (house 1 ∷ by 1 1 4 ∷ house 2 ∷ house 3 ∷ []) gets refused_at 5 1
    ∷ on 6 (house 1 ∷ by 1 1 255 ∷ house 2 ∷ house 3 ∷ []) gets refused_at 5 1
    -- number 0 without H, H without 0
    ∷ on 6 (by 1 0 R ∷ house 2 ∷ house 3 ∷ []) gets refused_at 5 0
    ∷ on 6 (house 1 ∷ by 2 0 A ∷ house 3 ∷ []) gets refused_at 5 1
    ∷ on 6 (house 1 ∷ house 2 ∷ by 3 0 U ∷ []) gets refused_at 5 2
    ∷ on 6 (house 1 ∷ house 2 ∷ by 2 1 H ∷ house 3 ∷ []) gets refused_at 5 2
    ∷ on 6 (house 1 ∷ by 1 2 H ∷ house 2 ∷ house 3 ∷ []) gets refused_at 5 1
    -- a member's first is not 0: of the first member, of one between, of the last
    ∷ on 6 (by 1 1 R ∷ house 2 ∷ house 3 ∷ []) gets refused_at 5 0
    ∷ on 6 (house 1 ∷ by 2 1 R ∷ house 3 ∷ []) gets refused_at 5 1
    ∷ on 6 (house 1 ∷ house 2 ∷ by 3 1 R ∷ []) gets refused_at 5 2
    -- a member skipped, the first among them
    ∷ on 6 (house 1 ∷ house 3 ∷ []) gets refused_at 5 1
    ∷ on 6 (house 2 ∷ house 3 ∷ []) gets refused_at 5 0
    ∷ on 6 (house 3 ∷ []) gets refused_at 5 0
    -- the last members are missing
    ∷ on 6 (house 1 ∷ []) gets refused_at 5 1
    ∷ on 6 (house 1 ∷ by 1 1 R ∷ []) gets refused_at 5 2
    ∷ on 6 (house 1 ∷ house 2 ∷ []) gets refused_at 5 2
    -- the smallest index wins
    ∷ on 6 (house 1 ∷ by 1 65536 R ∷ by 1 1 R ∷ []) gets refused_at 5 1
    ∷ on 6 (house 1 ∷ by 1 1 4 ∷ by 2 1 R ∷ []) gets refused_at 5 1
    ∷ on 6 (house 1 ∷ by 1 1 H ∷ by 3 1 R ∷ []) gets refused_at 5 1
    ∷ on 6 (house 1 ∷ by 2 1 R ∷ by 2 2 4 ∷ []) gets refused_at 5 1
    ∷ on 6 (house 1 ∷ house 2 ∷ house 3 ∷ by 4 0 H ∷ by 4 1 4 ∷ []) gets refused_at 5 3
    ∷ on 6 (house 1 ∷ house 3 ∷ by 3 1 9 ∷ by 4 0 H ∷ []) gets refused_at 5 1
    -- 5 before 6, over all accounts
    ∷ on 6 (with_amounts 1 (pos 0) 0 1 (pos 0) ∷ by 1 1 4 ∷ house 2 ∷ house 3 ∷ []) gets refused_at 5 1
    ∷ on 6 (with_amounts 1 (pos 0) 0 1 (pos 0) ∷ by 1 1 H ∷ house 2 ∷ house 3 ∷ []) gets refused_at 5 1
    ∷ on 6 (with_amounts 1 (pos 0) 0 1 (pos 0) ∷ by 2 1 R ∷ house 3 ∷ []) gets refused_at 5 1
    ∷ on 6 (with_amounts 1 (pos 0) 0 1 (pos 0) ∷ house 2 ∷ house 3 ∷ house 4 ∷ []) gets refused_at 5 3
    ∷ on 6 (with_amounts 1 (pos 0) 0 1 (pos 0) ∷ house 3 ∷ []) gets refused_at 5 1
    ∷ on 6 (with_amounts 1 (pos 0) 0 1 (pos 0) ∷ house 2 ∷ []) gets refused_at 5 2
    -- row 6: each amount past its limit, on either side; extra above margin. `extreme` has the last good ones
    ∷ on 6 (with_amounts 1 (pos 1000000000001) 0 0 (pos 0) ∷ house 2 ∷ house 3 ∷ []) gets refused_at 6 0
    ∷ on 6 (house 1 ∷ with_amounts 2 (minus 1000000000001) 0 0 (pos 0) ∷ house 3 ∷ []) gets refused_at 6 1
    ∷ on 6 (house 1 ∷ house 2 ∷ acct 3 0 H (pos 0) 0 0 (pos 1000000000001 ∷ pos 0 ∷ []) ∷ []) gets refused_at 6 2
    ∷ on 6 (house 1 ∷ house 2 ∷ acct 3 0 H (pos 0) 0 0 (minus 1000000000001 ∷ pos 0 ∷ []) ∷ []) gets refused_at 6 2
    ∷ on 6 (house 1 ∷ house 2 ∷ with_amounts 3 (pos 0) 0 0 (pos 1000000000001) ∷ []) gets refused_at 6 2
    ∷ on 6 (house 1 ∷ house 2 ∷ with_amounts 3 (pos 0) 0 0 (minus 1000000000001) ∷ []) gets refused_at 6 2
    ∷ on 6 (house 1 ∷ with_amounts 2 (pos 0) 1000000000001 0 (pos 0) ∷ house 3 ∷ []) gets refused_at 6 1
    ∷ on 6 (house 1 ∷ with_amounts 2 (pos 0) 5 6 (pos 0) ∷ house 3 ∷ []) gets refused_at 6 1
    ∷ on 6 (house 1 ∷ with_amounts 2 (pos 0) 0 7 (pos 0) ∷ house 3 ∷ []) gets refused_at 6 1
    -- of a client of each kind
    ∷ on 6 (house 1 ∷ acct 1 1 R (pos 0) 0 0 (pos 1000000000001 ∷ pos 0 ∷ []) ∷ house 2 ∷ house 3 ∷ []) gets refused_at 6 1
    ∷ on 6 (house 1 ∷ acct 1 1 A (pos 0) 1000000000001 0 (pos 0 ∷ pos 0 ∷ []) ∷ house 2 ∷ house 3 ∷ []) gets refused_at 6 1
    ∷ on 6 (house 1 ∷ acct 1 1 U (pos 0) 3 4 (pos 0 ∷ pos 0 ∷ []) ∷ house 2 ∷ house 3 ∷ []) gets refused_at 6 1
    -- by account, not by slice
    ∷ on 6 (with_amounts 1 (pos 1000000000001) 0 0 (pos 0) ∷ with_amounts 2 (pos 0) 1000000000001 0 (pos 0) ∷ house 3 ∷ []) gets refused_at 6 0
    ∷ on 6 (with_amounts 1 (pos 0) 5 6 (pos 0) ∷ with_amounts 2 (pos 1000000000001) 0 0 (pos 0) ∷ house 3 ∷ []) gets refused_at 6 0
    -- on a day without losses
    ∷ on 6 (with_amounts 1 (pos 0) 1 0 (pos 0) ∷ with_amounts 2 (pos 0) 1000000000001 0 (pos 1) ∷ with_amounts 3 (pos 0) 1 0 (pos 0) ∷ []) gets refused_at 6 1
    -- three days
    ∷ on 5 mixed
    gets accepted (202 ∷ 136 ∷ [])
    writing (130 ∷ 643564356435644 ∷ 8752 ∷ 9628 ∷ 19255 ∷ 72 ∷ 356435643564357 ∷ 4848 ∷ 5332 ∷ 10665 ∷ 0 ∷ 0 ∷ 0 ∷ 0 ∷ 0 ∷ [])
    -- refused days between accepted ones leave nothing behind, 3 before 5 and 6 where the number is not above the last
    ∷ on 20 [] gets refused 4
    ∷ on 20 (house 1 ∷ []) gets refused_at 5 1
    ∷ on 20 (with_amounts 1 (pos 1000000000001) 0 0 (pos 0) ∷ house 2 ∷ house 3 ∷ []) gets refused_at 6 0
    ∷ on 32 (house 1 ∷ house 2 ∷ house 3 ∷ []) gets refused 3
    ∷ lending 5 (drop 1) as_it_is as_it_is gets refused 4
    ∷ lending 5 as_it_is (drop 1) as_it_is gets refused 4
    ∷ lending 5 as_it_is as_it_is (drop 1) gets refused 4
    ∷ lent_room 5 14 gets refused 4
    ∷ on 5 (house 1 ∷ []) gets refused 3
    ∷ on 5 (with_amounts 1 (pos 1000000000001) 0 0 (pos 0) ∷ house 2 ∷ house 3 ∷ []) gets refused 3
    ∷ on 5 nothing_lost gets refused 3
    ∷ on 6 hedged gets accepted (10 ∷ 136 ∷ []) writing (10 ∷ 1000000000000000 ∷ 13600 ∷ 14960 ∷ 29920 ∷ replicate 10 0)
    ∷ on 31 extreme
    gets accepted (2000000000009 ∷ 2000000000000 ∷ [])
    writing (2000000000000 ∷ 999999999995501 ∷ 199999999999100 ∷ 219999999999010 ∷ 439999999998020
    ∷ 0 ∷ 0 ∷ 0 ∷ 0 ∷ 0 ∷ 9 ∷ 4500 ∷ 900 ∷ 990 ∷ 1980 ∷ [])
    -- row 3: not above the last accepted
    ∷ on 31 mixed gets refused 3
    ∷ on 30 mixed gets refused 3
    -- a refused opening drops no day
    ∷ brings 2 1 (0 ∷ 0 ∷ []) gets refused 2
    -- row 4 of a closing
    ∷ closing 0 gets refused 4
    ∷ closing 6 gets refused 4
    ∷ closing 8 gets refused 4
    ∷ closing 10 gets refused 4
    ∷ closing 15 gets refused 4
    ∷ closing 9
    gets accepted (3 ∷ 2000000000000 ∷ 2200049999997 ∷ [])
    writing (1938613861383 ∷ 1938613861383 ∷ 3877227722766 ∷ 261386138614 ∷ 261386138614 ∷ 522772277228 ∷ 4 ∷ 50000000 ∷ 100000000 ∷ [])
    ∷ []

abbrev while_closed : List Exchange
while_closed =
    -- day and closing: 2, and 2 before 4
    on 6 (house 1 ∷ house 2 ∷ house 3 ∷ []) gets refused 2
    ∷ on 6 [] gets refused 2
    ∷ closing 9 gets refused 2
    ∷ closing 8 gets refused 2
    ∷ lending 6 as_it_is (drop 1) as_it_is gets refused 2
    ∷ lending 6 as_it_is as_it_is (drop 1) gets refused 2
    ∷ brings 0 2 [] gets refused 1
    ∷ brings 3 17 (4 ∷ 4 ∷ 0 ∷ []) gets refused 1
    ∷ brings 3 2 (4 ∷ 33 ∷ 0 ∷ []) gets refused 1
    ∷ brings 3 2 (4 ∷ 4 ∷ []) gets refused 1
    -- an opening drops all days, and holds what it brings: the same n and k with other groups, more members, fewer
    ∷ brings 3 2 (0 ∷ 7 ∷ 7 ∷ []) gets accepted []
    ∷ closing 9
    gets accepted (0 ∷ 0 ∷ 150000000 ∷ [])
    writing (0 ∷ 50000000 ∷ 100000000 ∷ 0 ∷ 50000000 ∷ 100000000 ∷ 0 ∷ 50000000 ∷ 100000000 ∷ [])
    ∷ brings 3 2 (0 ∷ 7 ∷ 7 ∷ []) gets accepted []
    ∷ on 1
    (acct 1 0 H (pos 5) 0 0 (pos 0 ∷ pos 0 ∷ []) ∷ acct 2 0 H (pos 4) 0 0 (pos 0 ∷ pos 4 ∷ []) ∷ acct 3 0 H (pos 3) 0 0 (pos 0 ∷ pos 3 ∷ []) ∷ [])
    gets accepted (12 ∷ 7 ∷ [])
    writing (5 ∷ 416666666666667 ∷ 292 ∷ 321 ∷ 642 ∷ 4 ∷ 333333333333334 ∷ 233 ∷ 257 ∷ 513 ∷ 3 ∷ 250000000000000 ∷ 175 ∷ 193 ∷ 385 ∷ [])
    ∷ closing 9
    gets accepted (1 ∷ 7 ∷ 150000000 ∷ [])
    writing (4 ∷ 50000000 ∷ 100000000 ∷ 3 ∷ 50000000 ∷ 100000000 ∷ 2 ∷ 50000000 ∷ 100000000 ∷ [])
    ∷ brings 4 1 (0 ∷ 0 ∷ 0 ∷ 0 ∷ []) gets accepted []
    ∷ losses 1 (1 ∷ 2 ∷ 3 ∷ 4 ∷ [])
    gets accepted (10 ∷ 4 ∷ [])
    writing (1 ∷ 100000000000000 ∷ 40 ∷ 44 ∷ 88
    ∷ 2 ∷ 200000000000000 ∷ 80 ∷ 88 ∷ 176
    ∷ 3 ∷ 300000000000000 ∷ 120 ∷ 132 ∷ 264
    ∷ 4 ∷ 400000000000000 ∷ 160 ∷ 176 ∷ 352
    ∷ [])
    ∷ closing 12
    gets accepted (1 ∷ 4 ∷ 200000000 ∷ [])
    writing (1 ∷ 50000000 ∷ 100000000
    ∷ 1 ∷ 50000000 ∷ 100000000
    ∷ 2 ∷ 50000000 ∷ 100000000
    ∷ 2 ∷ 50000000 ∷ 100000000
    ∷ [])
    ∷ brings 1 1 (32 ∷ []) gets accepted []
    ∷ day (day_of 1 (losing 1 0 H (pos 3) ∷ [])) 5 gets accepted (3 ∷ 3 ∷ []) writing (3 ∷ 1000000000000000 ∷ 300 ∷ 330 ∷ 660 ∷ [])
    ∷ closing 3 gets accepted (1 ∷ 3 ∷ 50000000 ∷ []) writing (4 ∷ 50000000 ∷ 100000000 ∷ [])
    ∷ []

-- a month whose one day has a T above 0 and Max EUL 0: M is 0 as without days, and D is 1
abbrev hedged_alone : List Exchange
hedged_alone =
    brings 3 2 (4 ∷ 4 ∷ 0 ∷ []) gets accepted []
    ∷ on 6 hedged gets accepted (10 ∷ 0 ∷ []) writing (10 ∷ 1000000000000000 ∷ 0 ∷ 0 ∷ 0 ∷ replicate 10 0)
    ∷ closing 9
    gets accepted (1 ∷ 0 ∷ 150000000 ∷ [])
    writing (0 ∷ 50000000 ∷ 100000000 ∷ 0 ∷ 50000000 ∷ 100000000 ∷ 0 ∷ 50000000 ∷ 100000000 ∷ [])
    ∷ []

-- days without losses beside that day, which counts, and beside one of Max EUL 136: D is 1, and then 2
abbrev hedged_beside : List Exchange
hedged_beside =
    brings 3 2 (4 ∷ 4 ∷ 0 ∷ []) gets accepted []
    ∷ on 1 nothing_lost gets accepted (0 ∷ 0 ∷ []) writing replicate 15 0
    ∷ on 6 hedged gets accepted (10 ∷ 0 ∷ []) writing (10 ∷ 1000000000000000 ∷ 0 ∷ 0 ∷ 0 ∷ replicate 10 0)
    ∷ on 7 covered gets accepted (0 ∷ 0 ∷ []) writing replicate 15 0
    ∷ closing 9
    gets accepted (1 ∷ 0 ∷ 150000000 ∷ [])
    writing (0 ∷ 50000000 ∷ 100000000 ∷ 0 ∷ 50000000 ∷ 100000000 ∷ 0 ∷ 50000000 ∷ 100000000 ∷ [])
    ∷ brings 3 2 (4 ∷ 4 ∷ 0 ∷ []) gets accepted []
    ∷ on 1 covered gets accepted (0 ∷ 0 ∷ []) writing replicate 15 0
    ∷ on 5 mixed
    gets accepted (202 ∷ 136 ∷ [])
    writing (130 ∷ 643564356435644 ∷ 8752 ∷ 9628 ∷ 19255 ∷ 72 ∷ 356435643564357 ∷ 4848 ∷ 5332 ∷ 10665 ∷ 0 ∷ 0 ∷ 0 ∷ 0 ∷ 0 ∷ [])
    ∷ on 6 nothing_lost gets accepted (0 ∷ 136 ∷ []) writing replicate 15 0
    ∷ on 7 hedged gets accepted (10 ∷ 136 ∷ []) writing (10 ∷ 1000000000000000 ∷ 13600 ∷ 14960 ∷ 29920 ∷ replicate 10 0)
    ∷ on 31 covered gets accepted (0 ∷ 136 ∷ []) writing replicate 15 0
    ∷ closing 9
    gets accepted (2 ∷ 136 ∷ 150000000 ∷ [])
    writing (123 ∷ 50000000 ∷ 100000000 ∷ 27 ∷ 50000000 ∷ 100000000 ∷ 0 ∷ 50000000 ∷ 100000000 ∷ [])
    ∷ []

-- On a day without losses every row is met as on any other, in the same order, and a refused one leaves no number behind.
abbrev refused_without_losses : List Exchange
refused_without_losses =
    on 6 nothing_lost gets refused 2
    ∷ brings 3 2 (4 ∷ 4 ∷ 0 ∷ []) gets accepted []
    -- row 4, and 4 before 3 and 5
    ∷ on 6 (replicate 257 (flat 1)) gets refused 4
    ∷ day (day_of 6 nothing_lost) 0 gets refused 4
    ∷ day (day_of 6 nothing_lost) 14 gets refused 4
    ∷ day (day_of 6 nothing_lost) 16 gets refused 4
    ∷ day (day_of 0 nothing_lost) 14 gets refused 4
    ∷ day (day_of 6 (flat 1 ∷ flat 3 ∷ [])) 14 gets refused 4
    ∷ lending_of 6 nothing_lost (drop 1) as_it_is as_it_is gets refused 4
    ∷ lending_of 6 nothing_lost as_it_is (drop 1) as_it_is gets refused 4
    ∷ lending_of 6 nothing_lost as_it_is as_it_is (drop 1) gets refused 4
    ∷ lending_of 6 nothing_lost as_it_is as_it_is (λ l. 0 ∷ l) gets refused 4
    ∷ lending_of 32 nothing_lost as_it_is as_it_is (drop 1) gets refused 4
    -- row 3, and 3 before 5 and 6
    ∷ on 0 nothing_lost gets refused 3
    ∷ on 32 nothing_lost gets refused 3
    ∷ on 32 (flat 1 ∷ flat 3 ∷ []) gets refused 3
    ∷ on 0 (with_amounts 1 (pos 0) 1000000000001 0 (pos 0) ∷ flat 2 ∷ flat 3 ∷ []) gets refused 3
    -- row 5, and 5 before 6
    ∷ on 6 (flat 1 ∷ flat 3 ∷ []) gets refused_at 5 1
    ∷ on 6 (flat 1 ∷ flat 2 ∷ []) gets refused_at 5 2
    ∷ on 6 (flat 1 ∷ flat_by 1 1 4 ∷ flat 2 ∷ flat 3 ∷ []) gets refused_at 5 1
    ∷ on 6 (flat 1 ∷ flat 2 ∷ flat_by 2 65536 R ∷ flat 3 ∷ []) gets refused_at 5 2
    ∷ on 6 (flat 1 ∷ flat 2 ∷ flat 3 ∷ flat 4 ∷ []) gets refused_at 5 3
    ∷ on 6 (with_amounts 1 (pos 0) 1000000000001 0 (pos 0) ∷ flat 3 ∷ []) gets refused_at 5 1
    -- row 6
    ∷ on 6 (flat 1 ∷ with_amounts 2 (pos 0) 1000000000001 0 (pos 0) ∷ flat 3 ∷ []) gets refused_at 6 1
    ∷ on 6 (flat 1 ∷ flat 2 ∷ with_amounts 3 (minus 1000000000001) 0 0 (pos 0) ∷ []) gets refused_at 6 2
    ∷ on 6 (flat 1 ∷ flat 2 ∷ with_amounts 3 (pos 0) 0 0 (pos 1000000000001) ∷ []) gets refused_at 6 2
    ∷ on 6 (with_amounts 1 (pos 0) 9 0 (pos 0) ∷ acct 1 1 R (pos 0) 3 4 (pos 0 ∷ pos 0 ∷ []) ∷ flat 2 ∷ flat 3 ∷ []) gets refused_at 6 1
    -- no number stays of these, and 6 is as good as any; then 3 again
    ∷ on 1 (flat 1 ∷ flat 2 ∷ flat 3 ∷ []) gets accepted (0 ∷ 0 ∷ []) writing replicate 15 0
    ∷ on 6 nothing_lost gets accepted (0 ∷ 0 ∷ []) writing replicate 15 0
    ∷ on 6 covered gets refused 3
    ∷ on 5 mixed gets refused 3
    ∷ on 6 (flat 1 ∷ flat 3 ∷ []) gets refused 3
    ∷ on 6 (flat 1 ∷ with_amounts 2 (pos 0) 1000000000001 0 (pos 0) ∷ flat 3 ∷ []) gets refused 3
    ∷ lending_of 6 nothing_lost as_it_is (drop 1) as_it_is gets refused 4
    ∷ brings 3 2 (4 ∷ 4 ∷ 0 ∷ []) gets refused 2
    ∷ closing 8 gets refused 4
    ∷ closing 9
    gets accepted (0 ∷ 0 ∷ 150000000 ∷ [])
    writing (0 ∷ 50000000 ∷ 100000000 ∷ 0 ∷ 50000000 ∷ 100000000 ∷ 0 ∷ 50000000 ∷ 100000000 ∷ [])
    ∷ on 7 covered gets refused 2
    ∷ day (day_of 7 covered) 14 gets refused 2
    ∷ []

-- ---- the limits

-- n, k and groups at their last good values: each a period of its own
abbrev opened_at_limits : List (List Exchange)
opened_at_limits =
    map (λ c. (c gets accepted []) ∷ [])
    (brings 1 1 (0 ∷ []) ∷ brings 32 1 (replicate 32 0) ∷ brings 1 16 (0 ∷ []) ∷ brings 3 2 (32 ∷ 0 ∷ 32 ∷ []) ∷ [])

-- A client of each kind, by its number: house -40; R 60, 50, 30; A 7; U 20. Any two kinds exchanged but A and U, which count alike, give
-- another EUL or a refusal.
abbrev every_kind : List Exchange
every_kind =
    brings 1 1 (0 ∷ []) gets accepted []
    ∷ day
    (day_of 1
    (losing 1 0 0 (minus 40)
    ∷ losing 1 1 1 (pos 60)
    ∷ losing 1 2 1 (pos 50)
    ∷ losing 1 3 1 (pos 30)
    ∷ losing 1 4 2 (pos 7)
    ∷ losing 1 5 3 (pos 20)
    ∷ []))
    5
    gets accepted (97 ∷ 97 ∷ [])
    writing (97 ∷ 1000000000000000 ∷ 9700 ∷ 10670 ∷ 21340 ∷ [])
    ∷ []

-- Two groups whose members are not next to each other. On day 1 Max EUL is the sum of the second group; on day 2 it is member 3's, above
-- the sum of its group, since its Affiliate is covered.
abbrev two_groups : List Exchange
two_groups =
    brings 4 1 (7 ∷ 5 ∷ 7 ∷ 5 ∷ []) gets accepted []
    ∷ day
    (day_of 1 (losing 1 0 H (pos 40) ∷ losing 2 0 H (pos 20) ∷ losing 3 0 H (pos 30) ∷ losing 4 0 H (pos 60) ∷ []))
    20
    gets accepted (150 ∷ 80 ∷ [])
    writing (40 ∷ 266666666666667 ∷ 2133 ∷ 2347 ∷ 4693
    ∷ 20 ∷ 133333333333334 ∷ 1067 ∷ 1173 ∷ 2347
    ∷ 30 ∷ 200000000000000 ∷ 1600 ∷ 1760 ∷ 3520
    ∷ 60 ∷ 400000000000000 ∷ 3200 ∷ 3520 ∷ 7040
    ∷ [])
    ∷ day
    (day_of 2 (losing 1 0 H (minus 30) ∷ losing 2 0 H (pos 20) ∷ losing 3 0 H (pos 100) ∷ losing 4 0 H (pos 60) ∷ []))
    20
    gets accepted (180 ∷ 100 ∷ [])
    writing (0 ∷ 0 ∷ 0 ∷ 0 ∷ 0
    ∷ 20 ∷ 111111111111112 ∷ 1111 ∷ 1222 ∷ 2444
    ∷ 100 ∷ 555555555555556 ∷ 5556 ∷ 6111 ∷ 12222
    ∷ 60 ∷ 333333333333334 ∷ 3333 ∷ 3667 ∷ 7333
    ∷ [])
    ∷ closing 12
    gets accepted (2 ∷ 100 ∷ 200000000 ∷ [])
    writing (15 ∷ 50000000 ∷ 100000000
    ∷ 14 ∷ 50000000 ∷ 100000000
    ∷ 42 ∷ 50000000 ∷ 100000000
    ∷ 41 ∷ 50000000 ∷ 100000000
    ∷ [])
    ∷ []

-- The last member of four loses under the last scenario of four alone, and its Affiliate is covered: Max EUL is that member's.
abbrev last_of_four : List Exchange
last_of_four =
    brings 4 4 (6 ∷ 0 ∷ 0 ∷ 6 ∷ []) gets accepted []
    ∷ day
    (day_of 1
    (acct 1 0 H (pos 0) 30 0 (replicate 4 (pos 0))
    ∷ acct 2 0 H (pos 1) 0 0 (replicate 4 (pos 0))
    ∷ acct 3 0 H (pos 0) 0 0 (replicate 4 (pos 0))
    ∷ acct 4 0 H (pos 100) 0 0 (pos 100 ∷ pos 100 ∷ pos 100 ∷ pos 0 ∷ [])
    ∷ []))
    20
    gets accepted (101 ∷ 100 ∷ [])
    writing (0 ∷ 0 ∷ 0 ∷ 0 ∷ 0
    ∷ 1 ∷ 9900990099010 ∷ 99 ∷ 109 ∷ 218
    ∷ 0 ∷ 0 ∷ 0 ∷ 0 ∷ 0
    ∷ 100 ∷ 990099009900991 ∷ 9901 ∷ 10891 ∷ 21782
    ∷ [])
    ∷ []

-- ---- members who join or leave in the month (document 02, Change 7)

-- an account that loses a dollar, and a member's house account that does
abbrev dollar : (member number kind : ℕ) → Line
dollar member number kind = losing member number kind (pos 1)

abbrev dollar_of : (member : ℕ) → Line
dollar_of member = dollar member 0 H

-- a day of n members by its accounts; by the members that have one, which loses a dollar; and by what each of them loses
abbrev with_lines : (n number : ℕ) → List Line → Call
with_lines n number lines = day (day_of number lines) (5 * n)

abbrev there : (n number : ℕ) → (those : List ℕ) → Call
there n number those = with_lines n number (map dollar_of those)

abbrev lost : (n number : ℕ) → (those : List (ℕ × ℕ)) → Call
lost n number those = with_lines n number (map (λ l. losing l.0 0 H (pos l.1)) those)

-- three members: the first is present all the month, the second joins on the tenth, the third leaves on it
abbrev joins : Call
joins = brings_days 3 (1 ∷ 10 ∷ 1 ∷ []) (31 ∷ 31 ∷ 10 ∷ [])

-- Row 1: first days, last days or both not n long: none, one too few, one too many, and as many together as there should be.
abbrev not_n_long : List Call
not_n_long =
    brings_days 3 [] (31 ∷ 31 ∷ 10 ∷ [])
    ∷ brings_days 3 (1 ∷ 10 ∷ []) (31 ∷ 31 ∷ 10 ∷ [])
    ∷ brings_days 3 (1 ∷ 10 ∷ 1 ∷ 1 ∷ []) (31 ∷ 31 ∷ 10 ∷ [])
    ∷ brings_days 3 (1 ∷ 10 ∷ 1 ∷ []) []
    ∷ brings_days 3 (1 ∷ 10 ∷ 1 ∷ []) (31 ∷ 31 ∷ [])
    ∷ brings_days 3 (1 ∷ 10 ∷ 1 ∷ []) (31 ∷ 31 ∷ 10 ∷ 10 ∷ [])
    ∷ brings_days 3 [] []
    ∷ brings_days 3 (1 ∷ 10 ∷ []) (31 ∷ 31 ∷ [])
    ∷ brings_days 3 (replicate 4 1) (replicate 4 31)
    ∷ brings_days 3 (1 ∷ 10 ∷ []) (replicate 4 31)
    ∷ brings_days 3 (replicate 4 1) (31 ∷ 31 ∷ [])
    ∷ brings_days 1 [] (31 ∷ [])
    ∷ brings_days 1 (1 ∷ []) []
    ∷ brings_days 1 (1 ∷ 1 ∷ []) (31 ∷ [])
    ∷ brings_days 1 (1 ∷ []) (31 ∷ 31 ∷ [])
    ∷ brings_days 32 (replicate 31 1) (replicate 32 31)
    ∷ brings_days 32 (replicate 33 1) (replicate 32 31)
    ∷ brings_days 32 (replicate 32 1) (replicate 31 31)
    ∷ brings_days 32 (replicate 32 1) (replicate 33 31)
    ∷ []

-- 1 before 10: a bad day in the list that is not n long, be it the surplus one, or in the other list; and n, k, a group or the number of groups
-- beside a bad day
abbrev row_1_before_10 : List Call
row_1_before_10 =
    brings_days 3 (0 ∷ 10 ∷ []) (31 ∷ 31 ∷ 10 ∷ [])
    ∷ brings_days 3 (1 ∷ 10 ∷ 1 ∷ 0 ∷ []) (31 ∷ 31 ∷ 10 ∷ [])
    ∷ brings_days 3 (1 ∷ 10 ∷ []) (32 ∷ 31 ∷ 10 ∷ [])
    ∷ brings_days 3 [] (32 ∷ 32 ∷ 32 ∷ [])
    ∷ brings_days 3 (1 ∷ 10 ∷ 1 ∷ []) (31 ∷ 9 ∷ [])
    ∷ brings_days 3 (1 ∷ 10 ∷ 1 ∷ []) (31 ∷ 31 ∷ 10 ∷ 32 ∷ [])
    ∷ brings_days 3 (32 ∷ 10 ∷ 1 ∷ []) (31 ∷ 31 ∷ [])
    ∷ brings_days 3 (1 ∷ 10 ∷ 11 ∷ []) (31 ∷ 31 ∷ 10 ∷ 31 ∷ [])
    ∷ brings_days 0 (0 ∷ []) (31 ∷ [])
    ∷ brings_days 33 (replicate 33 0) (replicate 33 31)
    ∷ brings_lists 3 0 (0 ∷ 0 ∷ 0 ∷ []) (0 ∷ 10 ∷ 1 ∷ []) (31 ∷ 31 ∷ 10 ∷ [])
    ∷ brings_lists 3 17 (0 ∷ 0 ∷ 0 ∷ []) (1 ∷ 10 ∷ 1 ∷ []) (32 ∷ 31 ∷ 10 ∷ [])
    ∷ brings_lists 3 1 (0 ∷ 0 ∷ 33 ∷ []) (1 ∷ 10 ∷ 11 ∷ []) (31 ∷ 31 ∷ 10 ∷ [])
    ∷ brings_lists 3 1 (33 ∷ 0 ∷ 0 ∷ []) (1 ∷ 10 ∷ 0 ∷ []) (31 ∷ 31 ∷ 10 ∷ [])
    ∷ brings_lists 3 1 (0 ∷ 0 ∷ []) (1 ∷ 0 ∷ 1 ∷ []) (31 ∷ 31 ∷ 10 ∷ [])
    ∷ brings_lists 3 1 (0 ∷ 0 ∷ 0 ∷ 0 ∷ []) (1 ∷ 10 ∷ 1 ∷ []) (31 ∷ 31 ∷ 32 ∷ [])
    ∷ []

-- n members present from the fifth to the ninth, but for member m
abbrev but_for : (n m first last : ℕ) → Call
but_for n m first last =
    brings_days n (replicate (m - 1) 5 ++ (first ∷ replicate (n - m) 5)) (replicate (m - 1) 9 ++ (last ∷ replicate (n - m) 9))

-- Bad days: a first above the last by one, and by more; either 0 or 32; both; such as are good once 2^32 is taken away; and the greatest of 64
-- bits.
abbrev bad_days : List (ℕ × ℕ)
bad_days =
    (10, 9)
    ∷ (2, 1)
    ∷ (31, 30)
    ∷ (31, 1)
    ∷ (0, 9)
    ∷ (0, 31)
    ∷ (1, 0)
    ∷ (1, 32)
    ∷ (31, 32)
    ∷ (32, 31)
    ∷ (0, 0)
    ∷ (32, 32)
    ∷ (0, 32)
    ∷ (32, 0)
    ∷ (4294967298, 4294967298)
    ∷ (4294967298, 31)
    ∷ (1, 4294967298)
    ∷ (18446744073709551615, 18446744073709551615)
    ∷ (18446744073709551615, 31)
    ∷ (1, 18446744073709551615)
    ∷ []

-- the last good ones, for each of three members; each is a period of its own
abbrev last_good_days : List (ℕ × ℕ)
last_good_days = (1, 1) ∷ (31, 31) ∷ (1, 31) ∷ (10, 10) ∷ (9, 10) ∷ (1, 2) ∷ (30, 31) ∷ []

abbrev opened_for_days : List (List Exchange)
opened_for_days = flat_map (λ m. map (λ d. (but_for 3 m d.0 d.1 gets accepted []) ∷ []) last_good_days) (1 ∷ 2 ∷ 3 ∷ [])

-- Row 10, by each of three members; by several of them, whatever their faults, the first; by one of one, of two with groups and of 32.
abbrev row_10 : List Exchange
row_10 =
    flat_map (λ m. map (λ d. but_for 3 m d.0 d.1 gets refused_at 10 m) bad_days) (1 ∷ 2 ∷ 3 ∷ [])
    ++ (brings_days 3 (0 ∷ 0 ∷ 0 ∷ []) (31 ∷ 31 ∷ 31 ∷ []) gets refused_at 10 1
    ∷ brings_days 3 (1 ∷ 0 ∷ 0 ∷ []) (31 ∷ 31 ∷ 31 ∷ []) gets refused_at 10 2
    ∷ brings_days 3 (1 ∷ 1 ∷ 1 ∷ []) (31 ∷ 32 ∷ 32 ∷ []) gets refused_at 10 2
    ∷ brings_days 3 (1 ∷ 0 ∷ 1 ∷ []) (32 ∷ 31 ∷ 31 ∷ []) gets refused_at 10 1
    ∷ brings_days 3 (0 ∷ 1 ∷ 1 ∷ []) (31 ∷ 31 ∷ 32 ∷ []) gets refused_at 10 1
    ∷ brings_days 3 (10 ∷ 0 ∷ 1 ∷ []) (9 ∷ 31 ∷ 31 ∷ []) gets refused_at 10 1
    ∷ brings_days 3 (0 ∷ 10 ∷ 1 ∷ []) (31 ∷ 9 ∷ 31 ∷ []) gets refused_at 10 1
    ∷ brings_days 3 (1 ∷ 10 ∷ 1 ∷ []) (31 ∷ 9 ∷ 32 ∷ []) gets refused_at 10 2
    ∷ brings_days 3 (1 ∷ 1 ∷ 10 ∷ []) (31 ∷ 32 ∷ 9 ∷ []) gets refused_at 10 2
    ∷ brings_days 3 (1 ∷ 32 ∷ 10 ∷ []) (31 ∷ 33 ∷ 9 ∷ []) gets refused_at 10 2
    ∷ brings_days 1 (0 ∷ []) (31 ∷ []) gets refused_at 10 1
    ∷ brings_days 1 (1 ∷ []) (32 ∷ []) gets refused_at 10 1
    ∷ brings_lists 2 16 (32 ∷ 32 ∷ []) (1 ∷ 31 ∷ []) (31 ∷ 30 ∷ []) gets refused_at 10 2
    ∷ but_for 32 32 10 9 gets refused_at 10 32
    ∷ but_for 32 32 0 9 gets refused_at 10 32
    ∷ but_for 32 31 5 32 gets refused_at 10 31
    ∷ but_for 32 1 10 9 gets refused_at 10 1
    ∷ brings_days 32 (replicate 16 1 ++ replicate 16 0) (replicate 32 31) gets refused_at 10 17
    ∷ [])

-- a fresh period: none of these opens it
abbrev joins_fresh : List Exchange
joins_fresh =
    map (λ c. c gets refused 1) (not_n_long ++ row_1_before_10)
    ++ (row_10
    ++ (there 3 9 (1 ∷ 3 ∷ []) gets refused 2
    ∷ there 3 6 (1 ∷ 2 ∷ 3 ∷ []) gets refused 2
    ∷ closing 9 gets refused 2
    ∷ joins gets accepted []
    ∷ []))

-- The period of `joins`, on the ninth, tenth, eleventh and last day. D is 3 for each member, and M that of a day on which the third is absent: by
-- the mean of its own days the second would be charged more than the minimum, and by the M of its own days the third less.
abbrev joins_open : List Exchange
joins_open =
    -- 2 before 1 and 10; what is held stays, whoever would be present by what these bring
    map (λ c. c gets refused 2)
    (joins
    ∷ brings_days 3 (10 ∷ 1 ∷ 1 ∷ []) (31 ∷ 31 ∷ 8 ∷ [])
    ∷ brings_days 3 (1 ∷ 10 ∷ []) (31 ∷ 31 ∷ 10 ∷ [])
    ∷ brings_days 3 (1 ∷ 1 ∷ 0 ∷ []) (31 ∷ 31 ∷ 31 ∷ [])
    ∷ brings_days 3 (1 ∷ 10 ∷ 1 ∷ []) (31 ∷ 9 ∷ 32 ∷ [])
    ∷ but_for 3 1 10 9
    ∷ but_for 32 32 0 9
    ∷ [])
    -- the ninth, without the second: its account is bad, as the first, between others and as the last, and a client's
    ++ (there 3 9 (1 ∷ 2 ∷ 3 ∷ []) gets refused_at 5 1
    ∷ there 3 9 (2 ∷ 3 ∷ []) gets refused_at 5 0
    ∷ there 3 9 (2 ∷ []) gets refused_at 5 0
    ∷ there 3 9 (1 ∷ 2 ∷ []) gets refused_at 5 1
    ∷ with_lines 3 9 (dollar_of 1 ∷ dollar 1 1 R ∷ dollar_of 2 ∷ dollar_of 3 ∷ []) gets refused_at 5 2
    ∷ with_lines 3 9 (dollar_of 1 ∷ dollar 2 1 R ∷ dollar_of 3 ∷ []) gets refused_at 5 1
    ∷ with_lines 3 9 (dollar_of 1 ∷ dollar_of 2 ∷ dollar 2 1 R ∷ dollar_of 3 ∷ []) gets refused_at 5 1
    ∷ with_lines 3 9 (dollar_of 1 ∷ dollar 1 1 R ∷ dollar 1 2 U ∷ dollar 2 1 A ∷ dollar_of 3 ∷ []) gets refused_at 5 3
    -- a present one is skipped before it, or missing behind it
    ∷ there 3 9 (3 ∷ []) gets refused_at 5 0
    ∷ there 3 9 (1 ∷ []) gets refused_at 5 1
    ∷ with_lines 3 9 (dollar_of 1 ∷ dollar 1 1 R ∷ dollar 1 2 A ∷ []) gets refused_at 5 3
    -- the smallest index wins: another fault before it and after it
    ∷ with_lines 3 9 (dollar_of 1 ∷ dollar 1 1 4 ∷ dollar_of 2 ∷ dollar_of 3 ∷ []) gets refused_at 5 1
    ∷ with_lines 3 9 (dollar 1 0 R ∷ dollar_of 2 ∷ dollar_of 3 ∷ []) gets refused_at 5 0
    ∷ with_lines 3 9 (dollar_of 1 ∷ dollar_of 2 ∷ dollar_of 3 ∷ dollar 3 65536 R ∷ []) gets refused_at 5 1
    ∷ there 3 9 (1 ∷ 3 ∷ 2 ∷ []) gets refused_at 5 2
    ∷ there 3 9 (1 ∷ 2 ∷ 3 ∷ 4 ∷ []) gets refused_at 5 1
    ∷ there 3 9 (1 ∷ 3 ∷ 4 ∷ []) gets refused_at 5 2
    -- 4 before 5, and an output for three members; 3 before 5; 5 before 6
    ∷ day (day_of 9 (map dollar_of (1 ∷ 3 ∷ []))) 10 gets refused 4
    ∷ day (day_of 9 (map dollar_of (1 ∷ 2 ∷ 3 ∷ []))) 10 gets refused 4
    ∷ day (day_of 9 (map dollar_of (1 ∷ 2 ∷ 3 ∷ []))) 14 gets refused 4
    ∷ there 3 9 [] gets refused 4
    ∷ there 3 0 (1 ∷ 2 ∷ 3 ∷ []) gets refused 3
    ∷ there 3 32 (1 ∷ 2 ∷ 3 ∷ []) gets refused 3
    ∷ with_lines 3 9 (losing 1 0 H (pos 1000000000001) ∷ dollar_of 2 ∷ dollar_of 3 ∷ []) gets refused_at 5 1
    ∷ with_lines 3 9 (losing 1 0 H (pos 1000000000001) ∷ []) gets refused_at 5 1
    ∷ with_lines 3 9 (dollar_of 1 ∷ losing 3 0 H (pos 1000000000001) ∷ []) gets refused_at 6 1
    ∷ lost 3 9 ((1, 40000000) ∷ (3, 60000000) ∷ [])
    gets accepted (100000000 ∷ 60000000 ∷ [])
    writing (40000000 ∷ 400000000000000 ∷ 2400000000 ∷ 2640000000 ∷ 5280000000
    ∷ 0 ∷ 0 ∷ 0 ∷ 0 ∷ 0
    ∷ 60000000 ∷ 600000000000000 ∷ 3600000000 ∷ 3960000000 ∷ 7920000000
    ∷ [])
    -- the tenth, with all three; the number before it has passed
    ∷ there 3 9 (1 ∷ 2 ∷ 3 ∷ []) gets refused 3
    ∷ there 3 8 (2 ∷ []) gets refused 3
    ∷ there 3 10 (1 ∷ 3 ∷ []) gets refused_at 5 1
    ∷ there 3 10 (2 ∷ 3 ∷ []) gets refused_at 5 0
    ∷ there 3 10 (1 ∷ 2 ∷ []) gets refused_at 5 2
    ∷ there 3 10 (1 ∷ []) gets refused_at 5 1
    ∷ lost 3 10 ((1, 10000000) ∷ (2, 20000000) ∷ (3, 40000000) ∷ [])
    gets accepted (70000000 ∷ 60000000 ∷ [])
    writing (10000000 ∷ 142857142857143 ∷ 857142857 ∷ 942857143 ∷ 1885714286
    ∷ 20000000 ∷ 285714285714286 ∷ 1714285714 ∷ 1885714286 ∷ 3771428571
    ∷ 40000000 ∷ 571428571428572 ∷ 3428571429 ∷ 3771428571 ∷ 7542857143
    ∷ [])
    -- the eleventh, without the third
    ∷ there 3 11 (1 ∷ 2 ∷ 3 ∷ []) gets refused_at 5 2
    ∷ with_lines 3 11 (dollar_of 1 ∷ dollar_of 2 ∷ dollar 2 1 R ∷ dollar_of 3 ∷ []) gets refused_at 5 3
    ∷ with_lines 3 11 (dollar_of 1 ∷ dollar_of 2 ∷ dollar 3 1 R ∷ []) gets refused_at 5 2
    ∷ there 3 11 (1 ∷ 3 ∷ []) gets refused_at 5 1
    ∷ there 3 11 (1 ∷ []) gets refused_at 5 1
    ∷ with_lines 3 11 (dollar_of 1 ∷ dollar 1 1 R ∷ dollar 1 2 R ∷ []) gets refused_at 5 3
    ∷ there 3 11 (2 ∷ []) gets refused_at 5 0
    ∷ there 3 11 (2 ∷ 3 ∷ []) gets refused_at 5 0
    ∷ there 3 11 (3 ∷ []) gets refused_at 5 0
    ∷ lost 3 11 ((1, 120000000) ∷ (2, 110000000) ∷ [])
    gets accepted (230000000 ∷ 120000000 ∷ [])
    writing (120000000 ∷ 521739130434783 ∷ 6260869565 ∷ 6886956522 ∷ 13773913043
    ∷ 110000000 ∷ 478260869565218 ∷ 5739130435 ∷ 6313043478 ∷ 12626086957
    ∷ 0 ∷ 0 ∷ 0 ∷ 0 ∷ 0
    ∷ [])
    -- the last, without losses
    ∷ there 3 31 (1 ∷ 2 ∷ 3 ∷ []) gets refused_at 5 2
    ∷ there 3 31 (1 ∷ []) gets refused_at 5 1
    ∷ lost 3 31 ((1, 0) ∷ (2, 0) ∷ []) gets accepted (0 ∷ 120000000 ∷ []) writing replicate 15 0
    ∷ closing 6 gets refused 4
    ∷ closing 9
    gets accepted (3 ∷ 120000000 ∷ 151542858 ∷ [])
    writing (46842237 ∷ 50000000 ∷ 100000000 ∷ 33614907 ∷ 50000000 ∷ 100000000 ∷ 51542858 ∷ 51542858 ∷ 103085716 ∷ [])
    ∷ [])

-- Closed: what 1 or 10 refuses leaves it so. Then openings with other days, and with fewer members: of the days before nothing is left.
abbrev joins_closed : List Exchange
joins_closed =
    there 3 31 (1 ∷ 2 ∷ []) gets refused 2
    ∷ map (λ c. c gets refused 1) (row_1_before_10)
    ++ (but_for 3 1 0 9 gets refused_at 10 1
    ∷ but_for 3 2 1 32 gets refused_at 10 2
    ∷ but_for 3 3 10 9 gets refused_at 10 3
    ∷ but_for 32 32 10 9 gets refused_at 10 32
    ∷ brings_days 3 (1 ∷ 0 ∷ 0 ∷ []) (31 ∷ 31 ∷ 31 ∷ []) gets refused_at 10 2
    ∷ there 3 6 (1 ∷ 2 ∷ 3 ∷ []) gets refused 2
    ∷ closing 9 gets refused 2
    ∷ brings_days 3 (10 ∷ 1 ∷ 11 ∷ []) (10 ∷ 9 ∷ 31 ∷ []) gets accepted []
    ∷ there 3 9 (1 ∷ 3 ∷ []) gets refused_at 5 0
    ∷ lost 3 9 ((2, 30) ∷ [])
    gets accepted (30 ∷ 30 ∷ [])
    writing (0 ∷ 0 ∷ 0 ∷ 0 ∷ 0 ∷ 30 ∷ 1000000000000000 ∷ 3000 ∷ 3300 ∷ 6600 ∷ 0 ∷ 0 ∷ 0 ∷ 0 ∷ 0 ∷ [])
    ∷ there 3 10 (1 ∷ 2 ∷ 3 ∷ []) gets refused_at 5 1
    ∷ lost 3 10 ((1, 50) ∷ [])
    gets accepted (50 ∷ 50 ∷ [])
    writing (50 ∷ 1000000000000000 ∷ 5000 ∷ 5500 ∷ 11000 ∷ 0 ∷ 0 ∷ 0 ∷ 0 ∷ 0 ∷ 0 ∷ 0 ∷ 0 ∷ 0 ∷ 0 ∷ [])
    ∷ there 3 11 (1 ∷ 2 ∷ []) gets refused_at 5 0
    ∷ lost 3 11 ((3, 20) ∷ [])
    gets accepted (20 ∷ 50 ∷ [])
    writing (0 ∷ 0 ∷ 0 ∷ 0 ∷ 0 ∷ 0 ∷ 0 ∷ 0 ∷ 0 ∷ 0 ∷ 20 ∷ 1000000000000000 ∷ 5000 ∷ 5500 ∷ 11000 ∷ [])
    ∷ closing 9
    gets accepted (3 ∷ 50 ∷ 150000000 ∷ [])
    writing (19 ∷ 50000000 ∷ 100000000 ∷ 19 ∷ 50000000 ∷ 100000000 ∷ 19 ∷ 50000000 ∷ 100000000 ∷ [])
    ∷ brings_days 2 (11 ∷ 1 ∷ []) (31 ∷ 31 ∷ []) gets accepted []
    ∷ there 2 10 (1 ∷ 2 ∷ []) gets refused_at 5 0
    ∷ lost 2 10 ((2, 4) ∷ []) gets accepted (4 ∷ 4 ∷ []) writing (0 ∷ 0 ∷ 0 ∷ 0 ∷ 0 ∷ 4 ∷ 1000000000000000 ∷ 400 ∷ 440 ∷ 880 ∷ [])
    ∷ closing 6 gets accepted (1 ∷ 4 ∷ 100000000 ∷ []) writing (0 ∷ 50000000 ∷ 100000000 ∷ 5 ∷ 50000000 ∷ 100000000 ∷ [])
    ∷ [])

-- a day on which the one member loses a dollar
abbrev a_dollar_on : (number : ℕ) → Exchange
a_dollar_on number = there 1 number (1 ∷ []) gets accepted (1 ∷ 1 ∷ []) writing (1 ∷ 1000000000000000 ∷ 100 ∷ 110 ∷ 220 ∷ [])

-- one member, on the days before and after those on which it is present, and on the first and the last of them
abbrev alone : (first last : ℕ) → List Exchange
alone first last =
    brings_days 1 (first ∷ []) (last ∷ []) gets accepted []
    ∷ there 1 (first - 1) (1 ∷ []) gets refused_at 5 0
    ∷ a_dollar_on first
    ∷ a_dollar_on last
    ∷ there 1 (last + 1) (1 ∷ []) gets refused_at 5 0
    ∷ closing 3 gets accepted (2 ∷ 1 ∷ 50000000 ∷ []) writing (2 ∷ 50000000 ∷ 100000000 ∷ [])
    ∷ []

-- one that is present on the first day alone, and one on the last alone
abbrev first_day_alone : List Exchange
first_day_alone =
    brings_days 1 (1 ∷ []) (1 ∷ []) gets accepted []
    ∷ a_dollar_on 1
    ∷ there 1 2 (1 ∷ []) gets refused_at 5 0
    ∷ []

abbrev last_day_alone : List Exchange
last_day_alone =
    brings_days 1 (31 ∷ []) (31 ∷ []) gets accepted []
    ∷ there 1 30 (1 ∷ []) gets refused_at 5 0
    ∷ a_dollar_on 31
    ∷ []

-- and on two days, the first of a month or the last
abbrev first_days_alone : List Exchange
first_days_alone =
    brings_days 1 (1 ∷ []) (2 ∷ []) gets accepted []
    ∷ a_dollar_on 1
    ∷ a_dollar_on 2
    ∷ there 1 3 (1 ∷ []) gets refused_at 5 0
    ∷ []

abbrev last_days_alone : List Exchange
last_days_alone =
    brings_days 1 (30 ∷ []) (31 ∷ []) gets accepted []
    ∷ there 1 29 (1 ∷ []) gets refused_at 5 0
    ∷ a_dollar_on 30
    ∷ a_dollar_on 31
    ∷ []

-- on any day between them alone: neither on the day before nor on the one after
abbrev one_day_alone : (number : ℕ) → List Exchange
one_day_alone number =
    brings_days 1 (number ∷ []) (number ∷ []) gets accepted []
    ∷ there 1 (number - 1) (1 ∷ []) gets refused_at 5 0
    ∷ there 1 (number + 1) (1 ∷ []) gets refused_at 5 0
    ∷ a_dollar_on number
    ∷ []

-- Six members, of whom two in a row are absent on the seventh: between others, the first two, the last two. A present one is missing beside
-- them, with an account of one of them and without.
abbrev two_between : List Exchange
two_between =
    brings_days 6 (1 ∷ 1 ∷ 8 ∷ 8 ∷ 1 ∷ 1 ∷ []) (replicate 6 31) gets accepted []
    ∷ there 6 7 (2 ∷ 5 ∷ 6 ∷ []) gets refused_at 5 0
    ∷ there 6 7 (1 ∷ 5 ∷ 6 ∷ []) gets refused_at 5 1
    ∷ there 6 7 (1 ∷ 2 ∷ 6 ∷ []) gets refused_at 5 2
    ∷ there 6 7 (1 ∷ 2 ∷ 5 ∷ []) gets refused_at 5 3
    ∷ there 6 7 (1 ∷ 6 ∷ []) gets refused_at 5 1
    ∷ there 6 7 (5 ∷ 6 ∷ []) gets refused_at 5 0
    ∷ there 6 7 (1 ∷ 2 ∷ []) gets refused_at 5 2
    ∷ there 6 7 (1 ∷ 2 ∷ 3 ∷ 5 ∷ 6 ∷ []) gets refused_at 5 2
    ∷ there 6 7 (1 ∷ 2 ∷ 4 ∷ 5 ∷ 6 ∷ []) gets refused_at 5 2
    ∷ there 6 7 (1 ∷ 2 ∷ 3 ∷ 4 ∷ 5 ∷ 6 ∷ []) gets refused_at 5 2
    ∷ there 6 7 (1 ∷ 3 ∷ 5 ∷ 6 ∷ []) gets refused_at 5 1
    ∷ there 6 7 (1 ∷ 2 ∷ 4 ∷ 6 ∷ []) gets refused_at 5 2
    ∷ there 6 7 (1 ∷ 2 ∷ 3 ∷ []) gets refused_at 5 2
    ∷ lost 6 7 ((1, 1) ∷ (2, 2) ∷ (5, 3) ∷ (6, 4) ∷ [])
    gets accepted (10 ∷ 4 ∷ [])
    writing (1 ∷ 100000000000000 ∷ 40 ∷ 44 ∷ 88
    ∷ 2 ∷ 200000000000000 ∷ 80 ∷ 88 ∷ 176
    ∷ 0 ∷ 0 ∷ 0 ∷ 0 ∷ 0
    ∷ 0 ∷ 0 ∷ 0 ∷ 0 ∷ 0
    ∷ 3 ∷ 300000000000000 ∷ 120 ∷ 132 ∷ 264
    ∷ 4 ∷ 400000000000000 ∷ 160 ∷ 176 ∷ 352
    ∷ [])
    ∷ []

abbrev two_at_first : List Exchange
two_at_first =
    brings_days 6 (8 ∷ 8 ∷ 1 ∷ 1 ∷ 1 ∷ 1 ∷ []) (replicate 6 31) gets accepted []
    ∷ there 6 7 (4 ∷ 5 ∷ 6 ∷ []) gets refused_at 5 0
    ∷ there 6 7 (5 ∷ 6 ∷ []) gets refused_at 5 0
    ∷ there 6 7 (3 ∷ 5 ∷ 6 ∷ []) gets refused_at 5 1
    ∷ there 6 7 (3 ∷ 4 ∷ 5 ∷ []) gets refused_at 5 3
    ∷ there 6 7 (1 ∷ 3 ∷ 4 ∷ 5 ∷ 6 ∷ []) gets refused_at 5 0
    ∷ there 6 7 (2 ∷ 3 ∷ 4 ∷ 5 ∷ 6 ∷ []) gets refused_at 5 0
    ∷ there 6 7 (2 ∷ 4 ∷ 5 ∷ 6 ∷ []) gets refused_at 5 0
    ∷ with_lines 6 7 (dollar 1 1 R ∷ dollar_of 3 ∷ dollar_of 4 ∷ dollar_of 5 ∷ dollar_of 6 ∷ []) gets refused_at 5 0
    ∷ lost 6 7 ((3, 1) ∷ (4, 2) ∷ (5, 3) ∷ (6, 4) ∷ [])
    gets accepted (10 ∷ 4 ∷ [])
    writing (0 ∷ 0 ∷ 0 ∷ 0 ∷ 0
    ∷ 0 ∷ 0 ∷ 0 ∷ 0 ∷ 0
    ∷ 1 ∷ 100000000000000 ∷ 40 ∷ 44 ∷ 88
    ∷ 2 ∷ 200000000000000 ∷ 80 ∷ 88 ∷ 176
    ∷ 3 ∷ 300000000000000 ∷ 120 ∷ 132 ∷ 264
    ∷ 4 ∷ 400000000000000 ∷ 160 ∷ 176 ∷ 352
    ∷ [])
    ∷ []

abbrev two_at_last : List Exchange
two_at_last =
    brings_days 6 (replicate 6 1) (31 ∷ 31 ∷ 31 ∷ 31 ∷ 6 ∷ 6 ∷ []) gets accepted []
    ∷ there 6 7 (1 ∷ 2 ∷ 3 ∷ []) gets refused_at 5 3
    ∷ there 6 7 (1 ∷ 2 ∷ []) gets refused_at 5 2
    ∷ there 6 7 (1 ∷ 2 ∷ 4 ∷ []) gets refused_at 5 2
    ∷ with_lines 6 7 (dollar_of 1 ∷ dollar 1 1 R ∷ dollar_of 2 ∷ dollar 2 1 R ∷ dollar_of 3 ∷ []) gets refused_at 5 5
    ∷ there 6 7 (1 ∷ 2 ∷ 3 ∷ 4 ∷ 5 ∷ []) gets refused_at 5 4
    ∷ there 6 7 (1 ∷ 2 ∷ 3 ∷ 4 ∷ 6 ∷ []) gets refused_at 5 4
    ∷ there 6 7 (1 ∷ 2 ∷ 3 ∷ 5 ∷ []) gets refused_at 5 3
    ∷ there 6 7 (1 ∷ 2 ∷ 3 ∷ 6 ∷ []) gets refused_at 5 3
    ∷ lost 6 7 ((1, 1) ∷ (2, 2) ∷ (3, 3) ∷ (4, 4) ∷ [])
    gets accepted (10 ∷ 4 ∷ [])
    writing (1 ∷ 100000000000000 ∷ 40 ∷ 44 ∷ 88
    ∷ 2 ∷ 200000000000000 ∷ 80 ∷ 88 ∷ 176
    ∷ 3 ∷ 300000000000000 ∷ 120 ∷ 132 ∷ 264
    ∷ 4 ∷ 400000000000000 ∷ 160 ∷ 176 ∷ 352
    ∷ 0 ∷ 0 ∷ 0 ∷ 0 ∷ 0
    ∷ 0 ∷ 0 ∷ 0 ∷ 0 ∷ 0
    ∷ [])
    ∷ []

-- every other one absent, from the second on and from the first on
abbrev every_other : List Exchange
every_other =
    brings_days 6 (1 ∷ 8 ∷ 1 ∷ 8 ∷ 1 ∷ 8 ∷ []) (replicate 6 31) gets accepted []
    ∷ there 6 7 (3 ∷ 5 ∷ []) gets refused_at 5 0
    ∷ there 6 7 (1 ∷ 5 ∷ []) gets refused_at 5 1
    ∷ there 6 7 (1 ∷ 3 ∷ []) gets refused_at 5 2
    ∷ there 6 7 (1 ∷ []) gets refused_at 5 1
    ∷ there 6 7 (1 ∷ 2 ∷ 3 ∷ 5 ∷ []) gets refused_at 5 1
    ∷ there 6 7 (1 ∷ 3 ∷ 4 ∷ 5 ∷ []) gets refused_at 5 2
    ∷ there 6 7 (1 ∷ 3 ∷ 5 ∷ 6 ∷ []) gets refused_at 5 3
    ∷ there 6 7 (1 ∷ 4 ∷ 5 ∷ []) gets refused_at 5 1
    ∷ there 6 7 (1 ∷ 3 ∷ 6 ∷ []) gets refused_at 5 2
    ∷ lost 6 7 ((1, 1) ∷ (3, 2) ∷ (5, 1) ∷ [])
    gets accepted (4 ∷ 2 ∷ [])
    writing (1 ∷ 250000000000000 ∷ 50 ∷ 55 ∷ 110
    ∷ 0 ∷ 0 ∷ 0 ∷ 0 ∷ 0
    ∷ 2 ∷ 500000000000000 ∷ 100 ∷ 110 ∷ 220
    ∷ 0 ∷ 0 ∷ 0 ∷ 0 ∷ 0
    ∷ 1 ∷ 250000000000000 ∷ 50 ∷ 55 ∷ 110
    ∷ 0 ∷ 0 ∷ 0 ∷ 0 ∷ 0
    ∷ [])
    ∷ []

abbrev every_other_from_1 : List Exchange
every_other_from_1 =
    brings_days 6 (replicate 6 1) (6 ∷ 31 ∷ 6 ∷ 31 ∷ 6 ∷ 31 ∷ []) gets accepted []
    ∷ there 6 7 (4 ∷ 6 ∷ []) gets refused_at 5 0
    ∷ there 6 7 (2 ∷ 6 ∷ []) gets refused_at 5 1
    ∷ there 6 7 (2 ∷ 4 ∷ []) gets refused_at 5 2
    ∷ there 6 7 (2 ∷ []) gets refused_at 5 1
    ∷ there 6 7 (1 ∷ 2 ∷ 4 ∷ 6 ∷ []) gets refused_at 5 0
    ∷ there 6 7 (2 ∷ 3 ∷ 4 ∷ 6 ∷ []) gets refused_at 5 1
    ∷ there 6 7 (2 ∷ 4 ∷ 5 ∷ 6 ∷ []) gets refused_at 5 2
    ∷ there 6 7 (1 ∷ 4 ∷ 6 ∷ []) gets refused_at 5 0
    ∷ there 6 7 (2 ∷ 4 ∷ 5 ∷ []) gets refused_at 5 2
    ∷ lost 6 7 ((2, 1) ∷ (4, 2) ∷ (6, 1) ∷ [])
    gets accepted (4 ∷ 2 ∷ [])
    writing (0 ∷ 0 ∷ 0 ∷ 0 ∷ 0
    ∷ 1 ∷ 250000000000000 ∷ 50 ∷ 55 ∷ 110
    ∷ 0 ∷ 0 ∷ 0 ∷ 0 ∷ 0
    ∷ 2 ∷ 500000000000000 ∷ 100 ∷ 110 ∷ 220
    ∷ 0 ∷ 0 ∷ 0 ∷ 0 ∷ 0
    ∷ 1 ∷ 250000000000000 ∷ 50 ∷ 55 ∷ 110
    ∷ [])
    ∷ []

-- nobody present on the seventh: that day cannot be accepted
abbrev nobody_there : List Exchange
nobody_there =
    brings_days 3 (8 ∷ 1 ∷ 9 ∷ []) (31 ∷ 6 ∷ 31 ∷ []) gets accepted []
    ∷ there 3 7 [] gets refused 4
    ∷ day (day_of 7 []) 0 gets refused 4
    ∷ there 3 7 (1 ∷ []) gets refused_at 5 0
    ∷ there 3 7 (2 ∷ []) gets refused_at 5 0
    ∷ there 3 7 (3 ∷ []) gets refused_at 5 0
    ∷ there 3 7 (1 ∷ 2 ∷ 3 ∷ []) gets refused_at 5 0
    ∷ with_lines 3 7 (dollar 3 1 R ∷ []) gets refused_at 5 0
    ∷ there 3 7 (4 ∷ []) gets refused_at 5 0
    ∷ lost 3 8 ((1, 7) ∷ [])
    gets accepted (7 ∷ 7 ∷ [])
    writing (7 ∷ 1000000000000000 ∷ 700 ∷ 770 ∷ 1540 ∷ 0 ∷ 0 ∷ 0 ∷ 0 ∷ 0 ∷ 0 ∷ 0 ∷ 0 ∷ 0 ∷ 0 ∷ [])
    ∷ closing 9
    gets accepted (1 ∷ 7 ∷ 150000000 ∷ [])
    writing (8 ∷ 50000000 ∷ 100000000 ∷ 0 ∷ 50000000 ∷ 100000000 ∷ 0 ∷ 50000000 ∷ 100000000 ∷ [])
    ∷ []

-- the last of 32 present alone
abbrev last_of_32 : List Exchange
last_of_32 =
    brings_days 32 (replicate 31 2 ++ (1 ∷ [])) (replicate 32 31) gets accepted []
    ∷ there 32 1 (31 ∷ []) gets refused_at 5 0
    ∷ there 32 1 (31 ∷ 32 ∷ []) gets refused_at 5 0
    ∷ there 32 1 (32 ∷ []) gets accepted (1 ∷ 1 ∷ []) writing (replicate 155 0 ++ (1 ∷ 1000000000000000 ∷ 100 ∷ 110 ∷ 220 ∷ []))
    ∷ there 32 2 (32 ∷ []) gets refused_at 5 0
    ∷ []

-- 32 members, of whom the last is present from the second to the thirtieth: on the first and the last day its account is bad, between them it is
-- missing; so are the 31st and the seventh
abbrev last_of_32_joins : List Exchange
last_of_32_joins =
    brings_days 32 (replicate 31 1 ++ (2 ∷ [])) (replicate 31 31 ++ (30 ∷ [])) gets accepted []
    ∷ there 32 1 (range_with_len 1 32) gets refused_at 5 31
    ∷ there 32 31 (range_with_len 1 32) gets refused_at 5 31
    ∷ there 32 2 (range_with_len 1 31) gets refused_at 5 31
    ∷ there 32 2 (range_with_len 1 30 ++ (32 ∷ [])) gets refused_at 5 30
    ∷ there 32 2 (range_with_len 1 6 ++ range_with_len 8 25) gets refused_at 5 6
    ∷ []

-- The second is present on one of three days that count: the others count as share 0 in its mean. By the mean of its own day it would be charged
-- more than the minimum. M is that of a day on which it is absent.
abbrev on_one_day : List Exchange
on_one_day =
    brings_days 2 (1 ∷ 10 ∷ []) (31 ∷ 10 ∷ []) gets accepted []
    ∷ there 2 9 (1 ∷ 2 ∷ []) gets refused_at 5 1
    ∷ lost 2 9 ((1, 200000000) ∷ [])
    gets accepted (200000000 ∷ 200000000 ∷ [])
    writing (200000000 ∷ 1000000000000000 ∷ 20000000000 ∷ 22000000000 ∷ 44000000000 ∷ 0 ∷ 0 ∷ 0 ∷ 0 ∷ 0 ∷ [])
    ∷ there 2 10 (1 ∷ []) gets refused_at 5 1
    ∷ lost 2 10 ((1, 75000000) ∷ (2, 30000000) ∷ [])
    gets accepted (105000000 ∷ 200000000 ∷ [])
    writing (75000000 ∷ 714285714285715 ∷ 14285714286 ∷ 15714285714 ∷ 31428571429
    ∷ 30000000 ∷ 285714285714286 ∷ 5714285714 ∷ 6285714286 ∷ 12571428571
    ∷ [])
    ∷ there 2 11 (1 ∷ 2 ∷ []) gets refused_at 5 1
    ∷ lost 2 11 ((1, 300000000) ∷ [])
    gets accepted (300000000 ∷ 300000000 ∷ [])
    writing (300000000 ∷ 1000000000000000 ∷ 30000000000 ∷ 33000000000 ∷ 66000000000 ∷ 0 ∷ 0 ∷ 0 ∷ 0 ∷ 0 ∷ [])
    ∷ closing 6
    gets accepted (3 ∷ 300000000 ∷ 348571429 ∷ [])
    writing (298571429 ∷ 298571429 ∷ 597142858 ∷ 31428572 ∷ 50000000 ∷ 100000000 ∷ [])
    ∷ []

-- Two members present together on one of three days: the first joins, the second leaves. By the mean of its own days the first would be charged
-- more than the minimum.
abbrev two_of_three : List Exchange
two_of_three =
    brings_days 2 (5 ∷ 1 ∷ []) (31 ∷ 6 ∷ []) gets accepted []
    ∷ lost 2 4 ((2, 40000000) ∷ [])
    gets accepted (40000000 ∷ 40000000 ∷ [])
    writing (0 ∷ 0 ∷ 0 ∷ 0 ∷ 0 ∷ 40000000 ∷ 1000000000000000 ∷ 4000000000 ∷ 4400000000 ∷ 8800000000 ∷ [])
    ∷ lost 2 6 ((1, 10000000) ∷ (2, 100000000) ∷ [])
    gets accepted (110000000 ∷ 100000000 ∷ [])
    writing (10000000 ∷ 90909090909091 ∷ 909090909 ∷ 1000000000 ∷ 2000000000
    ∷ 100000000 ∷ 909090909090910 ∷ 9090909091 ∷ 10000000000 ∷ 20000000000
    ∷ [])
    ∷ there 2 7 (1 ∷ 2 ∷ []) gets refused_at 5 1
    ∷ lost 2 7 ((1, 30000000) ∷ [])
    gets accepted (30000000 ∷ 100000000 ∷ [])
    writing (30000000 ∷ 1000000000000000 ∷ 10000000000 ∷ 11000000000 ∷ 22000000000 ∷ 0 ∷ 0 ∷ 0 ∷ 0 ∷ 0 ∷ [])
    ∷ closing 6
    gets accepted (3 ∷ 100000000 ∷ 120000001 ∷ [])
    writing (40000001 ∷ 50000000 ∷ 100000000 ∷ 70000001 ∷ 70000001 ∷ 140000002 ∷ [])
    ∷ []

-- Members absent on all days that count, one present on a day without losses, one on no day: raw 0, and funded the minimum. Then, in a month
-- that has not begun, two that are present on its last days alone.
abbrev on_no_day : List Exchange
on_no_day =
    brings_days 3 (1 ∷ 4 ∷ 20 ∷ []) (31 ∷ 5 ∷ 20 ∷ []) gets accepted []
    ∷ lost 3 4 ((1, 0) ∷ (2, 0) ∷ []) gets accepted (0 ∷ 0 ∷ []) writing replicate 15 0
    ∷ lost 3 7 ((1, 200000000) ∷ [])
    gets accepted (200000000 ∷ 200000000 ∷ [])
    writing (200000000 ∷ 1000000000000000 ∷ 20000000000 ∷ 22000000000 ∷ 44000000000 ∷ 0 ∷ 0 ∷ 0 ∷ 0 ∷ 0 ∷ 0 ∷ 0 ∷ 0 ∷ 0 ∷ 0 ∷ [])
    ∷ lost 3 9 ((1, 0) ∷ []) gets accepted (0 ∷ 200000000 ∷ []) writing replicate 15 0
    ∷ lost 3 19 ((1, 100000000) ∷ [])
    gets accepted (100000000 ∷ 200000000 ∷ [])
    writing (100000000 ∷ 1000000000000000 ∷ 20000000000 ∷ 22000000000 ∷ 44000000000 ∷ 0 ∷ 0 ∷ 0 ∷ 0 ∷ 0 ∷ 0 ∷ 0 ∷ 0 ∷ 0 ∷ 0 ∷ [])
    ∷ there 3 20 (1 ∷ []) gets refused_at 5 1
    ∷ lost 3 21 ((1, 30000000) ∷ [])
    gets accepted (30000000 ∷ 200000000 ∷ [])
    writing (30000000 ∷ 1000000000000000 ∷ 20000000000 ∷ 22000000000 ∷ 44000000000 ∷ 0 ∷ 0 ∷ 0 ∷ 0 ∷ 0 ∷ 0 ∷ 0 ∷ 0 ∷ 0 ∷ 0 ∷ [])
    ∷ closing 9
    gets accepted (3 ∷ 200000000 ∷ 320000000 ∷ [])
    writing (220000000 ∷ 220000000 ∷ 440000000 ∷ 0 ∷ 50000000 ∷ 100000000 ∷ 0 ∷ 50000000 ∷ 100000000 ∷ [])
    ∷ brings_days 2 (31 ∷ 30 ∷ []) (31 ∷ 31 ∷ []) gets accepted []
    ∷ none_of_two
    ∷ []

-- Affiliates 1, 3 and 5, with others between: without the third, with all of them, without the fifth, and without the first and the fifth. On
-- each day Max EUL is the sum of those present.
abbrev affiliates : List Exchange
affiliates =
    brings_lists 5 1 (7 ∷ 0 ∷ 7 ∷ 0 ∷ 7 ∷ []) (1 ∷ 1 ∷ 10 ∷ 1 ∷ 1 ∷ []) (21 ∷ 31 ∷ 31 ∷ 31 ∷ 20 ∷ []) gets accepted []
    ∷ lost 5 9 ((1, 40) ∷ (2, 45) ∷ (4, 5) ∷ (5, 30) ∷ [])
    gets accepted (120 ∷ 70 ∷ [])
    writing (40 ∷ 333333333333334 ∷ 2333 ∷ 2567 ∷ 5133
    ∷ 45 ∷ 375000000000000 ∷ 2625 ∷ 2888 ∷ 5775
    ∷ 0 ∷ 0 ∷ 0 ∷ 0 ∷ 0
    ∷ 5 ∷ 41666666666667 ∷ 292 ∷ 321 ∷ 642
    ∷ 30 ∷ 250000000000000 ∷ 1750 ∷ 1925 ∷ 3850
    ∷ [])
    ∷ lost 5 10 ((1, 10) ∷ (2, 15) ∷ (3, 50) ∷ (4, 5) ∷ (5, 20) ∷ [])
    gets accepted (100 ∷ 80 ∷ [])
    writing (10 ∷ 100000000000000 ∷ 800 ∷ 880 ∷ 1760
    ∷ 15 ∷ 150000000000000 ∷ 1200 ∷ 1320 ∷ 2640
    ∷ 50 ∷ 500000000000000 ∷ 4000 ∷ 4400 ∷ 8800
    ∷ 5 ∷ 50000000000000 ∷ 400 ∷ 440 ∷ 880
    ∷ 20 ∷ 200000000000000 ∷ 1600 ∷ 1760 ∷ 3520
    ∷ [])
    ∷ lost 5 21 ((1, 20) ∷ (2, 10) ∷ (3, 80) ∷ (4, 5) ∷ [])
    gets accepted (115 ∷ 100 ∷ [])
    writing (20 ∷ 173913043478261 ∷ 1739 ∷ 1913 ∷ 3826
    ∷ 10 ∷ 86956521739131 ∷ 870 ∷ 957 ∷ 1913
    ∷ 80 ∷ 695652173913044 ∷ 6957 ∷ 7652 ∷ 15304
    ∷ 5 ∷ 43478260869566 ∷ 435 ∷ 478 ∷ 957
    ∷ 0 ∷ 0 ∷ 0 ∷ 0 ∷ 0
    ∷ [])
    ∷ lost 5 22 ((2, 60) ∷ (3, 110) ∷ (4, 5) ∷ [])
    gets accepted (175 ∷ 110 ∷ [])
    writing (0 ∷ 0 ∷ 0 ∷ 0 ∷ 0
    ∷ 60 ∷ 342857142857143 ∷ 3771 ∷ 4149 ∷ 8297
    ∷ 110 ∷ 628571428571429 ∷ 6914 ∷ 7606 ∷ 15211
    ∷ 5 ∷ 28571428571429 ∷ 314 ∷ 346 ∷ 691
    ∷ 0 ∷ 0 ∷ 0 ∷ 0 ∷ 0
    ∷ [])
    ∷ closing 15
    gets accepted (4 ∷ 110 ∷ 250000000 ∷ [])
    writing (19 ∷ 50000000 ∷ 100000000
    ∷ 29 ∷ 50000000 ∷ 100000000
    ∷ 56 ∷ 50000000 ∷ 100000000
    ∷ 5 ∷ 50000000 ∷ 100000000
    ∷ 14 ∷ 50000000 ∷ 100000000
    ∷ [])
    ∷ []

-- Each list of calls starts from a fresh register. Those in which everybody is present from 1 to 31, and those with members that join or leave
-- and first and last days that are refused.
unfoldable pub everybody_lists : List (List Exchange)
everybody_lists =
    printed
    ∷ three_days worst middling_after least_after
    ∷ three_days middling worst least_after
    ∷ three_days least middling worst
    ∷ (so_far ++ so_far_again)
    ∷ not_begun
    ∷ not_begun_again
    ∷ numbers_count
    ∷ only_without_losses
    ∷ one_dollar
    ∷ hedged_alone
    ∷ hedged_beside
    ∷ refused_without_losses
    ∷ (while_fresh ++ (while_open ++ while_closed))
    ∷ five_days first_of_five
    ∷ five_days last_of_five
    ∷ few_parts
    ∷ client_days
    ∷ every_kind
    ∷ two_groups
    ∷ last_of_four
    ∷ beside_three_days
    ++ (halves ++ (at_minimum ++ opened_at_limits))

unfoldable pub presence_lists : List (List Exchange)
presence_lists =
    (joins_fresh ++ (joins_open ++ joins_closed))
    ∷ alone 2 3
    ∷ alone 10 20
    ∷ alone 29 30
    ∷ first_day_alone
    ∷ last_day_alone
    ∷ first_days_alone
    ∷ last_days_alone
    ∷ two_between
    ∷ two_at_first
    ∷ two_at_last
    ∷ every_other
    ∷ every_other_from_1
    ∷ nobody_there
    ∷ last_of_32
    ∷ last_of_32_joins
    ∷ on_one_day
    ∷ two_of_three
    ∷ on_no_day
    ∷ affiliates
    ∷ opened_for_days ++ map one_day_alone (range_with_len 2 29)

abbrev lists : List (List Exchange)
lists = everybody_lists ++ presence_lists

pub worked_calls : map (played start) lists ≡ lists
unfolding everybody_lists presence_lists played computed
worked_calls = refl

-- What the register holds at the start and after an opening, a day and a closing, with a day and without; a day without losses is kept
-- with its number. No answer tells fresh from closed, or has to do with what is held before the first opening; document 01 says it all the
-- same. First and last days are held as the groups are, and a refused opening leaves a fresh register fresh and a closed one closed.
abbrev held_two : Opening
held_two = opening_of 2 1 (0 ∷ 0 ∷ [])

abbrev after_opening : Register
after_opening = step start (opening held_two)

abbrev after_day : Register
after_day = step after_opening (losses 5 (400000000 ∷ 200000000 ∷ []))

abbrev after_without_losses : Register
after_without_losses = step after_day (losses 9 (0 ∷ 0 ∷ []))

abbrev held_joins : Opening
held_joins = record { n = 3; k = 1; groups = 0 ∷ 0 ∷ 0 ∷ []; firsts = 1 ∷ 10 ∷ 1 ∷ []; lasts = 31 ∷ 31 ∷ 10 ∷ [] }

abbrev after_joins : Register
after_joins = step start joins

abbrev after_ninth : Register
after_ninth = step after_joins (there 3 9 (1 ∷ 3 ∷ []))

abbrev joins_ended : Register
joins_ended = record { status = Closed; held = held_joins; days = after_ninth.days }

pub registers :
    (start ≡ record { status = Fresh; held = opening_of 0 0 []; days = [] })
    × (after_opening ≡ record { status = Open; held = held_two; days = [] })
    × (map (λ d. d.number) after_day.days ≡ 5 ∷ [])
    × (map (λ d. d.number) after_without_losses.days ≡ 9 ∷ 5 ∷ [])
    × (map (λ d. d.number) (step after_opening (losses 9 (0 ∷ 0 ∷ []))).days ≡ 9 ∷ [])
    × (step after_day (closing 6) ≡ record { status = Closed; held = held_two; days = after_day.days })
    × (step after_without_losses (closing 6) ≡ record { status = Closed; held = held_two; days = after_without_losses.days })
    × (step after_opening (closing 6) ≡ record { status = Closed; held = held_two; days = [] })
    × (after_joins ≡ record { status = Open; held = held_joins; days = [] })
    × (step start (but_for 3 3 0 9) ≡ start)
    × (after_ninth.held ≡ held_joins)
    × (map (λ d. d.number) after_ninth.days ≡ 9 ∷ [])
    × (step after_ninth (but_for 3 3 5 9) ≡ after_ninth)
    × (step after_ninth (there 3 10 (1 ∷ 3 ∷ [])) ≡ after_ninth)
    × (step after_ninth (closing 9) ≡ joins_ended)
    × (step joins_ended (but_for 3 3 0 9) ≡ joins_ended)
    × (step joins_ended (brings_days 2 (1 ∷ 5 ∷ []) (9 ∷ 31 ∷ []))
    ≡ record { status = Open; held = record { n = 2; k = 1; groups = 0 ∷ 0 ∷ []; firsts = 1 ∷ 5 ∷ []; lasts = 9 ∷ 31 ∷ [] }; days = [] })
unfolding computed
registers = (refl, refl, refl, refl, refl, refl, refl, refl, refl, refl, refl, refl, refl, refl, refl, refl, refl)
