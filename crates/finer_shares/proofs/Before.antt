-- Shares, charges and allowances as they were before the change, worked out by the recalculation with shares of twelve places: this table holds
-- the definitions that `FinerShares` compares with. By computation.
use mathlib.Core.Path.{◌≡◌, refl}
use mathlib.Core.List.{List, [], ◌∷◌, map}
use Prim.Native.Nat.{ℕ}
use lib.IntN.{pos}
use lib.ListN.{replicate}
use Rattle.numbers.specs.Fractions.{Fraction}
use Rattle.methodology.specs.Account.{accounts}
use Rattle.methodology.specs.Contribution.{KeptDay}
use Rattle.methodology.proofs.Samples.{computed, H, Line, acct, from_limit_to_limit, houses, day_of, opening_of}
use Rattle.finer_shares.specs.FinerShares.{coarser_share, coarser_raw, coarser_allowance}

abbrev parts : Fraction → List ℕ
parts x = x.num ∷ x.den ∷ []

-- a day by its accounts, under k scenarios and under one; its number is in no figure
abbrev kept_under : (k : ℕ) → List Line → KeptDay
kept_under k lines = record { number = 1; accounts = accounts k (day_of 1 lines) }

abbrev kept : List Line → KeptDay
kept lines = kept_under 1 lines

-- the raw charges of members without groups, under k scenarios and under one
abbrev charged_under : (k n : ℕ) → List KeptDay → (ms : List ℕ) → List ℕ
charged_under k n days ms = map (coarser_raw (opening_of n k (replicate n 0)) days) ms

abbrev charged : (n : ℕ) → List KeptDay → (ms : List ℕ) → List ℕ
charged n days ms = charged_under 1 n days ms

-- a loss of e beside one of twice the limit of an amount
abbrev beside_far_more : (e : ℕ) → KeptDay
beside_far_more e = kept (from_limit_to_limit 1 0 H ∷ houses 2 (pos e ∷ []))

-- losses of 1, 2 and 3 dollars beside two such
abbrev few_parts : KeptDay
few_parts = kept (from_limit_to_limit 1 0 H ∷ from_limit_to_limit 2 0 H ∷ houses 3 (pos 1 ∷ pos 2 ∷ pos 3 ∷ []))

-- two members that lose under different ones of two scenarios
abbrev apart : KeptDay
apart = kept_under 2 (acct 1 0 H (pos 300000000) 0 0 (pos 300000000 ∷ pos 0 ∷ []) ∷ acct 2 0 H (pos 100000000) 0 0 (pos 0 ∷ pos 100000000 ∷ []) ∷ [])

abbrev nothing : KeptDay
nothing = kept (houses 1 (pos 0 ∷ pos 0 ∷ []))

abbrev worst : KeptDay
worst = kept (houses 1 (pos 400000000 ∷ pos 200000000 ∷ []))

abbrev middling : KeptDay
middling = kept (houses 1 (pos 100000000 ∷ pos 300000000 ∷ []))

abbrev least : KeptDay
least = kept (houses 1 (pos 70000000 ∷ pos 30000000 ∷ []))

pub before_the_change :
    -- document 01's case 1; and 1, 2 and 3 dollars beside two members that lose twice the limit
    (map (λ e. coarser_share e 1800) (450 ∷ 200 ∷ 250 ∷ 500 ∷ []) ≡ 250000000000 ∷ 111111111112 ∷ 138888888889 ∷ 277777777778 ∷ [])
    × (map (λ e. coarser_share e 4000000000006) (2000000000000 ∷ 1 ∷ 2 ∷ 3 ∷ []) ≡ 500000000000 ∷ 1 ∷ 1 ∷ 1 ∷ [])
    × (charged 5 (few_parts ∷ []) (1 ∷ 3 ∷ 4 ∷ 5 ∷ []) ≡ 1100000000000 ∷ 3 ∷ 3 ∷ 3 ∷ [])
    -- Two shares of one part, each rounded up: 2.2 dollars, rounded up. One such share in three days, 0.73 dollars; two shares of which the
    -- charge is rounded up once.
    × (charged 2 (beside_far_more 1 ∷ beside_far_more 1 ∷ []) (2 ∷ []) ≡ 3 ∷ [])
    × (charged 2 (beside_far_more 0 ∷ beside_far_more 0 ∷ beside_far_more 1 ∷ []) (2 ∷ []) ≡ 1 ∷ [])
    × (charged 2 (kept (houses 1 (pos 1 ∷ pos 1 ∷ [])) ∷ kept (houses 1 (pos 1 ∷ pos 2 ∷ [])) ∷ []) (1 ∷ []) ≡ 1 ∷ [])
    -- each loss under its own scenario
    × (charged_under 2 2 (apart ∷ []) (1 ∷ 2 ∷ []) ≡ 247500000 ∷ 82500000 ∷ [])
    -- three days, and a day without losses among them; no day, and such days alone
    × (charged 2 (worst ∷ middling ∷ least ∷ []) (1 ∷ 2 ∷ []) ≡ 237111112 ∷ 202888889 ∷ [])
    × (charged 2 (least ∷ nothing ∷ middling ∷ worst ∷ []) (1 ∷ 2 ∷ []) ≡ 237111112 ∷ 202888889 ∷ [])
    × (charged 2 [] (1 ∷ 2 ∷ []) ≡ 0 ∷ 0 ∷ [])
    × (charged 2 (nothing ∷ nothing ∷ []) (1 ∷ 2 ∷ []) ≡ 0 ∷ 0 ∷ [])
    -- 1 dollar, 2.1 dollars where M is 10^12, and in the printed month 1.000429 dollars
    × (parts (coarser_allowance 0) ≡ 10000000000000 ∷ 10000000000000 ∷ [])
    × (parts (coarser_allowance 1000000000000) ≡ 21000000000000 ∷ 10000000000000 ∷ [])
    × (parts (coarser_allowance 390000000) ≡ 10004290000000 ∷ 10000000000000 ∷ [])
    × (parts (coarser_allowance 7) ≡ 10000000000077 ∷ 10000000000000 ∷ [])
unfolding computed
before_the_change = (refl, refl, refl, refl, refl, refl, refl, refl, refl, refl, refl, refl, refl, refl, refl)
