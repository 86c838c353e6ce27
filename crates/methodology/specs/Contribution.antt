-- Document 01, "From days to the contribution": from the days of a period to each member's charge; 001, 6.1.1(i) and (ii), 6.1.2. By
-- document 02's Change 2 a period may have none: "A closing with no accepted day now gives M 0, D 0, raw 0 and funded 50,000,000 for every
-- member." By its Change 3 the Max EUL that a day reports goes by the days up to it, and with it. By its Change 4 a day may be without losses.
-- By its Change 6 shares are finer, and with them a raw charge's divisor and the allowance. By its Change 7 a member may be absent on a day.
use Rattle.std.specs.Prelude.{Bool, cond, ℕ, ◌-◌, ◌*◌, max, ltb, eqb, length}
use mathlib.Core.List.{List, [], ◌∷◌, flat_map}
use Rattle.std.specs.List.{filter}
use Rattle.numbers.specs.Sums.{Σ, greatest}
use Rattle.numbers.specs.Fractions.{Fraction, ◌over◌, whole, ◌⊕◌, ◌⊗◌, Σᶠ}
use Rattle.numbers.specs.Rounding.{ceil_div}
use Rattle.methodology.specs.declared.Opening.{Opening}
use Rattle.methodology.specs.Account.{Account, members}
use Rattle.methodology.specs.Member.{loss}
use Rattle.methodology.specs.Day.{total, own_max_eul, scale, share}

-- a day that was accepted, "with its number and accounts"
pub record KeptDay : Type 0 where
  pub number : ℕ
  pub accounts : List Account

-- Document 02, Change 3: the Max EUL that a day reports is "the highest own-day figure from the period's first accepted day to this one".
-- The days are those accepted since the last accepted opening, up to this one and with it.
unfoldable pub reported_max_eul : Opening → List KeptDay → ℕ
reported_max_eul o days = greatest days (λ d. own_max_eul o d.accounts)

-- M. "M is the highest Max EUL among the days accepted since the last accepted opening", those without losses among them. With no day it is
-- 0, as the greatest of none is. Each day's Max EUL is its own here: "M does not change" (Change 3).
unfoldable pub highest : Opening → List KeptDay → ℕ
highest o days = greatest days (λ d. own_max_eul o d.accounts)

-- Change 4: a day without losses "is left out of D and of the mean". Whether a day with this T counts.
abbrev pub counts : (T : ℕ) → Bool
counts T = ltb 0 T

-- The days that count. D, in document 01 the number of the accepted days, is the length of this list.
unfoldable pub counted : Opening → List KeptDay → List KeptDay
counted o days = filter (λ d. counts (total o d.accounts)) days

-- The "sum of the member's shares", over the days that count. A day on which the member is absent "counts as share 0 in the mean" (Change 7): it
-- has no account then, so its loss and its share are 0, and D is the fund's.
unfoldable pub sum_of_shares : Opening → List KeptDay → (m : ℕ) → ℕ
sum_of_shares o days m = Σ (counted o days) (λ d. share (loss o.k d.accounts m) (total o d.accounts))

-- "A raw charge is 11·M·(sum of the member's shares) / (10·D·10^12), rounded up", and with finer shares "the divisor of a raw charge follows":
-- it is 10·D·10^15 (Change 6). From M, the sum S and D, and of member m. Where D is 0 it is 0 (Change 2).
unfoldable pub charge : (M S D : ℕ) → ℕ
charge M S D = cond (eqb D 0) 0 (ceil_div (11 * M * S) (10 * D * scale))

unfoldable pub raw : Opening → List KeptDay → (m : ℕ) → ℕ
raw o days m = charge (highest o days) (sum_of_shares o days m) (length (counted o days))

-- the Rates and FX Minimum Contribution Amount; 001, 6.1.1(i)
abbrev pub minimum : ℕ
minimum = 50000000

-- "The funded contribution is the greater of raw charge and 50,000,000."
unfoldable pub funded : (rawCharge : ℕ) → ℕ
funded rawCharge = max rawCharge minimum

-- "The unfunded one is twice the funded."
unfoldable pub unfunded : (rawCharge : ℕ) → ℕ
unfunded rawCharge = 2 * funded rawCharge

-- "An exact charge is 11·M·(sum of the member's e/T over these days) / (10·D), a fraction over whole numbers with nothing rounded."
-- "These days" are those that count: "the bounds on charges rest on the remaining days" (Change 4). Where D is 0 it is 0 over 1: "with every
-- exact charge 0 in such a period" (Change 2).
unfoldable pub exact_charge : Opening → List KeptDay → (m : ℕ) → Fraction
exact_charge o days m =
    let D = length (counted o days) in
    cond (eqb D 0) (0 over 1) ((11 * highest o days) over (10 * D) ⊗ Σᶠ (counted o days) (λ d. loss o.k d.accounts m over total o d.accounts))

-- "A member's shortfall is 50,000,000 less its raw charge, or 0 where that is negative": a natural number's `-` stops at 0.
unfoldable pub shortfall : (rawCharge : ℕ) → ℕ
shortfall rawCharge = minimum - rawCharge

-- the allowance of demand 3: a raw charge is above the exact one by less than this, "1 dollar plus 1.1M/10^15" (Change 6)
unfoldable pub allowance : (M : ℕ) → Fraction
allowance M = whole 1 ⊕ (11 * M) over (10 * scale)

-- what a closing writes of a member: "(raw, funded, unfunded)"
unfoldable pub three : (rawCharge : ℕ) → List ℕ
three rawCharge = rawCharge ∷ funded rawCharge ∷ unfunded rawCharge ∷ []

-- what a closing writes: "3 a member"
unfoldable pub contributions : Opening → List KeptDay → List ℕ
contributions o days = flat_map (λ m. three (raw o days m)) (members o.n)

-- "the total funded"
unfoldable pub total_funded : Opening → List KeptDay → ℕ
total_funded o days = Σ (members o.n) (λ m. funded (raw o days m))
