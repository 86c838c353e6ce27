-- Document 01, "From members to the day": T, group sums, a day's own Max EUL, and a member's five daily numbers; 001, 6.1.1(5) to (7) and
-- 6.1.2. By document 02's Change 3 the Max EUL in these numbers is the one that the day reports: `reported_max_eul` in Contribution.antt. By its
-- Change 6 a share has fifteen places.
use Rattle.std.specs.Prelude.{cond, ℕ, ◌-◌, ◌*◌, max, eqb, ℤ, get_or}
use mathlib.Core.List.{List, [], ◌∷◌, flat_map}
use Rattle.numbers.specs.Signed.{◌⁺}
use Rattle.std.specs.List.{filter}
use Rattle.numbers.specs.Sums.{Σ, Σℤ, greatest}
use Rattle.numbers.specs.Rounding.{ceil_div, round_div}
use Rattle.methodology.specs.declared.Opening.{Opening}
use Rattle.methodology.specs.Account.{Account, members, scenarios}
use Rattle.methodology.specs.Member.{member_under, loss}

-- "T is the sum of e over all members."
unfoldable pub total : Opening → List Account → ℕ
total o accts = Σ (members o.n) (loss o.k accts)

-- the group number of member m; member 1's is the first of the list
abbrev pub group_number : Opening → (m : ℕ) → ℕ
group_number o m = get_or o.groups (m - 1) 0

-- The group that member m is in, m itself among them. "Members with the same nonzero number are Affiliates; 0 means none", and "a member
-- with group 0 is its own group".
unfoldable pub group_of : Opening → (m : ℕ) → List ℕ
group_of o m =
    cond (eqb (group_number o m) 0) (m ∷ []) (filter (λ m'. eqb (group_number o m') (group_number o m)) (members o.n))

-- "The group sum under j adds the signed EULs of Affiliates under j", here of the group that member m is in. "Every scenario is added up
-- for itself".
unfoldable pub group_sum : Opening → List Account → (m j : ℕ) → ℤ
group_sum o accts m j = Σℤ (group_of o m) (λ m'. member_under accts m' j)

-- The day's own Max EUL, from its accounts alone. "A day's Max EUL is the greatest of 0, all members' EULs under all j, and all group sums
-- under all j, on that day." The greatest of 0 and some numbers is the greatest of their ⁺, and every group is that of a member.
unfoldable pub own_max_eul : Opening → List Account → ℕ
own_max_eul o accts =
    max
    (greatest (members o.n) (λ m. greatest (scenarios o.k) (λ j. member_under accts m j ⁺)))
    (greatest (members o.n) (λ m. greatest (scenarios o.k) (λ j. group_sum o accts m j ⁺)))

-- the share of a member that has the whole loss: 10^15 (Change 6)
abbrev pub scale : ℕ
scale = 1000000000000000

-- "A share is now e × 10^15 / T rounded up" (Change 6). It is taken where T is above 0, and so are the three figures after it (`five`, and
-- `counted` in Contribution.antt).
unfoldable pub share : (e T : ℕ) → ℕ
share e T = ceil_div (e * scale) T

-- "Daily value, reserve and estimate, in cents, are 100·e·Max/T, 110·e·Max/T and 220·e·Max/T (Max is the day's Max EUL), each rounded to
-- the nearest from the exact fraction, a half up." Max is the one reported, "in the result, the report and the three cent figures" (Change
-- 3), and may be above T.
unfoldable pub value : (e Max T : ℕ) → ℕ
value e Max T = round_div (100 * e * Max) T

unfoldable pub reserve : (e Max T : ℕ) → ℕ
reserve e Max T = round_div (110 * e * Max) T

unfoldable pub estimate : (e Max T : ℕ) → ℕ
estimate e Max T = round_div (220 * e * Max) T

-- A member's five daily numbers: "(e, share, value, reserve, estimate)". On a day without losses, where T is 0, "every member's e, share and
-- cents are 0" (Change 4). So are those of an absent member (Change 7), whose e is 0.
unfoldable pub five : (e Max T : ℕ) → List ℕ
five e Max T = cond (eqb T 0) (0 ∷ 0 ∷ 0 ∷ 0 ∷ 0 ∷ []) (e ∷ share e T ∷ value e Max T ∷ reserve e Max T ∷ estimate e Max T ∷ [])

-- what a day writes: "5 numbers a member [..], each member's five into its own stretch"
unfoldable pub dailies : Opening → (Max : ℕ) → List Account → List ℕ
dailies o Max accts = flat_map (λ m. five (loss o.k accts m) Max (total o accts)) (members o.n)
