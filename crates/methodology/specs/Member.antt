-- Document 01, "From an account to a member", second half: a member's EUL and its loss; 001, 6.1.1(4) and (8).
use Rattle.std.specs.Prelude.{Bool, ◌||◌, List, map, ℕ, max, eqb, ℤ, pos, ◌+ℤ◌, take}
use Rattle.numbers.specs.Signed.{◌⁺}
use Rattle.std.specs.List.{filter}
use Rattle.numbers.specs.Lists.{descending}
use Rattle.numbers.specs.Sums.{Σ, Σℤ}
use Rattle.numbers.specs.Rounding.{ceil_div}
use Rattle.methodology.specs.Account.{Account, kind_h, kind_r, kind_a, kind_u, eul_under, own_eul}

-- the accounts of member m among a day's
unfoldable pub accounts_of : (m : ℕ) → List Account → List Account
accounts_of m accts = filter (λ a. eqb a.heading.member m) accts

abbrev pub is_house : Account → Bool
is_house a = eqb a.heading.kind kind_h

abbrev pub is_r : Account → Bool
is_r a = eqb a.heading.kind kind_r

abbrev pub is_aor_u : Account → Bool
is_aor_u a = eqb a.heading.kind kind_a || eqb a.heading.kind kind_u

-- a client's account is of kind R, A or U
abbrev pub is_client : Account → Bool
is_client a = is_r a || is_aor_u a

-- Below, `eul` gives an account's EUL, under a scenario or its own, and `accts` are one member's accounts. An EUL that is not positive
-- counts 0 among positive ones.

-- "the house EUL with its sign"; row 5 leaves a member one house account on a day on which it is present, and none on another
unfoldable pub house_eul : (eul : Account → ℤ) → List Account → ℤ
house_eul eul accts = Σℤ (filter is_house accts) eul

-- "half the sum of positive EULs over all client accounts (a half dollar goes up)"
unfoldable pub half_of_clients : (eul : Account → ℤ) → List Account → ℕ
half_of_clients eul accts = ceil_div (Σ (filter is_client accts) (λ a. eul a ⁺)) 2

-- "the sum of the two largest positive EULs of kind R (fewer if there are fewer)"
unfoldable pub two_largest_of_r : (eul : Account → ℤ) → List Account → ℕ
two_largest_of_r eul accts = Σ (take 2 (descending (map (λ a. eul a ⁺) (filter is_r accts)))) (λ x. x)

-- "Part b is the greater of" the two
unfoldable pub part_b : (eul : Account → ℤ) → List Account → ℕ
part_b eul accts = max (half_of_clients eul accts) (two_largest_of_r eul accts)

-- "Part c is the sum of positive EULs of kinds A and U."
unfoldable pub part_c : (eul : Account → ℤ) → List Account → ℕ
part_c eul accts = Σ (filter is_aor_u accts) (λ a. eul a ⁺)

-- "A member's EUL is the house EUL with its sign, plus part b, plus part c."
unfoldable pub member_eul : (eul : Account → ℤ) → List Account → ℤ
member_eul eul accts = house_eul eul accts +ℤ pos (part_b eul accts) +ℤ pos (part_c eul accts)

-- "The member's EUL under j takes all accounts under j." `accts` are the day's accounts from here on.
unfoldable pub member_under : List Account → (m j : ℕ) → ℤ
member_under accts m j = member_eul (eul_under j) (accounts_of m accts)

-- "Its own EUL takes each account's own EUL."
unfoldable pub member_own : (k : ℕ) → List Account → (m : ℕ) → ℤ
member_own k accts m = member_eul (own_eul k) (accounts_of m accts)

-- e. "Its loss e is its own EUL, or 0 where that is negative"
unfoldable pub loss : (k : ℕ) → List Account → (m : ℕ) → ℕ
loss k accts m = member_own k accts m ⁺
