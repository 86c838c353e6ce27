-- What some of a member's accounts come to, and the member's EUL with the others still to come.
use Rattle.std.specs.Prelude.{◌≡◌, List, [], ◌∷◌, map, ℕ, ◌+◌, ◌-◌, ◌*◌, ◌≤◌, max, ℤ, pos, nat_abs, ◌+ℤ◌}
use Rattle.numbers.specs.Signed.{◌⁺}
use Rattle.std.specs.List.{filter}
use Rattle.numbers.specs.Sums.{Σ, greatest}
use Rattle.numbers.specs.Rounding.{ceil_div}
use Rattle.methodology.specs.Account.{Account}
use Rattle.methodology.specs.Member.{is_client, is_r, house_eul, two_largest_of_r, part_c}
use Rattle.methodology.specs.Refusals.{limit}
use Rattle.exposure.specs.declared.member.Tally.{Tally}

-- the largest positive EUL of kind R
unfoldable pub largest_of_r : (eul : Account → ℤ) → List Account → ℕ
largest_of_r eul accts = greatest (map (λ a. eul a ⁺) (filter is_r accts)) (λ x. x)

-- the member's EUL where `t` is what some of its accounts came to, and `rest` are the others. The two largest of kind R are both passed, or
-- one is passed, or none.
unfoldable pub eul_over : Tally → (eul : Account → ℤ) → (rest : List Account) → ℤ
eul_over t eul rest =
    (t.house +ℤ house_eul eul rest)
    +ℤ pos
    (max (ceil_div (t.clients + Σ (filter is_client rest) (λ a. eul a ⁺)) 2)
    (max (t.first + t.second) (max (t.first + largest_of_r eul rest) (two_largest_of_r eul rest))))
    +ℤ pos (t.clients - t.of_r + part_c eul rest)

-- a tally of `count` accounts, each of which has an EUL within twice the limit
pub record TallyOf (t : Tally) (count : ℕ) : Type 0 where
  pub all : nat_abs t.house + t.clients ≤ 2 * limit * count
  pub apart : t.of_r ≤ t.clients
  pub largest : t.first + t.second ≤ t.of_r
  pub order : t.second ≤ t.first

-- of no more accounts than a day has
abbrev pub Small : Tally → Type 0
Small t = TallyOf t 256

-- `r` is `t` with one account more, of the given kind and EUL: whatever follows, the member's EUL is the same
pub record TallyWith (t : Tally) (kind : ℕ) (e : ℤ) (r : Tally) : Type 0 where
  pub counted : (count : ℕ) → TallyOf t count → TallyOf r (count + 1)
  pub over :
      (eul : Account → ℤ) (a : Account) (rest : List Account) → a.heading.kind ≡ kind → eul a ≡ e
      → eul_over r eul rest ≡ eul_over t eul (a ∷ rest)

-- `e` is the member's EUL where no account is left
pub record Ended (t : Tally) (e : ℤ) : Type 0 where
  pub is : (eul : Account → ℤ) → e ≡ eul_over t eul []
  pub bound : (count : ℕ) → TallyOf t count → nat_abs e ≤ 3 * limit * count
