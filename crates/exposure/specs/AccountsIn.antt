-- The accounts that the program's slices hold, and what it finds of them where they are one member's.
use Rattle.std.specs.Prelude.{◌≡◌, List, ℕ, ◌*◌, ◌≤◌, ℤ, pos, nat_abs, get_or}
use Rattle.methodology.specs.Account.{DayInput, Account, accounts, eul_under}
use Rattle.methodology.specs.Member.{member_eul}
use Rattle.methodology.specs.Refusals.{limit}
use Rattle.exposure.specs.declared.accounts.Accounts.{Accounts}
use Rattle.exposure.specs.GroupRows.{row_of}

-- the slices as a day brings them; its terms do not matter
abbrev pub slices_in : Accounts → DayInput
slices_in a = record { terms = record { number = 0 }; headings = a.headings.now; npvs = a.npvs.now; margins = a.margins.now; extras = a.extras.now }

abbrev pub accounts_in : Accounts → List Account
accounts_in a = accounts a.k (slices_in a)

-- no EUL of a member that has accounts of one day is further from 0
abbrev pub most_eul : ℕ
most_eul = 3 * limit * 256

-- a member's EULs by scenario
pub record RowIs (k : ℕ) (accts : List Account) (r : List ℤ) : Type 0 where
  pub is : r ≡ row_of k (λ j. member_eul (eul_under j) accts)
  pub bound : (x : ℕ) → nat_abs (get_or r x (pos 0)) ≤ most_eul
