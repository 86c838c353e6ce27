-- Accounts that stand together among others.
use Rattle.std.specs.Prelude.{List, ℕ, leb}
use Rattle.std.specs.List.{filter}
use Rattle.methodology.specs.Account.{Account}

-- the accounts of member m and of all members after it
unfoldable pub from_member : (m : ℕ) → List Account → List Account
from_member m accts = filter (λ a. leb m a.heading.member) accts
