-- A member's figures are those of its own accounts, and depend on no others.
use mathlib.Core.Path.{◌≡◌, ap}
use mathlib.Core.List.{List}
use Prim.Native.Nat.{ℕ}
use Rattle.numbers.specs.Signed.{◌⁺}
use Rattle.methodology.specs.Account.{Account, eul_under, own_eul}
use Rattle.methodology.specs.Member.{accounts_of, member_eul, member_under, member_own, loss}

pub own_only : (k m j : ℕ) (accts accts' : List Account) → accounts_of m accts ≡ accounts_of m accts'
    → (member_under accts m j ≡ member_under accts' m j) × (member_own k accts m ≡ member_own k accts' m) × (loss k accts m ≡ loss k accts' m)
unfolding member_under member_own loss
own_only k m j accts accts' e = (
  ap (member_eul (eul_under j)) e,
  ap (member_eul (own_eul k)) e,
  ap (λ (own : List Account). member_eul (own_eul k) own ⁺) e,
)
