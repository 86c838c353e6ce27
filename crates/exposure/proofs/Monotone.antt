-- A member's EUL grows with its accounts' EULs, part by part, so under a scenario it is at most its own.
use mathlib.Core.Bool.{Bool}
use mathlib.Core.List.{List}
use Prim.Native.Nat.{ℕ, ◌≤◌}
use native.Mathlib.Omega.{arith}
use lib.IntN.{ℤ, pos, ◌+ℤ◌, ◌-ℤ◌}
use lib.Signed.{◌≤ℤ◌}
use Rattle.numbers.specs.Signed.{◌⁺}
use Rattle.std.specs.List.{filter}
use Rattle.numbers.proofs.Signed.{signed, add, sub, ⁺-mono}
use Rattle.numbers.proofs.Lists.{◌∈◌, mem_keep}
use Rattle.numbers.proofs.Sums.{Σ-mono, Σℤ-mono, greatest_elem}
use Rattle.numbers.proofs.Sorting.{two_mono}
use Rattle.numbers.proofs.Rounding.{ceil_mono}
use Rattle.methodology.specs.Account.{Account, scenarios, decrease, eul_of, eul_under, largest_decrease, own_eul}
use Rattle.methodology.specs.Member.{accounts_of, is_house, is_r, is_aor_u, is_client, house_eul, half_of_clients, two_largest_of_r, part_b, part_c, member_eul, member_under, member_own, loss}

-- a member's EUL: the house, the half, the two largest and part c each grow
member_mono : (accts : List Account) (f g : Account → ℤ) → ((a : Account) → a ∈ accts → f a ≤ℤ g a) → member_eul f accts ≤ℤ member_eul g accts
unfolding member_eul house_eul part_b half_of_clients two_largest_of_r part_c
member_mono accts f g h =
    let positive : (t : Account → Bool) (a : Account) → a ∈ filter t accts → f a ⁺ ≤ g a ⁺ = λ t a m. ⁺-mono (h a (mem_keep t accts m).0) in
    let house = Σℤ-mono (filter is_house accts) f g (λ a m. h a (mem_keep is_house accts m).0) in
    let half = ceil_mono _ _ 2 (omega arith) (Σ-mono (filter is_client accts) _ _ (positive is_client)) in
    let two = two_mono (filter is_r accts) _ _ (positive is_r) in
    let c = Σ-mono (filter is_aor_u accts) _ _ (positive is_aor_u) in
    omega (
      arith,
      signed,
      add (house_eul f accts) (pos (part_b f accts)),
      add (house_eul f accts +ℤ pos (part_b f accts)) (pos (part_c f accts)),
      add (house_eul g accts) (pos (part_b g accts)),
      add (house_eul g accts +ℤ pos (part_b g accts)) (pos (part_c g accts)),
    )

-- under scenario j: the decrease, an account's EUL, a member's EUL
eul_mono : (fall fall' margin extra : ℕ) → fall ≤ fall' → eul_of fall margin extra ≤ℤ eul_of fall' margin extra
unfolding eul_of
eul_mono fall fall' margin extra h =
    omega (
      arith,
      signed,
      sub (pos fall) (pos margin),
      add (pos fall -ℤ pos margin) (pos extra),
      sub (pos fall') (pos margin),
      add (pos fall' -ℤ pos margin) (pos extra),
    )

module _ (k : ℕ) {j : ℕ} (i : j ∈ scenarios k) where
  decrease_le : (row : List ℤ) → decrease row j ≤ largest_decrease k row
  unfolding largest_decrease
  decrease_le row = greatest_elem (decrease row) i

  account_le : (a : Account) → eul_under j a ≤ℤ own_eul k a
  unfolding eul_under own_eul
  account_le a = eul_mono _ _ a.margin a.extra (decrease_le a.npvs)

  member_le : (accts : List Account) (m : ℕ) → member_under accts m j ≤ℤ member_own k accts m
  unfolding member_under member_own
  member_le accts m = member_mono (accounts_of m accts) (eul_under j) (own_eul k) (λ a l. account_le a)

  pub loss_le : (accts : List Account) (m : ℕ) → member_under accts m j ⁺ ≤ loss k accts m
  unfolding loss
  loss_le accts m = ⁺-mono (member_le accts m)
