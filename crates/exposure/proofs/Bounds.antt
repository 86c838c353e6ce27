-- How large the total of a day gets. A member's EUL counts an account at most one and a half times, an account's EUL is within twice the
-- limit of its amounts, and an account is one member's only.
use mathlib.Core.Path.{◌≡◌}
use mathlib.Core.Bool.{Bool, false}
use mathlib.Core.List.{List, map}
use Prim.Native.Nat.{ℕ, ◌+◌, ◌*◌, ◌≤◌, ◌<◌}
use native.Mathlib.Omega.{arith}
use lib.Dec.{eqb}
use lib.IntN.{ℤ, pos, nat_abs, ◌+ℤ◌, ◌-ℤ◌}
use lib.ListN.{length, get_or}
use borrow.Author.Tests.{ltb-false}
use Rattle.numbers.specs.Signed.{◌⁺}
use Rattle.std.specs.List.{filter, range_with_len}
use Rattle.numbers.specs.Lists.{descending}
use Rattle.numbers.specs.Sums.{Σ}
use Rattle.numbers.proofs.Tests.{neither}
use Rattle.numbers.proofs.Signed.{abs_is, abs_add, add, sub, one_zero, ⁺-abs, ⁺-sub}
use Rattle.numbers.proofs.Lists.{◌∈◌, mem_at, at_any, mem_keep, any_false}
use Rattle.numbers.proofs.Sums.{Σ-mono, Σ-bound, Σ-const, Σ-map, Σ-perm, Σ-take_le, Σ-or, Σ-classes, Σℤ-abs, greatest_le}
use Rattle.numbers.proofs.Sorting.{descending_is}
use Rattle.numbers.proofs.Rounding.{ceil_below}
use Rattle.methodology.specs.declared.Opening.{Opening}
use Rattle.methodology.specs.Account.{Account, members, kind_a, kind_u, base, stress, decrease, eul_of, largest_decrease, own_eul}
use Rattle.methodology.specs.Member.{accounts_of, is_house, is_r, is_aor_u, is_client, house_eul, half_of_clients, two_largest_of_r, part_b, part_c, member_eul, member_own, loss}
use Rattle.methodology.specs.Day.{total}
use Rattle.methodology.specs.Refusals.{limit, bad_amount, npv_outside}
use Rattle.methodology.proofs.Passed.{inside}
use Rattle.validation.proofs.Amounts.{npv_limit}

-- a member's EUL: the house counts whole, R at most whole, A and U one and a half times
module _ (f : Account → ℤ) (accts : List Account) where
  abbrev size : (Account → Bool) → ℕ
  size t = Σ (filter t accts) (λ a. nat_abs (f a))

  positive_le : (t : Account → Bool) → Σ (filter t accts) (λ a. f a ⁺) ≤ size t
  positive_le t = Σ-mono (filter t accts) _ _ (λ a m. ⁺-abs (f a))

  half_le : 2 * half_of_clients f accts ≤ size is_client + 1
  unfolding half_of_clients
  half_le = omega (arith, positive_le is_client, ceil_below (Σ (filter is_client accts) (λ a. f a ⁺)) 2 (omega arith))

  two_le : two_largest_of_r f accts ≤ size is_r
  unfolding two_largest_of_r
  two_le =
      let l = map (λ a. f a ⁺) (filter is_r accts) in
      omega (arith, positive_le is_r, Σ-take_le 2 (descending l) (λ x. x), Σ-perm (descending_is l) (λ x. x), Σ-map (λ a. f a ⁺) (filter is_r accts) (λ x. x))

  member_abs : 2 * nat_abs (member_eul f accts) ≤ 3 * Σ accts (λ a. nat_abs (f a)) + 1
  unfolding member_eul house_eul part_b part_c Σ
  member_abs =
      let v : Account → ℕ = λ a. nat_abs (f a) in
      omega (
        arith,
        abs_add (house_eul f accts +ℤ pos (part_b f accts)) (pos (part_c f accts)),
        abs_add (house_eul f accts) (pos (part_b f accts)),
        Σℤ-abs (filter is_house accts) f,
        half_le,
        two_le,
        positive_le is_aor_u,
        Σ-or is_r is_aor_u accts v,
        Σ-or (λ a. eqb a.heading.kind kind_a) (λ a. eqb a.heading.kind kind_u) accts v,
        Σ-classes (λ a. a.heading.kind) 0 4 accts v,
      )

  -- with every account within 2 · h
  member_bound : (h : ℕ) → ((a : Account) → a ∈ accts → nat_abs (f a) ≤ 2 * h) → nat_abs (member_eul f accts) ≤ 3 * h * length accts
  member_bound h b = omega (arith, member_abs, Σ-bound accts (λ a. nat_abs (f a)) (2 * h) b)

-- all members together: an account is one member's only
module _ (f : Account → ℤ) (accts : List Account) (h : ℕ) (b : (a : Account) → a ∈ accts → nat_abs (f a) ≤ 2 * h) where
  of_member_lem : (m : ℕ) → nat_abs (member_eul f (accounts_of m accts)) ≤ Σ (accounts_of m accts) (λ a. 3 * h)
  unfolding accounts_of
  of_member_lem m = omega (arith, member_bound f (accounts_of m accts) h (λ a l. b a (mem_keep _ accts l).0), Σ-const (accounts_of m accts) (3 * h))

  members_bound : (m n : ℕ) → Σ (range_with_len m n) (λ i. nat_abs (member_eul f (accounts_of i accts))) ≤ 3 * h * length accts
  unfolding accounts_of
  members_bound m n =
      omega (
        arith,
        Σ-mono (range_with_len m n) _ _ (λ i k. of_member_lem i),
        Σ-classes (λ a. a.heading.member) m n accts (λ a. 3 * h),
        Σ-const accts (3 * h),
      )

-- an account's amounts are within a limit
pub record Limited (most : ℕ) (a : Account) : Type 0 where
  pub npv : (i : ℕ) → i < length a.npvs → nat_abs (get_or a.npvs i (pos 0)) ≤ most
  pub margin : a.margin ≤ most
  pub extra : a.extra ≤ a.margin

-- what row 6 leaves
pub limited : (a : Account) → bad_amount a ≡ false → Limited limit a
unfolding bad_amount
limited a e =
    let (h, x) = neither _ _ e in
    let (n, m) = neither _ _ h in
    record {
      npv = λ i k. npv_limit (get_or a.npvs i (pos 0)) (any_false npv_outside n (mem_at a.npvs (pos 0) k));
      margin = (inside _ _ a.margin m).1;
      extra = ltb-false a.margin a.extra x;
    }

-- so its own EUL is within twice the limit
pub eul_abs : {most fall margin extra : ℕ} → fall ≤ 2 * most → margin ≤ most → extra ≤ margin → nat_abs (eul_of fall margin extra) ≤ 2 * most
unfolding eul_of
eul_abs {most} {fall} {margin} {extra} h k l =
    let less = pos fall -ℤ pos margin in
    let more = less +ℤ pos extra in
    omega (arith, sub (pos fall) (pos margin), add less (pos extra), one_zero more, abs_is more)

module _ {most : ℕ} {a : Account} (l : Limited most a) where
  decrease_le : (j : ℕ) → decrease a.npvs j ≤ 2 * most
  unfolding decrease
  decrease_le j =
      let at = at_any (λ z. nat_abs z ≤ most) a.npvs (pos 0) (omega arith) l.npv in
      let b = base a.npvs in
      let s = stress a.npvs j in
      omega (arith, at 0, at j, ⁺-sub b s)

  own_abs : (k : ℕ) → nat_abs (own_eul k a) ≤ 2 * most
  unfolding own_eul largest_decrease
  own_abs k = eul_abs (greatest_le (range_with_len 1 k) _ _ (λ j m. decrease_le j)) l.margin l.extra

-- the total of a day whose accounts are all within a limit
module _ (most : ℕ) (accts : List Account) (l : (a : Account) → a ∈ accts → Limited most a) where
  owns : (k m n : ℕ) → Σ (range_with_len m n) (λ i. nat_abs (member_own k accts i)) ≤ 3 * most * length accts
  unfolding member_own
  owns k = members_bound (own_eul k) accts most (λ a m. own_abs (l a m) k)

  pub total_bound : (o : Opening) → total o accts ≤ 3 * most * length accts
  unfolding total loss
  total_bound o = omega (arith, Σ-mono (members o.n) _ _ (λ m i. ⁺-abs (member_own o.k accts m)), owns o.k 1 o.n)

-- at most 256 accounts, within document 01's limit
pub total_small : (accts : List Account) → ((a : Account) → a ∈ accts → bad_amount a ≡ false) → length accts ≤ 256 → (o : Opening) → total o accts ≤ 256 * 3 * limit
total_small accts b h o = omega (arith, total_bound limit accts (λ a m. limited a (b a m)) o)
