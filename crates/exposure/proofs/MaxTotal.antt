-- A day's own Max EUL is at most its total: no EUL under a scenario is above the member's loss, and a group is a part of the members. So it is
-- 0 on a day without losses, and M is the same over all days and over those that count (document 02, Change 4).
use mathlib.Core.Path.{◌≡◌, refl, sym, ap, ◌∙◌}
use mathlib.Core.Bool.{Bool, true, false, cond}
use mathlib.Core.List.{List, [], ◌∷◌}
use Prim.Native.Nat.{ℕ, ◌≤◌, max}
use native.Mathlib.Omega.{arith}
use lib.Dec.{eqb}
use borrow.Author.Tests.{ltb-false}
use Rattle.numbers.specs.Signed.{◌⁺}
use Rattle.std.specs.List.{filter}
use Rattle.numbers.specs.Sums.{Σ, greatest}
use Rattle.numbers.proofs.Lists.{◌∈◌}
use Rattle.numbers.proofs.Sums.{Σ-elem, Σ-mono, Σ-keep_le, Σℤ-⁺, greatest_le}
use Rattle.methodology.specs.declared.Opening.{Opening}
use Rattle.methodology.specs.Account.{Account, members, scenarios}
use Rattle.methodology.specs.Member.{member_under, loss}
use Rattle.methodology.specs.Day.{group_number, group_of, group_sum, own_max_eul, total}
use Rattle.methodology.specs.Contribution.{KeptDay, highest, counts, counted}
use Rattle.methodology.proofs.Counted.{counted_cons, counted_skip}
use Rattle.exposure.proofs.Monotone.{loss_le}

-- a figure summed over a member's group is at most the sum over all members
group_part : (o : Opening) (f : ℕ → ℕ) {m : ℕ} → m ∈ members o.n → Σ (group_of o m) f ≤ Σ (members o.n) f
unfolding group_of Σ
group_part o f {m} i = by (eqb (group_number o m) 0)
  where
    by : (t : Bool) → Σ (cond t (m ∷ []) (filter (λ m'. eqb (group_number o m') (group_number o m)) (members o.n))) f ≤ Σ (members o.n) f
    by true = omega (arith, Σ-elem f i)
    by false = Σ-keep_le _ (members o.n) f

module _ (o : Opening) (accts : List Account) where
  pub loss_le_total : {m : ℕ} → m ∈ members o.n → loss o.k accts m ≤ total o accts
  unfolding total
  loss_le_total i = Σ-elem (loss o.k accts) i

  under_le_total : {m j : ℕ} → m ∈ members o.n → j ∈ scenarios o.k → member_under accts m j ⁺ ≤ total o accts
  under_le_total {m} i l = omega (arith, loss_le o.k l accts m, loss_le_total i)

  group_le_total : {m j : ℕ} → m ∈ members o.n → j ∈ scenarios o.k → group_sum o accts m j ⁺ ≤ total o accts
  unfolding group_sum total
  group_le_total {m} {j} i l =
      omega (
        arith,
        Σℤ-⁺ (group_of o m) (λ m'. member_under accts m' j),
        Σ-mono (group_of o m) _ (loss o.k accts) (λ m' n. loss_le o.k l accts m'),
        group_part o (loss o.k accts) i,
      )

  pub max_le_total : own_max_eul o accts ≤ total o accts
  unfolding own_max_eul
  max_le_total =
      omega (
        arith,
        greatest_le (members o.n) _ (total o accts) (λ m i. greatest_le (scenarios o.k) _ (total o accts) (λ j l. under_le_total i l)),
        greatest_le (members o.n) _ (total o accts) (λ m i. greatest_le (scenarios o.k) _ (total o accts) (λ j l. group_le_total i l)),
      )

  -- where T is 0
  pub own_none : total o accts ≡ 0 → own_max_eul o accts ≡ 0
  own_none none = omega (arith, none, max_le_total)

module _ (o : Opening) where
  -- a day without losses raises no M
  pub highest_skip : (d : KeptDay) (days : List KeptDay) → total o d.accounts ≡ 0 → highest o (d ∷ days) ≡ highest o days
  unfolding highest greatest
  highest_skip d days none = omega (arith, own_none o d.accounts none)

  pub highest_counted : (days : List KeptDay) → highest o (counted o days) ≡ highest o days
  unfolding highest greatest counted
  highest_counted [] = refl
  highest_counted (d ∷ ds) = by (counts (total o d.accounts)) refl (highest_counted ds)
    where
      by : (t : Bool) → counts (total o d.accounts) ≡ t → highest o (counted o ds) ≡ highest o ds → highest o (counted o (d ∷ ds)) ≡ highest o (d ∷ ds)
      by true e h = rw (counted_cons o d ds e) (ap (max (own_max_eul o d.accounts)) h)
      by false e h = rw (counted_skip o d ds e) (h ∙ sym (highest_skip d ds (omega (arith, ltb-false 0 _ e))))
