-- The fund covers 110% of the highest Max EUL and hardly more: how close raw charges are to exact ones, one by one and together.
-- A share is rounded up, by less than 1: so a member's shares are near the exact ones, which make its charge, and a day's are near the scale.
-- Where no day counts every charge is 0, and so is M.
use mathlib.Core.Path.{◌≡◌, ◌∙◌}
use mathlib.Core.List.{List, []}
use Prim.Native.Nat.{ℕ, ◌+◌, ◌*◌, ◌≤◌, ◌<◌}
use native.Mathlib.Nat.{mul-pos}
use native.Mathlib.Omega.{arith}
use lib.ListN.{length}
use Rattle.std.proofs.lemmas.List.FromFn.{length-range_with_len}
use Rattle.numbers.specs.Sums.{Σ}
use Rattle.numbers.specs.Fractions.{Fraction, ◌over◌, whole, Proper, ◌⊕◌, ◌⊗◌, ◌≼◌, ◌≺◌, Σᶠ}
use Rattle.numbers.specs.Rounding.{ceil_div}
use Rattle.numbers.proofs.Lists.{◌∈◌, none_or_some}
use Rattle.numbers.proofs.Sums.{Σ-add, Σ-eq, Σ-zero, Σ-bound, Σ-least, Σ-swap}
use Rattle.numbers.proofs.Fractions.{Σᶠ-proper}
use Rattle.numbers.proofs.RoundedUp.{Σᶠ-ceil_above, Σᶠ-ceil_below, parts_above, parts_below}
use Rattle.methodology.specs.declared.Opening.{Opening}
use Rattle.methodology.specs.Account.{members}
use Rattle.methodology.specs.Member.{loss}
use Rattle.methodology.specs.Day.{total, scale, share}
use Rattle.methodology.specs.Contribution.{KeptDay, highest, counted, sum_of_shares, raw, funded, exact_charge, shortfall, allowance}
use Rattle.methodology.proofs.Counted.{counted_some}
use Rattle.fund.proofs.RawCharge.{highest_none, raw_none, exact_none, charge_some, exact_some}
use Rattle.fund.proofs.Charges.{charge_above, charge_below, charges_above, charges_below}

-- all that is used of the scale
scale_pos : 0 < scale
scale_pos = omega arith

-- the "sum of the member's e/T over these days", those that count, with nothing rounded
abbrev exact_shares : Opening → List KeptDay → (m : ℕ) → Fraction
exact_shares o days m = Σᶠ (counted o days) (λ d. loss o.k d.accounts m over total o d.accounts)

module _ (o : Opening) (days : List KeptDay) where
  abbrev D : ℕ
  D = length (counted o days)

  positive : (d : KeptDay) → d ∈ counted o days → 0 < total o d.accounts
  positive d i = counted_some o days i

  exact_shares_proper : (m : ℕ) → Proper (exact_shares o days m)
  exact_shares_proper m = Σᶠ-proper (counted o days) _ positive

  -- one member's shares: the scale times the exact ones, and at most 1 more a day
  shares_above : (m : ℕ) → whole scale ⊗ exact_shares o days m ≼ whole (sum_of_shares o days m)
  unfolding sum_of_shares share
  shares_above m = Σᶠ-ceil_above scale _ _ (counted o days) positive

  shares_below : (m : ℕ) → whole (sum_of_shares o days m) ≼ whole scale ⊗ exact_shares o days m ⊕ whole D
  unfolding sum_of_shares share
  shares_below m = Σᶠ-ceil_below scale _ _ (counted o days) positive

  -- all members' shares, day by day: the scale, and at most 1 more a member
  by_days : Σ (members o.n) (sum_of_shares o days) ≡ Σ (counted o days) (λ d. Σ (members o.n) (λ m. share (loss o.k d.accounts m) (total o d.accounts)))
  unfolding sum_of_shares
  by_days = Σ-swap (members o.n) (counted o days) _

  all_shares_above : D * scale ≤ Σ (members o.n) (sum_of_shares o days)
  unfolding share total
  all_shares_above = rw by_days (Σ-least (counted o days) _ _ (λ d i. parts_above scale (members o.n) (loss o.k d.accounts) (positive d i)))

  all_shares_below : Σ (members o.n) (sum_of_shares o days) ≤ D * (scale + length (members o.n))
  unfolding share total
  all_shares_below = rw by_days (Σ-bound (counted o days) _ _ (λ d i. parts_below scale (members o.n) (loss o.k d.accounts) (positive d i)))

  -- all raw charges together, where no day counts
  raws_none : counted o days ≡ [] → Σ (members o.n) (raw o days) ≡ 0
  raws_none none = Σ-zero (members o.n) (raw o days) (λ m i. raw_none o days none m)

  -- a raw charge, and all of them together, where some do
  pub raw_some : 0 < D → (m : ℕ) → raw o days m ≡ ceil_div (11 * highest o days * sum_of_shares o days m) (10 * D * scale)
  unfolding raw
  raw_some kept m = charge_some _ _ _ kept

  raws_some : 0 < D
      → Σ (members o.n) (raw o days) ≡ Σ (members o.n) (λ m. ceil_div (11 * highest o days * sum_of_shares o days m) (10 * D * scale))
  raws_some kept = Σ-eq (members o.n) _ _ (λ m i. raw_some kept m)

  -- an exact charge is a fraction
  pub exact_proper : (m : ℕ) → Proper (exact_charge o days m)
  exact_proper m =
      none_or_some (counted o days) (λ none. rw (exact_none o days none m) (omega arith))
      (λ kept. rw (exact_some o days m kept) (mul-pos {m = 10 * D} (omega arith) (exact_shares_proper m)))

  -- a raw charge is at least the exact charge, and less than that plus the allowance
  pub raw_least : (m : ℕ) → exact_charge o days m ≼ whole (raw o days m)
  raw_least m =
      none_or_some (counted o days) (λ none. rw (exact_none o days none m, raw_none o days none m) (omega arith))
      (λ kept.
      rw (exact_some o days m kept, raw_some kept m)
      (charge_above scale (highest o days) D scale_pos kept (sum_of_shares o days m) (exact_shares o days m) (shares_above m)))

  pub raw_close : (m : ℕ) → whole (raw o days m) ≺ exact_charge o days m ⊕ allowance (highest o days)
  unfolding allowance
  raw_close m =
      none_or_some (counted o days) (λ none. rw (exact_none o days none m, raw_none o days none m) (omega arith))
      (λ kept.
      rw (exact_some o days m kept, raw_some kept m)
      (charge_below scale (highest o days) D scale_pos kept (sum_of_shares o days m) (exact_shares o days m) (exact_shares_proper m) (shares_below m)))

  -- all raw charges together are at least 110% of M, and less than that plus n times the allowance
  pub raws_least : (11 * highest o days) over 10 ≼ whole (Σ (members o.n) (raw o days))
  raws_least =
      none_or_some (counted o days) (λ none. rw (highest_none o days none) (omega arith))
      (λ kept.
      rw (raws_some kept) (charges_above scale (highest o days) D scale_pos kept (members o.n) (sum_of_shares o days) all_shares_above))

  pub raws_close : 0 < o.n → whole (Σ (members o.n) (raw o days)) ≺ (11 * highest o days) over 10 ⊕ whole o.n ⊗ allowance (highest o days)
  unfolding allowance
  raws_close some =
      none_or_some (counted o days) (λ none. rw (raws_none none) (omega arith))
      (λ kept.
      rw (raws_some kept)
      (rw length-range_with_len at
      (charges_below scale (highest o days) D scale_pos kept (members o.n) (sum_of_shares o days) (rw length-range_with_len some) all_shares_below)))

-- the funded contributions exceed the raw charges by exactly the sum of the shortfalls, whatever the charges are
funded_is : (r : ℕ) → funded r ≡ r + shortfall r
unfolding funded shortfall
funded_is r = omega arith

pub funded_sum : {A : Type 0} (xs : List A) (r : A → ℕ) → Σ xs (λ x. funded (r x)) ≡ Σ xs r + Σ xs (λ x. shortfall (r x))
funded_sum xs r = Σ-eq xs _ _ (λ x i. funded_is (r x)) ∙ Σ-add xs r (λ x. shortfall (r x))
