-- A charge where no day counts, which is 0 as M is, and where some do, when it is the quotient: laws of `charge` and `exact_charge` for both.
use mathlib.Core.Path.{◌≡◌, sym, ap, ◌∙◌}
use mathlib.Core.Bool.{false}
use mathlib.Core.List.{List, []}
use Prim.Native.Nat.{ℕ, zero, suc, ◌*◌, ◌<◌, ◌≤◌}
use native.Mathlib.Omega.{arith}
use lib.Dec.{eqb}
use lib.ListN.{length}
use borrow.Author.Tests.{ne_eqb}
use Rattle.numbers.specs.Sums.{greatest}
use Rattle.numbers.specs.Fractions.{◌over◌, ◌⊗◌, Σᶠ}
use Rattle.numbers.specs.Rounding.{ceil_div}
use Rattle.methodology.specs.declared.Opening.{Opening}
use Rattle.methodology.specs.Member.{loss}
use Rattle.methodology.specs.Day.{total, scale}
use Rattle.methodology.specs.Contribution.{KeptDay, highest, counted, charge, raw, exact_charge}
use Rattle.exposure.proofs.MaxTotal.{highest_counted}
use Rattle.quotient.proofs.QuotientBounds.{raw_le}

-- ---- no day that counts

module _ (o : Opening) (days : List KeptDay) (none : counted o days ≡ []) where
  pub highest_none : highest o days ≡ 0
  unfolding highest greatest
  highest_none = sym (highest_counted o days) ∙ ap (highest o) none

  pub raw_none : (m : ℕ) → raw o days m ≡ 0
  unfolding raw charge
  raw_none m = rw none

  pub exact_none : (m : ℕ) → exact_charge o days m ≡ 0 over 1
  unfolding exact_charge
  exact_none m = rw none

-- ---- days that count

not_none : (D : ℕ) → 0 < D → eqb D 0 ≡ false
not_none D h = ne_eqb D 0 (λ e. omega (arith, e))

pub charge_some : (M S D : ℕ) → 0 < D → charge M S D ≡ ceil_div (11 * M * S) (10 * D * scale)
unfolding charge
charge_some M S D h = rw (not_none D h)

pub exact_some : (o : Opening) (days : List KeptDay) (m : ℕ) → 0 < length (counted o days)
    → exact_charge o days m
    ≡ (11 * highest o days) over (10 * length (counted o days)) ⊗ Σᶠ (counted o days) (λ d. loss o.k d.accounts m over total o d.accounts)
unfolding exact_charge
exact_some o days m h = rw (not_none (length (counted o days)) h)

-- ---- both

-- at most twice M, since a sum of shares is at most the scale a day
pub charge_le : (M S D : ℕ) → S ≤ D * scale → charge M S D ≤ 2 * M
unfolding charge
charge_le M S zero h = omega arith
charge_le M S (suc D) h = rw (charge_some M S (suc D) (omega arith)) (raw_le scale M S (suc D) (omega arith) (omega arith) h)
