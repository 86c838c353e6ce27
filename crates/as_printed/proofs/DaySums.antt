-- The sums under a day are those of e, share, value, reserve and estimate over its members: a member's numbers stand in its stretch of what
-- the day wrote. So the first is T.
use mathlib.Core.Path.{◌≡◌, refl, sym, ap, ◌∙◌}
use mathlib.Core.Bool.{Bool, true, false}
use mathlib.Core.List.{List, [], ◌∷◌, flat_map}
use Prim.Native.Nat.{ℕ, ◌+◌, ◌-◌, ◌≤◌}
use native.Mathlib.Omega.{arith}
use lib.Dec.{eqb}
use lib.ListN.{length, get_or}
use borrow.Author.Tests.{eqb-true, eqb-false}
use Rattle.std.proofs.lemmas.List.FromFn.{length-range_with_len, get_or-range_with_len}
use Rattle.numbers.specs.Sums.{Σ}
use Rattle.numbers.proofs.Lists.{mem_range}
use Rattle.numbers.proofs.Rows.{rows_part}
use Rattle.numbers.proofs.Sums.{Σ-eq, Σ-zero}
use Rattle.methodology.specs.declared.Opening.{Opening}
use Rattle.methodology.specs.Account.{Account, members}
use Rattle.methodology.specs.Member.{loss}
use Rattle.methodology.specs.Day.{total, share, value, reserve, estimate, five, dailies}
use Rattle.methodology.specs.Text.{stretch, column_sum, totals}
use Rattle.fund.proofs.Dailies.{five_some, five_none, five_wide}
use Rattle.as_printed.specs.AsPrinted.{sums_of_five}

-- where each member's numbers are a row, its stretch is its row
pub stretch_is : (width : ℕ) (row : ℕ → List ℕ) → ((m : ℕ) → length (row m) ≡ width) → (n m : ℕ) → 1 ≤ m → m ≤ n
    → stretch width m (flat_map row (members n)) ≡ row m
stretch_is width row wide n m low high =
    let back : 1 + (m - 1) ≡ m = omega arith in
    rows_part width row (members n) (λ x i. wide x) (m - 1) 0 (omega (arith, length-range_with_len 1 n))
    ∙ ap row (get_or-range_with_len 1 n (m - 1) 0 (omega arith) ∙ back)

module _ (o : Opening) (Max : ℕ) (accts : List Account) where
  abbrev e : (m : ℕ) → ℕ
  e m = loss o.k accts m

  abbrev T : ℕ
  T = total o accts

  pub record_is : (m : ℕ) → 1 ≤ m → m ≤ o.n → stretch 5 m (dailies o Max accts) ≡ five (e m) Max T
  unfolding dailies
  record_is = stretch_is 5 (λ m. five (e m) Max T) (λ m. five_wide (e m) Max T) o.n

  column_is : (c : ℕ) → column_sum 5 o.n (dailies o Max accts) c ≡ Σ (members o.n) (λ m. get_or (five (e m) Max T) c 0)
  unfolding column_sum
  column_is c =
      Σ-eq (members o.n) _ _
      (λ m i. let (low, high) = mem_range 1 o.n i in ap (λ (l : List ℕ). get_or l c 0) (record_is m low (omega arith)))

  -- a column of the five on a day without losses, and on one with losses
  abbrev five_zeros : List ℕ
  five_zeros = 0 ∷ 0 ∷ 0 ∷ 0 ∷ 0 ∷ []

  column_none : T ≡ 0 → (c : ℕ) → get_or five_zeros c 0 ≡ 0 → column_sum 5 o.n (dailies o Max accts) c ≡ 0
  column_none none c is = column_is c ∙ Σ-zero (members o.n) _ (λ m i. ap (λ (l : List ℕ). get_or l c 0) (five_none (e m) Max T none) ∙ is)

  column_some : ¬ (T ≡ 0) → (c : ℕ)
      → column_sum 5 o.n (dailies o Max accts) c
      ≡ Σ (members o.n) (λ m. get_or (e m ∷ share (e m) T ∷ value (e m) Max T ∷ reserve (e m) Max T ∷ estimate (e m) Max T ∷ []) c 0)
  column_some some c = column_is c ∙ Σ-eq (members o.n) _ _ (λ m i. ap (λ (l : List ℕ). get_or l c 0) (five_some (e m) Max T some))

  pub sums_are_of_five : totals o.n (dailies o Max accts) ≡ sums_of_five o Max accts
  unfolding totals
  sums_are_of_five = by (eqb T 0) refl
    where
      by : (b : Bool) → eqb T 0 ≡ b → totals o.n (dailies o Max accts) ≡ sums_of_five o Max accts
      by true q = let none = column_none (eqb-true T 0 q) in rw (q, none 0 refl, none 1 refl, none 2 refl, none 3 refl, none 4 refl)
      by false q = let some = column_some (eqb-false T 0 q) in rw (q, some 0, some 1, some 2, some 3, some 4)

  pub first_sum_is_t : get_or (totals o.n (dailies o Max accts)) 0 0 ≡ total o accts
  unfolding total
  first_sum_is_t = by (eqb T 0) refl
    where
      by : (b : Bool) → eqb T 0 ≡ b → get_or (totals o.n (dailies o Max accts)) 0 0 ≡ T
      by true q = ap (λ (l : List ℕ). get_or l 0 0) sums_are_of_five ∙ rw q (sym (eqb-true T 0 q))
      by false q = ap (λ (l : List ℕ). get_or l 0 0) sums_are_of_five ∙ rw q refl
