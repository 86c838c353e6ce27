-- Row 6: what it leaves of an NPV, the tests of the account at an index of a day, and the search for the first account with a bad amount:
-- none before i has one.
use mathlib.Core.Path.{◌≡◌, ◌∙◌}
use mathlib.Core.Bool.{Bool, true, false, ◌||◌}
use Prim.Native.Nat.{ℕ, ◌+◌, ◌-◌, ◌*◌, ◌≤◌, ◌<◌}
use native.Mathlib.Nat.{zero-add}
use native.Mathlib.Omega.{arith}
use lib.Dec.{ltb}
use lib.IntN.{ℤ, nat_abs}
use lib.ListN.{length, get_or, take, drop}
use Rattle.std.specs.List.{list_any, position_or_len}
use Rattle.std.proofs.lemmas.Bool.Decides.{nat_tests}
use Rattle.std.proofs.lemmas.Int.{ints}
use Rattle.std.proofs.lemmas.List.FromFn.{get_or-map-range_with_len}
use Rattle.std.proofs.lemmas.List.Sums.{position_or_len_is}
use Rattle.numbers.proofs.Lists.{NoneBefore, none_more}
use Rattle.methodology.specs.Account.{DayInput, account_at, accounts}
use Rattle.methodology.specs.Refusals.{limit, outside, npv_outside, bad_amount}
use Rattle.methodology.proofs.RowLimits.{accounts_long}
use Rattle.validation.specs.Slices.{no_account}

-- an NPV within its limits
pub npv_limit : (z : ℤ) → npv_outside z ≡ false → nat_abs z ≤ limit
npv_limit z e = grind (arith, ints, nat_tests)

module _ (k : ℕ) (d : DayInput) (i : ℕ) where
  -- the account at an index of a day, and its tests
  pub accounts_at : i < length d.headings → get_or (accounts k d) i no_account ≡ account_at k d i
  unfolding accounts
  accounts_at l = get_or-map-range_with_len (account_at k d) 0 (length d.headings) i i no_account l (zero-add i)

  pub bad_amount_at : i < length d.headings → bad_amount (get_or (accounts k d) i no_account)
      ≡ (list_any npv_outside (take (k + 1) (drop (i * (k + 1)) d.npvs))
      || outside 0 limit (get_or d.margins i 0)
      || ltb (get_or d.margins i 0) (get_or d.extras i 0))
  unfolding bad_amount account_at
  bad_amount_at l = rw (accounts_at l)

  -- the search: one account further, at a bad one, and at the end; the row of account i is lent from its start to its end
  abbrev bad_lent : Bool
  bad_lent =
      list_any npv_outside (take (i * (k + 1) + (k + 1) - i * (k + 1)) (drop (i * (k + 1)) d.npvs))
      || outside 0 limit (get_or d.margins i 0)
      || ltb (get_or d.margins i 0) (get_or d.extras i 0)

  lent : i < length d.headings → {b : Bool} → bad_lent ≡ b → bad_amount (get_or (accounts k d) i no_account) ≡ b
  lent l e =
      let wide : i * (k + 1) + (k + 1) - i * (k + 1) ≡ k + 1 = omega arith in
      bad_amount_at l ∙ rw wide at e

  pub amount_more : i < length d.headings → bad_lent ≡ false → NoneBefore bad_amount (accounts k d) no_account i → NoneBefore bad_amount (accounts k d) no_account (i + 1)
  amount_more l e = none_more bad_amount (accounts k d) no_account i (omega (arith, accounts_long k d)) (lent l e)

  pub amount_stop : i < length d.headings → bad_lent ≡ true → NoneBefore bad_amount (accounts k d) no_account i → position_or_len bad_amount (accounts k d) ≡ i
  amount_stop l e s = position_or_len_is bad_amount (accounts k d) i no_account s.high s.fails (λ h. lent l e)

  pub amount_end : length d.headings ≤ i → NoneBefore bad_amount (accounts k d) no_account i → position_or_len bad_amount (accounts k d) ≡ i
  amount_end l s = position_or_len_is bad_amount (accounts k d) i no_account s.high s.fails (λ h. absurd (omega (arith, accounts_long k d)))
