-- What a day writes for a list of losses is `dailies`, when these are the members' losses of the day; where each share stands in it, and how
-- large a number can be, whichever Max EUL it is written by.
use mathlib.Core.Path.{◌≡◌, refl, ap, ◌∙◌}
use mathlib.Core.Bool.{Bool, true, false, cond}
use mathlib.Core.List.{List, [], ◌∷◌, map, flat_map}
use Prim.Native.Nat.{ℕ, ◌+◌, ◌*◌, ◌<◌, ◌≤◌}
use native.Mathlib.Omega.{arith}
use lib.Dec.{eqb}
use lib.ListN.{length, get_or, take}
use borrow.Author.Tests.{ne_eqb, eqb-true, eqb-false}
use Rattle.std.specs.List.{AllByRecursion}
use Rattle.std.proofs.lemmas.List.FromFn.{length-range_with_len, get_or-range_with_len}
use Rattle.numbers.specs.Rounding.{round_div}
use Rattle.numbers.proofs.Lists.{◌∈◌, every_flat_map}
use Rattle.numbers.proofs.Rows.{flat_map_map, rows_length, rows_at}
use Rattle.methodology.specs.declared.Opening.{Opening}
use Rattle.methodology.specs.Account.{Account, members}
use Rattle.methodology.specs.Member.{loss}
use Rattle.methodology.specs.Day.{total, scale, share, value, reserve, estimate, five, dailies}
use Rattle.quotient.specs.Ranges.{Loss, greatest_total}
use Rattle.quotient.proofs.QuotientBounds.{share_le, cents_le}
use Rattle.fund.specs.Shares.{share_in}

pub are_dailies : (o : Opening) (Max : ℕ) (accts : List Account) (losses : List ℕ) → take o.n losses ≡ map (loss o.k accts) (members o.n)
    → flat_map (λ e. five e Max (total o accts)) (take o.n losses) ≡ dailies o Max accts
unfolding dailies
are_dailies o Max accts losses h = rw (h, flat_map_map)

-- a member's five numbers, on a day with losses and on one without
pub five_some : (e top t : ℕ) → ¬ (t ≡ 0) → five e top t ≡ e ∷ share e t ∷ value e top t ∷ reserve e top t ∷ estimate e top t ∷ []
unfolding five
five_some e top t some = rw (ne_eqb t 0 some)

pub five_none : (e top t : ℕ) → t ≡ 0 → five e top t ≡ 0 ∷ 0 ∷ 0 ∷ 0 ∷ 0 ∷ []
unfolding five
five_none e top t none = rw none

pub five_wide : (e top t : ℕ) → length (five e top t) ≡ 5
unfolding five
five_wide e top t = by (eqb t 0)
  where
    by : (b : Bool) → length (cond b (0 ∷ 0 ∷ 0 ∷ 0 ∷ 0 ∷ []) (e ∷ share e t ∷ value e top t ∷ reserve e top t ∷ estimate e top t ∷ [])) ≡ 5
    by true = refl
    by false = refl

-- the most that a day writes: an estimate, where the greatest Max EUL is a member's
abbrev pub most_daily : ℕ
most_daily = 220 * greatest_total

abbrev pub Few : ℕ → Type 0
Few x = x ≤ most_daily

five_few : (e top t : ℕ) → Loss e t → top ≤ greatest_total → AllByRecursion Few (five e top t)
unfolding share value reserve estimate
five_few e top t l high = by (eqb t 0) refl
  where
    by : (b : Bool) → eqb t 0 ≡ b → AllByRecursion Few (five e top t)
    by true q = rw (five_none e top t (eqb-true t 0 q)) (omega arith, (omega arith, (omega arith, (omega arith, (omega arith, tt)))))
    by false q =
        let some = eqb-false t 0 q in
        let positive : 0 < t = omega arith in
        let cents : (f : ℕ) → round_div (f * e * top) t ≤ f * top = λ f. cents_le f e top t positive l.part in
        let shared = share_le scale e t positive l.part in
        rw (five_some e top t some)
        (omega (arith, l.part, l.bounded), (omega arith, (omega (arith, cents 100), (omega (arith, cents 110), (omega (arith, cents 220), tt)))))

module _ (o : Opening) (Max : ℕ) (accts : List Account) where
  pub dailies_few : ((m : ℕ) → m ∈ members o.n → Loss (loss o.k accts m) (total o accts)) → Max ≤ greatest_total → AllByRecursion Few (dailies o Max accts)
  unfolding dailies
  dailies_few l high = every_flat_map Few _ (members o.n) (λ m i. five_few _ _ _ (l m i) high)

  abbrev five_of : (m : ℕ) → List ℕ
  five_of m = five (loss o.k accts m) Max (total o accts)

  pub dailies_long : length (dailies o Max accts) ≡ 5 * o.n
  unfolding dailies
  dailies_long =
      rows_length 5 five_of (members o.n) (λ m i. five_wide (loss o.k accts m) Max (total o accts)) ∙ ap (λ (n : ℕ). 5 * n) (length-range_with_len 1 o.n)

  -- member i + 1's, on a day with losses
  pub share_written : ¬ (total o accts ≡ 0) → (i : ℕ) → i < o.n → share_in (dailies o Max accts) i ≡ share (loss o.k accts (1 + i)) (total o accts)
  unfolding dailies
  share_written some i h =
      rows_at 5 five_of (members o.n) (λ m k. five_wide (loss o.k accts m) Max (total o accts)) i 1 0 0
      (omega (arith, length-range_with_len 1 o.n)) (omega arith)
      ∙ ap (λ (m : ℕ). get_or (five_of m) 1 0) (get_or-range_with_len 1 o.n i 0 h)
      ∙ rw (five_some (loss o.k accts (1 + i)) Max (total o accts) some)
