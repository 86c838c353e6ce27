-- What an accepted closing writes covers 110% of M and hardly more: the numbers read off the buffer are the definitions', of which
-- `Cover` in the crate `fund` has the bounds.
use mathlib.Core.Path.{◌≡◌, refl, sym, ap, ◌∙◌}
use mathlib.Core.List.{List, [], ◌∷◌}
use Prim.Native.Nat.{ℕ, ◌+◌, ◌-◌, ◌*◌, ◌≤◌, ◌<◌}
use native.Mathlib.Omega.{arith}
use lib.ListN.{length, get_or}
use Rattle.std.proofs.lemmas.List.FromFn.{length-range_with_len, get_or-range_with_len}
use Rattle.numbers.specs.Sums.{Σ}
use Rattle.numbers.specs.Fractions.{Proper}
use Rattle.numbers.proofs.Lists.{mem_range}
use Rattle.numbers.proofs.Rows.{rows_at, rows_length}
use Rattle.numbers.proofs.Sums.{Σ-eq}
use Rattle.methodology.specs.declared.Opening.{Opening}
use Rattle.methodology.specs.Account.{members}
use Rattle.methodology.specs.Contribution.{KeptDay, highest, counted, raw, funded, shortfall, allowance, three, contributions, total_funded}
use Rattle.methodology.specs.Register.{Call, Register, returned, written, accepted}
use Rattle.fund.proofs.Cover.{exact_proper, raw_least, raw_close, raws_least, raws_close, funded_sum}
use Rattle.demand3.specs.Demand3.{raw_in, funded_in, Covers}

pub three_wide : (r : ℕ) → length (three r) ≡ 3
unfolding three
three_wide r = refl

-- the numbers that stand in the buffer
module _ (o : Opening) (days : List KeptDay) where
  contributions_long : length (contributions o days) ≡ 3 * o.n
  unfolding contributions
  contributions_long =
      rows_length 3 (λ m. three (raw o days m)) (members o.n) (λ m i. three_wide (raw o days m)) ∙ ap (λ (x : ℕ). 3 * x) (length-range_with_len 1 o.n)

  module _ (m : ℕ) (low : 1 ≤ m) (high : m ≤ o.n) where
    number_at : (j : ℕ) → j < 3 → get_or (contributions o days) (3 * (m - 1) + j) 0 ≡ get_or (three (raw o days m)) j 0
    unfolding contributions
    number_at j h =
        rows_at 3 (λ m. three (raw o days m)) (members o.n) (λ x i. three_wide (raw o days x)) (m - 1) j 0 0 (omega (arith, length-range_with_len 1 o.n)) h
        ∙ ap (λ (x : ℕ). get_or (three (raw o days x)) j 0) (get_or-range_with_len 1 o.n (m - 1) 0 (omega arith) ∙ omega arith)

    pub raw_is : raw_in (contributions o days) m ≡ raw o days m
    unfolding three
    raw_is = ap (λ (x : ℕ). get_or (contributions o days) x 0) (omega arith) ∙ number_at 0 (omega arith)

    funded_is : funded_in (contributions o days) m ≡ funded (raw o days m)
    unfolding three
    funded_is = number_at 1 (omega arith)

  -- sums over all members of what is read off
  over_members : (f g : ℕ → ℕ) → ((m : ℕ) → 1 ≤ m → m ≤ o.n → f m ≡ g m) → Σ (members o.n) f ≡ Σ (members o.n) g
  over_members f g h = Σ-eq (members o.n) f g (λ m i. let b = mem_range 1 o.n i in h m b.0 (omega (arith, b.1)))

  raws_are : Σ (members o.n) (raw_in (contributions o days)) ≡ Σ (members o.n) (raw o days)
  raws_are = over_members _ _ raw_is

  fundeds_are : Σ (members o.n) (funded_in (contributions o days)) ≡ total_funded o days
  unfolding total_funded
  fundeds_are = over_members _ _ funded_is

  shortfalls_are : Σ (members o.n) (λ m. shortfall (raw_in (contributions o days) m)) ≡ Σ (members o.n) (λ m. shortfall (raw o days m))
  shortfalls_are = over_members _ _ (λ m low high. ap shortfall (raw_is m low high))

  excess_is : Σ (members o.n) (funded_in (contributions o days)) ≡ Σ (members o.n) (raw_in (contributions o days)) + Σ (members o.n) (λ m. shortfall (raw_in (contributions o days) m))
  unfolding total_funded
  excess_is = fundeds_are ∙ rw (raws_are, shortfalls_are) (funded_sum (members o.n) (raw o days))

allowance_proper : (M : ℕ) → Proper (allowance M)
unfolding allowance
allowance_proper M = omega arith

-- g is the register as the closing leaves it; it has members, but it may have no day that counts
pub covers : (g : Register) (room : ℕ) → 0 < g.held.n
    → Covers g (accepted (returned g (Call.closing room))) (written g (Call.closing room))
unfolding returned written
covers g room some =
    let o = g.held in
    let days = g.days in
    record {
      long = contributions_long o days;
      returns = ap (λ (funds : ℕ). accepted (length (counted o days) ∷ highest o days ∷ funds ∷ [])) (sym (fundeds_are o days));
      proper = λ m low high. exact_proper o days m;
      allowed = allowance_proper (highest o days);
      at_least = λ m low high. rw (raw_is o days m low high) (raw_least o days m);
      below = λ m low high. rw (raw_is o days m low high) (raw_close o days m);
      all_at_least = rw (raws_are o days) (raws_least o days);
      all_below = rw (raws_are o days) (raws_close o days some);
      excess = excess_is o days;
    }
