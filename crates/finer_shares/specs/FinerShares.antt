-- Document 02, Change 6: "A member with a tiny share compares our fraction with its own to fifteen places. A share is now e × 10^15 / T rounded
-- up, and the divisor of a raw charge follows. The allowance for a charge becomes 1 dollar plus 1.1M/10^15, for each member and n times for
-- the fund." So the definitions have it, and demand 3's `Covers` the allowance. `FinerShares` is for those who compare: a member with a
-- fraction of its own, and whoever holds a month from before the change beside one after it. Off the bytes of a report `AsPrinted` says that
-- each share of a day with losses is that of the loss beside it and of T.
use Rattle.std.specs.Prelude.{◌≡◌, cond, ℕ, ◌*◌, ◌≤◌, ◌<◌, eqb, length, get_or}
use mathlib.Core.List.{List, [], ◌∷◌, ◌++◌}
use Rattle.numbers.specs.Sums.{Σ}
use Rattle.numbers.specs.Fractions.{Fraction, ◌over◌, whole, ◌⊕◌, ◌≼◌, ◌≺◌}
use Rattle.numbers.specs.Rounding.{ceil_div}
use Rattle.methodology.specs.declared.Opening.{Opening}
use Rattle.methodology.specs.Account.{DayInput, Account, accounts}
use Rattle.methodology.specs.Member.{loss}
use Rattle.methodology.specs.Day.{total, scale, share}
use Rattle.methodology.specs.Contribution.{KeptDay, highest, counted, raw, exact_charge, allowance}
use Rattle.methodology.specs.Register.{start, accepted}
use Rattle.methodology.specs.Text.{decimal, stretch}
use Rattle.demand3.specs.Made.{Asked, Made}
use Rattle.demand3.specs.Demand3.{raw_in, Holds, register_after}

-- ---- beside a member's own fraction

-- s parts of 10^15 are "e × 10^15 / T rounded up": e/T ≤ s/10^15 < e/T + 1/10^15
pub record RoundedUp (e T s : ℕ) : Type 0 where
  pub at_least : e over T ≼ s over scale
  pub below : s over scale ≺ e over T ⊕ 1 over scale

-- member m's loss and its share, the first two of its five numbers in what a day wrote
abbrev pub written_loss : (out : List ℕ) → (m : ℕ) → ℕ
written_loss out m = get_or (stretch 5 m out) 0 0

abbrev pub written_share : (out : List ℕ) → (m : ℕ) → ℕ
written_share out m = get_or (stretch 5 m out) 1 0

-- the T that a day of these accounts returned, and the loss and the share that it wrote of member m
pub record DayWrites (o : Opening) (accts : List Account) (T : ℕ) (out : List ℕ) (m : ℕ) : Type 0 where
  pub t_is : T ≡ total o accts
  pub loss_is : written_loss out m ≡ loss o.k accts m
  pub share_is : RoundedUp (written_loss out m) T (written_share out m)

-- ---- beside a month from before the change

-- "A member's share is e × 10^12 / T, rounded up."
abbrev pub coarser_scale : ℕ
coarser_scale = 1000000000000

abbrev pub coarser_share : (e T : ℕ) → ℕ
coarser_share e T = ceil_div (e * coarser_scale) T

-- "A raw charge is 11·M·(sum of the member's shares) / (10·D·10^12), rounded up", over the days that count (Change 4), and 0 where none does
-- (Change 2).
abbrev pub coarser_raw : Opening → List KeptDay → (m : ℕ) → ℕ
coarser_raw o days m =
    let S = Σ (counted o days) (λ d. coarser_share (loss o.k d.accounts m) (total o d.accounts)) in
    let D = length (counted o days) in
    cond (eqb D 0) 0 (ceil_div (11 * highest o days * S) (10 * D * coarser_scale))

-- "1 dollar plus 1.1M/10^12"
abbrev pub coarser_allowance : (M : ℕ) → Fraction
coarser_allowance M = whole 1 ⊕ (11 * M) over (10 * coarser_scale)

-- A raw charge between the exact one and the one by coarser shares: less than its own allowance above the first, and less than the coarser
-- allowance below the second.
pub record Between (exact : Fraction) (M finer coarser : ℕ) : Type 0 where
  pub at_least : exact ≼ whole finer
  pub below : whole finer ≺ exact ⊕ allowance M
  pub at_most : finer ≤ coarser
  pub lower_by : whole coarser ≺ whole finer ⊕ coarser_allowance M

-- ---- Change 6

pub record FinerShares : Type 0 where
  -- Of every loss and every T above 0: the share is the exact fraction rounded up at the fifteenth place, and no other number is.
  pub rounded_up : (e T : ℕ) → 0 < T → RoundedUp e T (share e T)
  pub no_other : (e T s : ℕ) → 0 < T → RoundedUp e T s → s ≡ share e T
  -- Where e is at most T it is printed with at most 16 digits, as 10^15 is.
  pub sixteen_digits : (e T : ℕ) → 0 < T → e ≤ T → length (decimal (share e T)) ≤ 16
  -- Rounded up again, to twelve places, it is the coarser share; so it is never further from the exact one than that.
  pub as_before : (e T : ℕ) → 0 < T → ceil_div (share e T) 1000 ≡ coarser_share e T
  pub never_further : (e T : ℕ) → 0 < T → share e T over scale ≼ coarser_share e T over coarser_scale
  -- Nor is any raw charge, of any list of days.
  pub charge_between : (o : Opening) (days : List KeptDay) (m : ℕ) → Between (exact_charge o days m) (highest o days) (raw o days m) (coarser_raw o days m)
  -- The same of calls, in every list of which demand 3 holds; that is every list, of compiled calls too (`every_list`, `compiled_lists` in
  -- demand3/proofs/Demand3.antt). An accepted day with losses writes these and their shares, and an accepted closing the raw charges.
  pub day_writes : (cs : List Made) (c : Made) (d : DayInput) (out : List ℕ) (T Max : ℕ) → Holds start (cs ++ (c ∷ []))
      → c.asked ≡ Asked.day d out → c.answer ≡ accepted (T ∷ Max ∷ []) → 0 < T
      → let g = register_after start cs in
      (m : ℕ) → 1 ≤ m → m ≤ g.held.n → DayWrites g.held (accounts g.held.k d) T c.after m
  pub closing_writes : (cs : List Made) (c : Made) (out : List ℕ) (D M funds : ℕ) → Holds start (cs ++ (c ∷ []))
      → c.asked ≡ Asked.closing out → c.answer ≡ accepted (D ∷ M ∷ funds ∷ [])
      → let g = register_after start cs in
      (m : ℕ) → 1 ≤ m → m ≤ g.held.n
      → (raw_in c.after m ≡ raw g.held g.days m) × Between (exact_charge g.held g.days m) M (raw_in c.after m) (coarser_raw g.held g.days m)
