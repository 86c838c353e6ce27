-- Finer shares beside exact and coarser ones: a share is near the exact fraction by the laws of rounding, and rounding it up once more gives the
-- coarser one. So the sums of both are near each other, and the charges. With it the claim is whole: `finer_shares`.
use mathlib.Core.Path.{◌≡◌, refl, sym, ap, subst, subst₂, ◌∙◌}
use mathlib.Core.List.{List, [], ◌∷◌, ◌++◌}
use Prim.Native.Nat.{ℕ, ◌+◌, ◌*◌, ◌≤◌, ◌<◌}
use native.Mathlib.Nat.{mul-le-mul_left, lt_of_mul-lt-mul_right}
use native.Mathlib.Omega.{arith}
use lib.ListN.{length, get_or}
use borrow.Author.Tests.{ne_eqb}
use Rattle.numbers.specs.Sums.{Σ}
use Rattle.numbers.specs.Fractions.{◌over◌, whole, ◌⊕◌, ◌≼◌, ◌≺◌}
use Rattle.numbers.specs.Rounding.{ceil_div}
use Rattle.numbers.proofs.Lists.{◌∈◌, none_or_some}
use Rattle.numbers.proofs.Rounding.{ceil_above, ceil_below, ceil_unique, ceil_le, ceil_ceil, ceil_factor}
use Rattle.numbers.proofs.Sums.{Σ-add, Σ-scale, Σ-const, Σ-mono}
use Rattle.methodology.specs.declared.Opening.{Opening}
use Rattle.methodology.specs.Account.{DayInput, accounts}
use Rattle.methodology.specs.Member.{loss}
use Rattle.methodology.specs.Day.{total, scale, share, five}
use Rattle.methodology.specs.Contribution.{KeptDay, highest, counted, sum_of_shares, raw, exact_charge}
use Rattle.methodology.specs.Register.{Call, Register, start, refusal, accept, step, returned, written, accepted, answer, buffer}
use Rattle.methodology.specs.Text.{decimal, stretch}
use Rattle.methodology.proofs.Passed.{step_clear}
use Rattle.methodology.proofs.Counted.{counted_some}
use Rattle.quotient.proofs.QuotientBounds.{share_le}
use Rattle.fund.proofs.Dailies.{five_some, five_wide}
use Rattle.fund.proofs.RawCharge.{raw_none}
use Rattle.fund.proofs.Cover.{raw_some, raw_least, raw_close}
use Rattle.demand3.specs.Made.{Asked, Made}
use Rattle.demand3.specs.Demand3.{raw_in, Holds, register_after}
use Rattle.demand3.proofs.Covering.{raw_is}
use Rattle.demand3.proofs.EveryList.{last_agrees}
use Rattle.answers.proofs.RefusalRows.{is_clear}
use Rattle.as_printed.proofs.ReadBack.{few_digits}
use Rattle.as_printed.proofs.DaySums.{stretch_is}
use Rattle.so_far.proofs.HighestSoFar.{of_day}
use Rattle.finer_shares.specs.FinerShares.{RoundedUp, DayWrites, coarser_scale, coarser_share, coarser_raw, coarser_allowance, Between, FinerShares}

-- ---- one share

module _ (e T : ℕ) (positive : 0 < T) where
  rounded_up : RoundedUp e T (share e T)
  unfolding share
  rounded_up =
      record {
        at_least = ceil_above (e * scale) T positive;
        below = omega (arith, ceil_below (e * scale) T positive);
      }

  no_other : (s : ℕ) → RoundedUp e T s → s ≡ share e T
  unfolding share
  no_other s r = ceil_unique (e * scale) T positive s r.at_least (omega (arith, r.below))

  sixteen_digits : e ≤ T → length (decimal (share e T)) ≤ 16
  unfolding share
  sixteen_digits part = few_digits 19 15 _ (omega (arith, share_le scale e T positive part))

  as_before : ceil_div (share e T) 1000 ≡ coarser_share e T
  unfolding share
  as_before =
      ceil_ceil (e * scale) T 1000 positive (omega arith)
      ∙ ap (λ (p : ℕ). ceil_div p (T * 1000)) (omega arith)
      ∙ ceil_factor (e * coarser_scale) T 1000 positive (omega arith)

  -- so a coarser share, in the finer one's parts, is above it by less than 1000
  share_no_more : share e T ≤ 1000 * coarser_share e T
  share_no_more = omega (arith, as_before, ceil_above (share e T) 1000 (omega arith))

  share_close : 1000 * coarser_share e T ≤ share e T + 1000
  share_close = omega (arith, as_before, ceil_below (share e T) 1000 (omega arith))

  never_further : share e T over scale ≼ coarser_share e T over coarser_scale
  never_further = omega (arith, share_no_more)

-- ---- charges

-- a charge by the sum S of finer shares over D days, and by the sum S' of coarser ones
module _ (M S S' D : ℕ) (some : 0 < D) where
  charge_at_most : S ≤ 1000 * S' → ceil_div (11 * M * S) (10 * D * scale) ≤ ceil_div (11 * M * S') (10 * D * coarser_scale)
  charge_at_most h =
      ceil_le (11 * M * S) (10 * D * scale) (omega arith) _
      (omega (arith, mul-le-mul_left (11 * M) h, ceil_above (11 * M * S') (10 * D * coarser_scale) (omega arith)))

  charge_lower_by : 1000 * S' ≤ S + 1000 * D
      → whole (ceil_div (11 * M * S') (10 * D * coarser_scale)) ≺ whole (ceil_div (11 * M * S) (10 * D * scale)) ⊕ coarser_allowance M
  charge_lower_by h =
      lt_of_mul-lt-mul_right D
      (omega (
        arith,
        mul-le-mul_left (11 * M) h,
        ceil_below (11 * M * S') (10 * D * coarser_scale) (omega arith),
        ceil_above (11 * M * S) (10 * D * scale) (omega arith),
      ))

module _ (o : Opening) (days : List KeptDay) (m : ℕ) where
  abbrev D : ℕ
  D = length (counted o days)

  abbrev finer : KeptDay → ℕ
  finer d = share (loss o.k d.accounts m) (total o d.accounts)

  abbrev coarser : KeptDay → ℕ
  coarser d = coarser_share (loss o.k d.accounts m) (total o d.accounts)

  positive : (d : KeptDay) → d ∈ counted o days → 0 < total o d.accounts
  positive d i = counted_some o days i

  sum_no_more : sum_of_shares o days m ≤ 1000 * Σ (counted o days) coarser
  unfolding sum_of_shares
  sum_no_more =
      omega (arith, Σ-mono (counted o days) finer (λ d. 1000 * coarser d) (λ d i. share_no_more _ _ (positive d i)), Σ-scale (counted o days) 1000 coarser)

  sum_close : 1000 * Σ (counted o days) coarser ≤ sum_of_shares o days m + 1000 * D
  unfolding sum_of_shares
  sum_close =
      omega (
        arith,
        Σ-scale (counted o days) 1000 coarser,
        Σ-mono (counted o days) (λ d. 1000 * coarser d) (λ d. finer d + 1000) (λ d i. share_close _ _ (positive d i)),
        Σ-add (counted o days) finer (λ d. 1000),
        Σ-const (counted o days) 1000,
      )

  -- the coarser charge where no day counts, and where some do
  coarser_none : counted o days ≡ [] → coarser_raw o days m ≡ 0
  coarser_none none = rw none refl

  coarser_some : 0 < D → coarser_raw o days m ≡ ceil_div (11 * highest o days * Σ (counted o days) coarser) (10 * D * coarser_scale)
  coarser_some some = rw (ne_eqb D 0 (λ e. omega (arith, e))) refl

  at_most : raw o days m ≤ coarser_raw o days m
  at_most =
      none_or_some (counted o days) (λ none. omega (arith, raw_none o days none m))
      (λ some. rw (raw_some o days some m, coarser_some some) (charge_at_most _ _ _ D some sum_no_more))

  lower_by : whole (coarser_raw o days m) ≺ whole (raw o days m) ⊕ coarser_allowance (highest o days)
  lower_by =
      none_or_some (counted o days) (λ none. omega (arith, coarser_none none))
      (λ some. rw (raw_some o days some m, coarser_some some) (charge_lower_by _ _ _ D some sum_close))

  charge_between : Between (exact_charge o days m) (highest o days) (raw o days m) (coarser_raw o days m)
  charge_between = record { at_least = raw_least o days m; below = raw_close o days m; at_most = at_most; lower_by = lower_by }

-- ---- the last call of a list

day_writes : (cs : List Made) (c : Made) (d : DayInput) (out : List ℕ) (T Max : ℕ) → Holds start (cs ++ (c ∷ []))
    → c.asked ≡ Asked.day d out → c.answer ≡ accepted (T ∷ Max ∷ []) → 0 < T
    → let g = register_after start cs in
    (m : ℕ) → 1 ≤ m → m ≤ g.held.n → DayWrites g.held (accounts g.held.k d) T c.after m
day_writes cs c d out T Max holds is said positive m low high =
    let o = (register_after start cs).held in
    let e : ℕ → ℕ = loss o.k (accounts o.k d) in
    let reports = of_day cs c d out T Max holds is said in
    let numbers =
    ap (stretch 5 m) reports.writes ∙ stretch_is 5 (λ m. five (e m) Max T) (λ m. five_wide (e m) Max T) o.n m low high
    ∙ five_some (e m) Max T (λ none. omega (arith, none)) in
    record {
      t_is = reports.t_is;
      loss_is = ap (λ (l : List ℕ). get_or l 0 0) numbers;
      share_is = subst (λ (l : List ℕ). RoundedUp (get_or l 0 0) T (get_or l 1 0)) (sym numbers) (rounded_up (e m) T positive);
    }

closing_writes : (cs : List Made) (c : Made) (out : List ℕ) (D M funds : ℕ) → Holds start (cs ++ (c ∷ []))
    → c.asked ≡ Asked.closing out → c.answer ≡ accepted (D ∷ M ∷ funds ∷ [])
    → let g = register_after start cs in
    (m : ℕ) → 1 ≤ m → m ≤ g.held.n
    → (raw_in c.after m ≡ raw g.held g.days m) × Between (exact_charge g.held g.days m) M (raw_in c.after m) (coarser_raw g.held g.days m)
unfolding answer buffer accept returned written
closing_writes cs c out D M funds holds is said m low high =
    let g = register_after start cs in
    let call = Call.closing (length out) in
    let agreed = last_agrees start cs c holds in
    let answered : answer g call ≡ accepted (D ∷ M ∷ funds ∷ []) = rw is at (sym agreed.answer ∙ said) in
    let (passes, same) = is_clear (refusal g call) _ _ answered in
    let left = step_clear g call passes in
    let m_is : highest g.held g.days ≡ M = sym (ap (λ (x : Register). highest x.held x.days) left) ∙ ap (λ (l : List ℕ). get_or l 1 0) same in
    let wrote : c.after ≡ written (step g call) call = agreed.buffer ∙ rw (is, passes) in
    let charged : raw_in c.after m ≡ raw g.held g.days m =
    ap (λ (l : List ℕ). raw_in l m) (wrote ∙ ap (λ (x : Register). written x call) left) ∙ raw_is g.held g.days m low high in
    let between : ℕ → ℕ → Type 0 = λ M finer. Between (exact_charge g.held g.days m) M finer (coarser_raw g.held g.days m) in
    (charged, subst₂ between m_is (sym charged) (charge_between g.held g.days m))

-- ---- the claim

pub finer_shares : FinerShares
finer_shares =
    record {
      rounded_up = rounded_up;
      no_other = λ e T s positive. no_other e T positive s;
      sixteen_digits = sixteen_digits;
      as_before = as_before;
      never_further = never_further;
      charge_between = charge_between;
      day_writes = day_writes;
      closing_writes = closing_writes;
    }
