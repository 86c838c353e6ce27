-- A day without losses is accepted as any other (document 02, Change 4): what the rows ask of a day says nothing of its losses (`day_accepted`).
-- And there is one in every open period, under any number above the last on which somebody is present (`there_is_one`): each member that is
-- present has its house account alone, and all amounts are 0. So each row's test and each loss is that of one such account.
use mathlib.Core.Path.{◌≡◌, refl, sym, ap, ◌∙◌}
use mathlib.Core.Bool.{Bool, true, false, not, ◌&&◌, cond}
use mathlib.Core.List.{List, ◌∷◌, map}
use Prim.Native.Nat.{ℕ, zero, suc, ◌+◌, ◌-◌, ◌*◌, ◌≤◌, ◌<◌}
use native.Mathlib.Omega.{arith}
use native.Mathlib.Nat.{mul-le-mul_right}
use lib.IntN.{pos}
use lib.Dec.{leb, eqb}
use lib.ListN.{length, get_or, replicate}
use borrow.Author.Tests.{eq-eqb, eqb-true, eqb-false, leb-true, le-ltb}
use Rattle.std.specs.List.{filter, list_any, range_with_len}
use Rattle.std.proofs.lemmas.Bool.Decides.{nat_tests}
use Rattle.std.proofs.lemmas.List.{get_or-map, length-map, length-replicate, drop-replicate, take-replicate}
use Rattle.std.proofs.lemmas.List.FromFn.{length-range_with_len}
use Rattle.std.proofs.lemmas.List.Sums.{position_or_len_is, length-filter, count_by-le-length}
use Rattle.numbers.proofs.Tests.{both}
use Rattle.numbers.proofs.Lists.{◌∈◌, mem_at, mem_some, by_index, range_mem, keep_mem, replicate_at, none_any, some_any, any_map}
use Rattle.methodology.specs.declared.Status.TheVariants.{Open}
use Rattle.methodology.specs.declared.Opening.{Opening}
use Rattle.methodology.specs.declared.Heading.{Heading}
use Rattle.methodology.specs.Account.{DayInput, Account, account_at, accounts, members, first_day, last_day, present, nobody, kind_h}
use Rattle.methodology.specs.Day.{total}
use Rattle.methodology.specs.Refusals.{clear, row◌when◌else◌, bad_day_number, passed_over, bad_heading, first_bad_heading, last_missing, npv_outside, bad_amount}
use Rattle.methodology.specs.Refusals.{account_rows, day_rows, day_refusal, opening_rows}
use Rattle.methodology.specs.Register.{Call, Register, last_number, refusal}
use Rattle.methodology.proofs.RowLimits.{accounts_long}
use Rattle.exposure.proofs.Bounds.{Limited, total_bound}
use Rattle.validation.specs.Slices.{no_account}
use Rattle.validation.specs.Passing.{Opened, Passes, those_present}
use Rattle.validation.proofs.Amounts.{accounts_at}
use Rattle.validation.proofs.Missing.{over_absent}
use Rattle.validation.proofs.OpeningPasses.{opening_leaves}
use Rattle.without_losses.specs.PutIn.{AcceptedWithout}

-- no condition of the rows is of T, or of a loss
pub day_accepted : (g : Register) (d : DayInput) (room : ℕ) → g.status ≡ Open → room ≡ 5 * g.held.n → Passes g.held (last_number g.days) d
    → refusal g (Call.day d room) ≡ clear
unfolding refusal day_refusal day_rows account_rows row◌when◌else◌
day_accepted g d room status wide p =
    let count = length d.headings in
    rw (status, eq-eqb room (5 * g.held.n) wide, p.input, p.number, p.headings, p.complete, p.amounts, le-ltb count count (omega arith)) refl

-- ---- the day

-- a member's house account, all of whose amounts are 0
abbrev pub house : (m : ℕ) → Heading
house m = record { member = m; number = 0; kind = kind_h }

abbrev pub quiet_account : (k m : ℕ) → Account
quiet_account k m = record { heading = house m; npvs = replicate (k + 1) (pos 0); margin = 0; extra = 0 }

-- the day on which each member that is present has this account alone
abbrev pub quiet_day : Opening → (number : ℕ) → DayInput
quiet_day o number =
    let count = length (those_present o number (members o.n)) in
    record {
      terms = record { number = number };
      headings = map house (those_present o number (members o.n));
      npvs = replicate (count * (o.k + 1)) (pos 0);
      margins = replicate count 0;
      extras = replicate count 0;
    }

module _ (o : Opening) (number : ℕ) where
  abbrev day : DayInput
  day = quiet_day o number

  abbrev those : List ℕ
  those = those_present o number (members o.n)

  count : length day.headings ≡ length those
  count = length-map those house

  quiet_at : (i : ℕ) → i < length those → account_at o.k day i ≡ quiet_account o.k (get_or those i 0)
  unfolding account_at
  quiet_at i l =
      let w = o.k + 1 in
      let n = length those in
      let whole : w ≤ n * w - i * w = omega (arith, mul-le-mul_right w l) in
      rw (
        get_or-map house those i 0 nobody l,
        drop-replicate (i * w) (n * w) (pos 0),
        take-replicate w (n * w - i * w) (pos 0) whole,
        replicate_at {A = ℕ} n i 0,
      )
      refl

  -- what such an account has, every account has
  each : (P : Account → Type 0) → ((m : ℕ) → P (quiet_account o.k m)) → (a : Account) → a ∈ accounts o.k day → P a
  each P h =
      by_index P (accounts o.k day) no_account
      (λ i l.
      let here : i < length those = omega (arith, l, accounts_long o.k day, count) in
      rw (accounts_at o.k day i (omega (arith, here, count)), quiet_at i here) (h (get_or those i 0)))

-- ---- the rows

-- row 5: the house account of a member that is present may stand behind another's where nobody present is between
follows : (o : Opening) (number m : ℕ) (prev : Heading) → prev.member < m → m ≤ o.n → present o number m ≡ true
    → passed_over o number prev.member m ≡ false → bad_heading o number prev (house m) ≡ false
unfolding bad_heading
follows o number m prev low high there none = grind (arith, nat_tests)

-- from member a on, where those between it and the one before are absent
good_headings : (o : Opening) (number a c : ℕ) (prev : Heading) → prev.member < a → a + c ≤ o.n + 1
    → ((m : ℕ) → prev.member < m → m < a → present o number m ≡ false)
    → let those = filter (present o number) (range_with_len a c) in first_bad_heading o number prev (map house those) ≡ length those
unfolding first_bad_heading
good_headings o number a zero prev low high absent = refl
good_headings o number a (suc c) prev low high absent =
    by (present o number a) refl
    (good_headings o number (a + 1) c (house a) (omega arith) (omega arith) (λ m h k. let no_way : ⊥ = omega (arith, h, k) in absurd no_way))
    (λ e. good_headings o number (a + 1) c prev (omega arith) (omega arith) (λ m h k. with_a e m h k (eqb m a) refl))
  where
    after : List ℕ
    after = filter (present o number) (range_with_len (a + 1) c)

    with_a : present o number a ≡ false → (m : ℕ) → prev.member < m → m < a + 1 → (t : Bool) → eqb m a ≡ t → present o number m ≡ false
    with_a e m h k true q = ap (present o number) (eqb-true m a q) ∙ e
    with_a e m h k false q = absent m h (let other = eqb-false m a q in omega (arith, k, other))

    by : (t : Bool) → present o number a ≡ t → first_bad_heading o number (house a) (map house after) ≡ length after
        → (present o number a ≡ false → first_bad_heading o number prev (map house after) ≡ length after)
        → first_bad_heading o number prev (map house (cond t (a ∷ after) after)) ≡ length (cond t (a ∷ after) after)
    by true e rest skip = rw (follows o number a prev low (omega (arith, high)) e (over_absent o number prev.member a absent)) (ap suc rest)
    by false e rest skip = skip e

-- row 6: no amount of the account is bad
good_amounts : (k m : ℕ) → bad_amount (quiet_account k m) ≡ false
unfolding bad_amount
good_amounts k m =
    let npvs = replicate (k + 1) (pos 0) in
    rw (none_any npv_outside npvs (by_index (λ z. npv_outside z ≡ false) npvs (pos 0) (λ i l. rw (replicate_at (k + 1) i (pos 0)) refl))) refl

-- each member that is present has an account
none_missing : (o : Opening) (number : ℕ) → last_missing o number (map house (those_present o number (members o.n))) ≡ false
unfolding last_missing
none_missing o number = none_any _ (members o.n) (λ m i. by m i (present o number m) refl)
  where
    by : (m : ℕ) → m ∈ members o.n → (t : Bool) → present o number m ≡ t
        → (t && not (list_any (λ (h : Heading). eqb h.member m) (map house (those_present o number (members o.n))))) ≡ false
    by m i false e = refl
    by m i true e =
        rw (
          any_map (λ (h : Heading). eqb h.member m) house (those_present o number (members o.n)),
          some_any (λ (x : ℕ). eqb x m) (keep_mem (present o number) i e) (eq-eqb m m refl),
        )
        refl

-- nobody is present after the last day of a month
not_after : (o : Opening) (number m : ℕ) → Opened o → 1 ≤ m → m ≤ o.n → present o number m ≡ true → number ≤ 31
unfolding present
not_after o number m l low high there =
    let (_, last) = both (leb (first_day o m) number) (leb number (last_day o m)) there in
    omega (arith, leb-true _ _ last, l.last_few (m - 1) (omega (arith, low, high)))

-- rows 4, 3, 5 and 6, where member m is present
quiet_passes : (o : Opening) (number last m : ℕ) → opening_rows o ≡ clear → last < number → 1 ≤ m → m ≤ o.n → present o number m ≡ true
    → Passes o last (quiet_day o number)
unfolding bad_day_number
quiet_passes o number last m e low one up there =
    let d = quiet_day o number in
    let p = present o number in
    let those = those_present o number (members o.n) in
    let l = opening_leaves o e in
    let some : 1 ≤ length those = mem_some (keep_mem p (range_mem 1 o.n one (omega (arith, up))) there) in
    let few : length those ≤ 32 =
    omega (arith, length-filter p (members o.n), count_by-le-length p (members o.n), length-range_with_len 1 o.n, l.in_limits.members_few) in
    let high : number ≤ 31 = not_after o number m l one up there in
    let all = accounts o.k d in
    record {
      input = rw (count o number, length-replicate (length those * (o.k + 1)) (pos 0), length-replicate {A = ℕ} (length those) 0) (grind (arith, nat_tests));
      number = grind (arith, nat_tests);
      headings =
          good_headings o number 1 o.n nobody (omega arith) (omega arith) (λ m h k. let no_way : ⊥ = omega (arith, h, k) in absurd no_way)
          ∙ sym (count o number);
      complete = none_missing o number;
      amounts =
          position_or_len_is bad_amount all (length all) no_account (omega arith)
          (λ i l. each o number (λ a. bad_amount a ≡ false) (good_amounts o.k) (get_or all i no_account) (mem_at all no_account l))
          (λ l. absurd (omega arith))
          ∙ accounts_long o.k d;
    }

-- ---- the losses

-- T is within what amounts of 0 allow
total_zero : (o : Opening) (number : ℕ) → total o (accounts o.k (quiet_day o number)) ≡ 0
total_zero o number =
    let limited : (m : ℕ) → Limited 0 (quiet_account o.k m) =
    λ m. record { npv = λ i h. rw (replicate_at (o.k + 1) i (pos 0)) (omega arith); margin = omega arith; extra = omega arith } in
    omega (arith, total_bound 0 (accounts o.k (quiet_day o number)) (each o number (Limited 0) limited) o)

-- ---- in every open period, whatever its days

pub there_is_one : (g : Register) (number m : ℕ) → g.status ≡ Open → opening_rows g.held ≡ clear → last_number g.days < number
    → 1 ≤ m → m ≤ g.held.n → present g.held number m ≡ true
    → (d : DayInput) × (d.terms.number ≡ number) × AcceptedWithout g d (5 * g.held.n)
there_is_one g number m status within low one up there =
    let d = quiet_day g.held number in
    let passes = day_accepted g d (5 * g.held.n) status refl (quiet_passes g.held number (last_number g.days) m within low one up there) in
    (d, refl, record { passes = passes; without = total_zero g.held number })
