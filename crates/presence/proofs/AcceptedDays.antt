-- An accepted day, by the rows that let it pass: who is present has a house account, and who is absent no account. So an absent member's EULs
-- are those of no account, 0 under every scenario and its own, and it is in no sum.
use mathlib.Core.Path.{◌≡◌, refl, ap, ◌∙◌}
use mathlib.Core.Bool.{Bool, true, false, not}
use mathlib.Core.List.{List, [], ◌∷◌}
use Prim.Native.Nat.{ℕ, ◌*◌, ◌≤◌, ◌<◌}
use native.Mathlib.Omega.{arith}
use lib.IntN.{ℤ, pos}
use lib.Dec.{eqb}
use lib.ListN.{length, replicate}
use borrow.Author.Tests.{lt-ltb, eqb-true, eqb-false}
use Rattle.std.specs.Prelude.{Err}
use Rattle.std.specs.List.{list_any}
use Rattle.numbers.specs.Lists.{descending}
use Rattle.numbers.specs.Sums.{Σ, Σℤ}
use Rattle.numbers.specs.Rounding.{ceil_div, round_div}
use Rattle.numbers.proofs.Lists.{mem_at, by_index, any_false, some_any, range_mem, keep_none}
use Rattle.numbers.proofs.Rounding.{ceil_le, round_le}
use Rattle.numbers.proofs.Sums.{Σ-left_out, Σℤ-left_out}
use Rattle.methodology.specs.declared.Opening.{Opening}
use Rattle.methodology.specs.declared.Heading.{Heading}
use Rattle.methodology.specs.declared.Refusal.TheVariants.{OutOfTurn, BadLengths, BadHeading}
use Rattle.methodology.specs.Account.{members, present, nobody, DayInput, Account, account_at, accounts}
use Rattle.methodology.specs.Member.{accounts_of, house_eul, half_of_clients, two_largest_of_r, part_b, part_c, member_eul, member_under, member_own, loss}
use Rattle.methodology.specs.Day.{total, group_of, group_sum, share, value, reserve, estimate, five}
use Rattle.methodology.specs.Refusals.{clear, row◌when◌else◌, is_open, bad_output, member_outside, bad_heading, first_bad_heading, account_rows, day_refusal}
use Rattle.methodology.specs.Register.{Call, Register, last_number, refusal}
use Rattle.methodology.proofs.Passed.{passed, inside}
use Rattle.methodology.proofs.RowLimits.{accounts_long}
use Rattle.fund.proofs.Dailies.{five_none, five_some}
use Rattle.validation.specs.Slices.{no_account}
use Rattle.validation.specs.Passing.{Passes}
use Rattle.validation.proofs.Amounts.{accounts_at}
use Rattle.validation.proofs.DayPasses.{passes, sized}
use Rattle.validation.proofs.Headings.{all_fine}
use Rattle.validation.proofs.Missing.{no_account_if, account_where_present, house_where_present}
use Rattle.presence.specs.Presence.{DayHas}

-- ---- of no account

member_none : (eul : Account → ℤ) → member_eul eul [] ≡ pos 0
unfolding member_eul house_eul half_of_clients two_largest_of_r part_b part_c Σ Σℤ descending ceil_div
member_none eul = refl

under_none : (accts : List Account) (m j : ℕ) → accounts_of m accts ≡ [] → member_under accts m j ≡ pos 0
unfolding member_under
under_none accts m j e = rw e (member_none _)

pub loss_none : (k : ℕ) (accts : List Account) (m : ℕ) → accounts_of m accts ≡ [] → loss k accts m ≡ 0
unfolding loss member_own
loss_none k accts m e = rw (e, member_none _) refl

-- a share, and cents, of a loss of 0
pub share_none : (T : ℕ) → 0 < T → share 0 T ≡ 0
unfolding share
share_none T some = omega (arith, ceil_le 0 T some 0 (omega arith))

cents_none : (Max T : ℕ) → 0 < T → round_div (0 * Max) T ≡ 0
cents_none Max T some = omega (arith, round_le (0 * Max) T some 0 (omega arith))

pub five_of_none : (Max T : ℕ) → five 0 Max T ≡ replicate 5 0
unfolding value reserve estimate
five_of_none Max T = by (eqb T 0) refl
  where
    by : (t : Bool) → eqb T 0 ≡ t → five 0 Max T ≡ replicate 5 0
    by true e = five_none 0 Max T (eqb-true T 0 e)
    by false e =
        let some : 0 < T = let other = eqb-false T 0 e in omega arith in
        let cents : value 0 Max T ≡ 0 = cents_none Max T some in  -- and so the other two
        five_some 0 Max T (eqb-false T 0 e) ∙ rw (share_none T some, cents) refl

-- ---- an accepted day

-- it meets none of the conditions
day_passed : (g : Register) (d : DayInput) (room : ℕ) → refusal g (Call.day d room) ≡ clear → Passes g.held (last_number g.days) d
unfolding refusal day_refusal
day_passed g d room e =
    let (_, r) = passed OutOfTurn (not (is_open g.status)) _ e in
    passes g.held (last_number g.days) d (passed BadLengths (bad_output g.held room) _ r).1

module _ (o : Opening) (last : ℕ) (d : DayInput) (p : Passes o last d) where
  abbrev number : ℕ
  number = d.terms.number

  abbrev accts : List Account
  accts = accounts o.k d

  some : 1 ≤ length d.headings
  some = (sized o d p.input).some

  no_account_lem : (m : ℕ) → present o number m ≡ false → accounts_of m accts ≡ []
  unfolding accounts_of account_at
  no_account_lem m absent =
      keep_none (λ (a : Account). eqb a.heading.member m) accts
      (by_index (λ (a : Account). eqb a.heading.member m ≡ false) accts no_account
      (λ i l.
      let here : i < length d.headings = omega (arith, l, accounts_long o.k d) in
      rw (accounts_at o.k d i here)
      (any_false (λ (h : Heading). eqb h.member m) (no_account_if o number d.headings p.headings m absent) (mem_at d.headings nobody here))))

  somebody : list_any (present o number) (members o.n) ≡ true
  somebody =
      let first = all_fine o number d.headings p.headings 0 some in
      some_any (present o number) (range_mem 1 o.n first.least (omega (arith, first.most))) first.there

  pub has : DayHas o number d.headings accts
  unfolding total group_sum
  has =
      record {
        account_where_present = account_where_present o number d.headings p.headings some p.complete;
        house_where_present = house_where_present o number d.headings p.headings some p.complete;
        somebody = somebody;
        no_account = no_account_lem;
        no_loss = λ m absent. loss_none o.k accts m (no_account_lem m absent);
        no_figures =
            λ m Max absent.
            ap (λ (e : ℕ). five e Max (total o accts)) (loss_none o.k accts m (no_account_lem m absent)) ∙ five_of_none Max (total o accts);
        total_of_present =
            Σ-left_out (present o number) (members o.n) (loss o.k accts) (λ m i absent. loss_none o.k accts m (no_account_lem m absent));
        group_sum_of_present =
            λ m j.
            Σℤ-left_out (present o number) (group_of o m) (λ m'. member_under accts m' j)
            (λ m' i absent. under_none accts m' j (no_account_lem m' absent));
      }

pub day_has : (g : Register) (d : DayInput) (room : ℕ) → refusal g (Call.day d room) ≡ clear
    → DayHas g.held d.terms.number d.headings (accounts g.held.k d)
day_has g d room e = has g.held (last_number g.days) d (day_passed g d room e)

-- ---- nobody there

first_bad : (o : Opening) (number : ℕ) (h : Heading) → list_any (present o number) (members o.n) ≡ false → bad_heading o number nobody h ≡ true
unfolding bad_heading
first_bad o number h e = by (member_outside o.n h) refl
  where
    by : (t : Bool) → member_outside o.n h ≡ t → bad_heading o number nobody h ≡ true
    by true q = rw q refl
    by false q =
        let (low, high) = inside 1 o.n h.member q in
        rw (q, any_false (present o number) e (range_mem 1 o.n low (omega (arith, high)))) refl

none_good : (o : Opening) (number : ℕ) (hs : List Heading) → 1 ≤ length hs → list_any (present o number) (members o.n) ≡ false
    → first_bad_heading o number nobody hs ≡ 0
unfolding first_bad_heading
none_good o number [] some e = let no_way : ⊥ = omega (arith, some) in absurd no_way
none_good o number (h ∷ hs) some e = rw (first_bad o number h e) refl

pub nobody_present : (o : Opening) (d : DayInput) → 1 ≤ length d.headings → list_any (present o d.terms.number) (members o.n) ≡ false
    → account_rows o d ≡ Err (BadHeading 0)
unfolding account_rows row◌when◌else◌
nobody_present o d some e = rw (none_good o d.terms.number d.headings some e, lt-ltb 0 (length d.headings) some) refl
