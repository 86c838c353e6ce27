-- Document 02, Change 7: "Opening now takes a first and a last day for each member, 1 to 31 [..]. On other days it has no accounts, losses or
-- shares, and an account for it is bad by row 5, as is a missing house account of a present member. Its five numbers on such a day are 0, and
-- the day counts as share 0 in the mean." Of this the definitions say which openings rows 1 and 10 let pass, and which accounts row 5 does
-- (`present` in Account.antt). `Presence` states what follows, of openings, days, closings and reports. That an absent member is no fault, so
-- that in every open period a day is accepted wherever somebody is present, says `there_is_one` in WithoutLosses.antt; that with everybody
-- present all is as before, `AsBefore` in AsBefore.antt, among the proofs.
use Rattle.std.specs.Prelude.{true, false, ◌≡◌, ℕ, ◌+◌, ◌^◌, ◌≤◌, ◌<◌, length, get_or, replicate, Err}
use mathlib.Core.List.{List, [], ◌∷◌, ◌++◌}
use Rattle.std.specs.List.{filter, list_any}
use Rattle.numbers.specs.Sums.{Σ, Σℤ}
use Rattle.methodology.specs.declared.Opening.{Opening}
use Rattle.methodology.specs.declared.Heading.{Heading}
use Rattle.methodology.specs.Account.{members, first_day, last_day, present, DayInput, Account, accounts}
use Rattle.methodology.specs.Member.{accounts_of, member_under, loss}
use Rattle.methodology.specs.Day.{total, group_of, group_sum, share, five}
use Rattle.methodology.specs.Contribution.{KeptDay, highest, counted, charge}
use Rattle.methodology.specs.declared.Refusal.TheVariants.{BadHeading, BadPresence}
use Rattle.methodology.specs.Refusals.{clear, is_open, n_outside, k_outside, group_outside, bad_opening, account_rows}
use Rattle.methodology.specs.Register.{Call, Register, start, refusal, accepted, refused_at}
use Rattle.methodology.specs.Text.{stretch, refused_line, report_of}
use Rattle.validation.specs.Passing.{has_account, has_house, those_present}
use Rattle.period.specs.declared.Period.{Period}
use Rattle.period.specs.Calls.{held_by, status_of}
use Rattle.period.specs.Follows.{Reached}
use Rattle.demand3.specs.Made.{Asked, Made}
use Rattle.demand3.specs.Demand3.{raw_in, Holds, register_after}
use Rattle.not_begun.specs.NotBegun.{opening_lines}

-- ---- first and last days

-- Not "A first day above the last, or either outside 1 to 31".
pub record GoodPresence (o : Opening) (m : ℕ) : Type 0 where
  pub first_some : 1 ≤ first_day o m
  pub in_order : first_day o m ≤ last_day o m
  pub last_few : last_day o m ≤ 31

-- "the first such member's number"
pub record FirstBad (o : Opening) (m : ℕ) : Type 0 where
  pub least : 1 ≤ m
  pub most : m ≤ o.n
  pub bad : GoodPresence o m → ⊥
  pub good_before : (l : ℕ) → 1 ≤ l → l < m → GoodPresence o l

-- ---- a day

-- Of an accepted day of these accounts, under this number: "On other days it has no accounts", nor a loss, and "Its five numbers on such a day
-- are 0"; T is over those present, and so is a group's sum.
pub record DayHas (o : Opening) (number : ℕ) (headings : List Heading) (accts : List Account) : Type 0 where
  pub account_where_present : (m : ℕ) → 1 ≤ m → m ≤ o.n → has_account headings m ≡ present o number m
  pub house_where_present : (m : ℕ) → 1 ≤ m → m ≤ o.n → has_house headings m ≡ present o number m
  pub somebody : list_any (present o number) (members o.n) ≡ true
  pub no_account : (m : ℕ) → present o number m ≡ false → accounts_of m accts ≡ []
  pub no_loss : (m : ℕ) → present o number m ≡ false → loss o.k accts m ≡ 0
  pub no_figures : (m Max : ℕ) → present o number m ≡ false → five (loss o.k accts m) Max (total o accts) ≡ replicate 5 0
  pub total_of_present : total o accts ≡ Σ (those_present o number (members o.n)) (loss o.k accts)
  pub group_sum_of_present : (m j : ℕ) → group_sum o accts m j ≡ Σℤ (those_present o number (group_of o m)) (λ m'. member_under accts m' j)

-- ---- a closing

-- of those days, on which member m is present
abbrev pub days_present : Opening → (m : ℕ) → List KeptDay → List KeptDay
days_present o m days = filter (λ d. present o d.number m) days

-- The raw charge where "the day counts as share 0 in the mean": the sum is over the counted days on which the member is present, D over all
-- that count.
abbrev pub charge_by_days_present : Register → (m : ℕ) → ℕ
charge_by_days_present g m =
    let days = counted g.held g.days in
    charge (highest g.held g.days) (Σ (days_present g.held m days) (λ d. share (loss g.held.k d.accounts m) (total g.held d.accounts))) (length days)

-- ---- Change 7

pub record Presence : Type 0 where
  -- from its first day to its last, in plain bounds
  pub present_within : (o : Opening) (number m : ℕ) → present o number m ≡ true → (first_day o m ≤ number) × (number ≤ last_day o m)
  pub present_if : (o : Opening) (number m : ℕ) → first_day o m ≤ number → number ≤ last_day o m → present o number m ≡ true
  -- Row 1, of the lists: "n long", and it asks no more of them.
  pub lists_long : (o : Opening) → bad_opening o ≡ false → (length o.firsts ≡ o.n) × (length o.lasts ≡ o.n)
  pub row_1_passes : (o : Opening) → n_outside o.n ≡ false → k_outside o.k ≡ false → list_any group_outside o.groups ≡ false
      → length o.groups ≡ o.n → length o.firsts ≡ o.n → length o.lasts ≡ o.n → bad_opening o ≡ false
  -- an opening that rows 2 and 1 let pass is refused by 10 where some member's days are bad, and else accepted
  pub refused_by_10 : (g : Register) (o : Opening) (m : ℕ) → is_open g.status ≡ false → bad_opening o ≡ false → FirstBad o m
      → refusal g (Call.opening o) ≡ Err (BadPresence m)
  pub opens : (g : Register) (o : Opening) → is_open g.status ≡ false → bad_opening o ≡ false → ((m : ℕ) → 1 ≤ m → m ≤ o.n → GoodPresence o m)
      → refusal g (Call.opening o) ≡ clear
  -- the report of every text of such an opening, whatever follows its member lines: 10 "with that member's line"
  pub reported_by_10 : (o : Opening) (m : ℕ) (rest : List ℕ) → bad_opening o ≡ false → FirstBad o m
      → ((i : ℕ) → i < o.n → (get_or o.firsts i 0 < 10 ^ 13) × (get_or o.lasts i 0 < 10 ^ 13))
      → report_of (opening_lines o ++ rest) ≡ refused_line (BadPresence m) (1 + m)
  -- every day that the table lets pass, whatever the register holds; and one with accounts though nobody is present
  pub day_has : (g : Register) (d : DayInput) (room : ℕ) → refusal g (Call.day d room) ≡ clear
      → DayHas g.held d.terms.number d.headings (accounts g.held.k d)
  pub nobody_present : (o : Opening) (d : DayInput) → 1 ≤ length d.headings → list_any (present o d.terms.number) (members o.n) ≡ false
      → account_rows o d ≡ Err (BadHeading 0)
  -- Calls, in every list of which demand 3 holds; that is every list, of compiled calls too (`every_list`, `compiled_lists` in
  -- demand3/proofs/Demand3.antt). An opening is answered by 10 only "after 1", with the first such member's number.
  pub answered_by_10 : (cs : List Made) (c : Made) (o : Opening) (m : ℕ) → Holds start (cs ++ (c ∷ []))
      → c.asked ≡ Asked.opening o → c.answer ≡ refused_at 10 m
      → (is_open (register_after start cs).status ≡ false) × (bad_opening o ≡ false) × FirstBad o m
  -- what an accepted day writes of an absent member: "Its five numbers on such a day are 0"
  pub day_writes : (cs : List Made) (c : Made) (d : DayInput) (out figures : List ℕ) → Holds start (cs ++ (c ∷ []))
      → c.asked ≡ Asked.day d out → c.answer ≡ accepted figures
      → let g = register_after start cs in
      (m : ℕ) → 1 ≤ m → m ≤ g.held.n → present g.held d.terms.number m ≡ false → stretch 5 m c.after ≡ replicate 5 0
  -- the raw charge that an accepted closing writes of a member, and all that it writes of one that is absent on all days that count
  pub closing_charges : (cs : List Made) (c : Made) (out figures : List ℕ) → Holds start (cs ++ (c ∷ []))
      → c.asked ≡ Asked.closing out → c.answer ≡ accepted figures
      → let g = register_after start cs in
      (m : ℕ) → 1 ≤ m → m ≤ g.held.n → raw_in c.after m ≡ charge_by_days_present g m
  pub absent_throughout : (cs : List Made) (c : Made) (out figures : List ℕ) → Holds start (cs ++ (c ∷ []))
      → c.asked ≡ Asked.closing out → c.answer ≡ accepted figures
      → let g = register_after start cs in
      (m : ℕ) → 1 ≤ m → m ≤ g.held.n → days_present g.held m (counted g.held g.days) ≡ [] → stretch 3 m c.after ≡ 0 ∷ 50000000 ∷ 100000000 ∷ []
  -- Every period that calls returned holds first and last days in their ranges, and is in range while it is open: row 2 goes by its own status.
  pub held_presence : {p : Period} → Reached p → (m : ℕ) → 1 ≤ m → m ≤ p.held.n → GoodPresence (held_by p) m
  pub status_counts : {p : Period} → Reached p → is_open (status_of p) ≡ is_open p.status
