-- Every report read back, by what it is made of: the lines of each accepted day add up, and what ends the report has no day's lines. With
-- it the claim is whole: `as_printed`.
use mathlib.Core.Path.{◌≡◌, refl, sym, ap, ap₂, subst, ◌∙◌}
use mathlib.Core.Bool.{Bool, true, false, cond, false≢true}
use mathlib.Core.List.{List, [], ◌∷◌, ◌++◌, map, flat_map, append-nil, append_assoc}
use Prim.Native.Nat.{ℕ, ◌+◌, ◌*◌, ◌≤◌, ◌<◌, ◌^◌}
use native.Mathlib.Nat.{add-zero}
use native.Mathlib.Omega.{arith}
use lib.ListN.{length, get_or, drop}
use Rattle.std.specs.List.{filter, AllByRecursion}
use Rattle.numbers.proofs.Lists.{every_append}
use Rattle.methodology.specs.Account.{DayInput, accounts}
use Rattle.methodology.specs.Day.{total}
use Rattle.methodology.specs.Contribution.{KeptDay, reported_max_eul, highest, counts, counted}
use Rattle.methodology.specs.Refusals.{clear}
use Rattle.methodology.specs.Register.{Call, Register, start, refusal, accept, step, returned, written}
use Rattle.methodology.specs.Text.{LF, bytes, same, split, fields, value_from, totals, report_of}
use Rattle.methodology.proofs.Passed.{step_clear}
use Rattle.methodology.proofs.Counted.{counted_nil, number_counted}
use Rattle.methodology.proofs.SoFar.{reported_is_m, day_reports}
use Rattle.methodology.proofs.Enough.{rises}
use Rattle.methodology.proofs.Reports.{day_call, closing_call, sized_lines, Rest, a_day_lem, a_fund, a_refusal, Report, a_period, no_period, days_told, reports}
use Rattle.exposure.proofs.MaxTotal.{own_none}
use Rattle.fund.proofs.RawCharge.{highest_none}
use Rattle.fund.proofs.Dailies.{dailies_long, five_some, five_none}
use Rattle.demand3.specs.Demand3.{Fits64}
use Rattle.demand3.proofs.RegisterFits.{Kept, kept_first, CallFits, call_fits, writes_few}
use Rattle.answers.proofs.Columns.{totals_fit}
use Rattle.as_printed.specs.AsPrinted.{Line, line_of, lines_of, day_numbers, has_fund, InDecimal, DayRead, lines_of_day, AddsUp, Other, FundSays, last_max, DaysAddUp, register_fed, members_in, ReadAsSummed, AsPrinted}
use Rattle.as_printed.proofs.DaySums.{record_is, sums_are_of_five, first_sum_is_t}
use Rattle.as_printed.proofs.ReadBack.{digits_alone, no_leading_zero, reads_back, reads_back_as_text}
use Rattle.as_printed.proofs.PrintedLines.{Shows}
use Rattle.as_printed.proofs.DayShown.{Told, as_read, day_shows, day_adds_up, day_told, past_day, none_told, Ends, fund_ends, refusal_ends}

-- ---- what is read back

-- `days` are those of the text, or those that are left of them
record ReadsBack (n before top : ℕ) (days report : List ℕ) : Type 0 where
  days_add_up : DaysAddUp n before top report
  days_shown : has_fund (lines_of report) ≡ true → day_numbers (lines_of report) ≡ days
  all_decimal : AllByRecursion InDecimal (split LF report)
  all_told : AllByRecursion Told (lines_of report)

-- nothing after the last LF
last_part : AllByRecursion InDecimal (split LF [])
unfolding split
last_part = (record { fields_are = refl; fit = tt }, tt)

ends_so : {n before top : ℕ} {days s : List ℕ} → Ends before top days s → ReadsBack n before top days s
unfolding flat_map split same bytes
ends_so {before = before} {top = top} {s = s} e =
    let lines = e.lines in
    let whole = subst (λ (l : List ℕ). lines_of l ≡ lines ++ lines_of []) (append-nil s) (e.shows.are []) in
    let no_day = every_append Other lines (lines_of []) e.other (refl, tt) in
    record {
      days_add_up =
          record {
            days = [];
            rest = lines ++ lines_of [];
            whole = whole;
            add_up = tt;
            never_fall = tt;
            no_day = no_day;
            all_there = rw add-zero (every_append (FundSays before top) lines (lines_of []) e.counts ((λ is. absurd (false≢true is)), tt));
          };
      days_shown = rw whole (λ fund. none_told (lines ++ lines_of []) no_day ∙ sym (e.none_left fund));
      all_decimal = subst (λ (l : List ℕ). AllByRecursion InDecimal (split LF l)) (append-nil s) (e.shows.decimal_too [] last_part);
      all_told = rw whole (every_append Told lines (lines_of []) e.told ((λ is. absurd (false≢true is)), tt));
    }

more_counted : (d : DayRead) (t : Bool) (before : ℕ) (ds : List DayRead)
    → let kept = filter (λ d. counts d.T) ds in
    cond t (before + 1) before + length kept ≡ before + length (cond t (d ∷ kept) kept)
more_counted d true before ds = omega arith
more_counted d false before ds = refl

day_so : {n before top : ℕ} {days s rest : List ℕ} {d : DayRead} → Shows s (lines_of_day d) → AddsUp n d → AllByRecursion Told (lines_of_day d)
    → top ≤ d.Max → (d.T ≡ 0 → d.Max ≡ top)
    → ReadsBack n (cond (counts d.T) (before + 1) before) d.Max days rest → ReadsBack n before top (d.number ∷ days) (s ++ rest)
unfolding flat_map
day_so {before = before} {rest = rest} {d = d} shows adds told higher stays more =
    let m = more.days_add_up in
    let one_more = more_counted d (counts d.T) before m.days in
    let (number, fund) = past_day d (lines_of rest) in
    record {
      days_add_up =
          record {
            days = d ∷ m.days;
            rest = m.rest;
            whole =
                shows.are rest ∙ ap (λ (l : List Line). lines_of_day d ++ l) m.whole
                ∙ sym (append_assoc (lines_of_day d) (flat_map lines_of_day m.days) m.rest);
            add_up = (adds, m.add_up);
            never_fall = (higher, stays, m.never_fall);
            no_day = m.no_day;
            all_there = subst (λ (D : ℕ). AllByRecursion (FundSays D (last_max d.Max m.days)) m.rest) one_more m.all_there;
          };
      days_shown = rw (shows.are rest) (λ is. number ∙ ap (λ (those : List ℕ). d.number ∷ those) (more.days_shown (sym fund ∙ is)));
      all_decimal = shows.decimal_too rest more.all_decimal;
      all_told = rw (shows.are rest) (every_append Told (lines_of_day d) (lines_of rest) told more.all_told);
    }

-- ---- the parts of a report

-- an accepted day, and the register as it leaves it
module _ {g : Register} (k : Kept g) (d : DayInput) (passes : refusal g (day_call g d) ≡ clear) where
  abbrev call : Call
  call = day_call g d

  abbrev after : Register
  after = step g call

  abbrev n : ℕ
  n = after.held.n

  abbrev out : List ℕ
  out = written after call

  abbrev T : ℕ
  T = total after.held (accounts after.held.k d)

  abbrev Max : ℕ
  Max = reported_max_eul after.held after.days

  -- what it reports is M of the days up to it, and not below M of those before it
  max_is_m : Max ≡ highest after.held after.days
  max_is_m = reported_is_m after.held after.days

  higher : highest g.held g.days ≤ Max
  higher = omega (arith, day_reports g d (5 * g.held.n) passes)

  -- and it is M of those where T is 0
  stays : T ≡ 0 → Max ≡ highest g.held g.days
  unfolding accept
  stays none =
      let T-none : total g.held (accounts g.held.k d) ≡ 0 = rw (step_clear g call passes) at none in
      omega (arith, day_reports g d (5 * g.held.n) passes, own_none g.held (accounts g.held.k d) T-none)

  fit : CallFits g call
  fit = call_fits k call

  few : n ≤ 32
  few = fit.kept.follows.good.members_few

  sums_fit : AllByRecursion Fits64 (totals n out)
  sums_fit = totals_fit n out few (writes_few k d (5 * g.held.n) passes)

  day_back : Shows (sized_lines after d call) (lines_of_day (as_read d.terms.number n T Max out))
  unfolding returned
  day_back =
      let number = rises g d (5 * g.held.n) passes in
      day_shows d.terms.number n T Max out (omega arith, fit.returned_fits passes) (fit.written_fits passes) sums_fit few

  day_sums : AddsUp n (as_read d.terms.number n T Max out)
  unfolding written
  day_sums = day_adds_up d.terms.number n T Max out (dailies_long after.held Max _) (first_sum_is_t after.held Max _)
      (λ none m low high. record_is after.held Max _ m low high ∙ five_none _ Max T none)
      (λ some m low high. rw (record_is after.held Max _ m low high, five_some _ Max T (λ none. omega (arith, none))) refl)

  no_refusal : AllByRecursion Told (lines_of_day (as_read d.terms.number n T Max out))
  no_refusal = day_told d.terms.number n T Max out

  summed : ReadAsSummed after d call
  unfolding returned
  summed =
      record {
        sums_fit = sums_fit;
        reads = rw append-nil at (day_back.are []);
      }

rest_back : {last : ℕ} {g : Register} {days s : List ℕ} → last < 2 ^ 32 → Kept g → Rest last g days s
    → ReadsBack g.held.n (length (counted g.held g.days)) (highest g.held g.days) days s
unfolding accept returned
rest_back {g = g} near k (a_day_lem {days = days} {rest = rest} d passes more) =
    let call = day_call g d in
    let after = step g call in
    let members = ap (λ (x : Register). x.held.n) (step_clear g call passes) in
    let D = length (counted g.held g.days) in
    let count : length (counted after.held after.days) ≡ cond (counts (T k d passes)) (D + 1) D =
    rw (step_clear g call passes) (number_counted g.held _ g.days) in
    let top = highest g.held g.days in
    let later = rest_back near (fit k d passes).kept more in
    let reported = subst (λ (top : ℕ). ReadsBack after.held.n (length (counted after.held after.days)) top days rest) (sym (max_is_m k d passes)) later in
    let counted = subst (λ (before : ℕ). ReadsBack after.held.n before (Max k d passes) days rest) count reported in
    subst (λ (n : ℕ). ReadsBack n D top (d.terms.number ∷ days) (sized_lines after d call ++ rest)) members
    (day_so (day_back k d passes) (day_sums k d passes) (no_refusal k d passes) (higher k d passes) (stays k d passes) counted)
rest_back {g = g} near k (a_fund passes) =
    let call = closing_call g in
    let after = step g call in
    let fit = call_fits k call in
    let few = fit.kept.follows.good.members_few in
    let first_two = ap (λ (x : Register). length (counted x.held x.days) ∷ highest x.held x.days ∷ []) (step_clear g call passes) in
    ends_so (fund_ends after.held.n (returned after call) (written after call) (fit.returned_fits passes) (fit.written_fits passes) few first_two)
rest_back near k (a_refusal met line in-text) = ends_so (refusal_ends met line (omega arith))

report_back : {n last : ℕ} {days s : List ℕ} → last < 2 ^ 32 → Report n last days s → ReadsBack n 0 0 days s
unfolding accept
report_back {n} {days = those} {s = s} near (a_period o is few passes rest) =
    let after = step start (Call.opening o) in
    let members = ap (λ (x : Register). x.held.n) (step_clear start (Call.opening o) passes) ∙ is in
    let days : after.days ≡ [] = ap (λ (x : Register). x.days) (step_clear start (Call.opening o) passes) in
    let none : counted after.held after.days ≡ [] = rw days (counted_nil after.held) in
    let back = rest_back near (call_fits kept_first (Call.opening o)).kept rest in
    let of-all = subst (λ (n : ℕ). ReadsBack n (length (counted after.held after.days)) (highest after.held after.days) those s) members back in
    let from_0 = subst (λ (counting : List KeptDay). ReadsBack n (length counting) (highest after.held after.days) those s) none of-all in
    subst (λ (top : ℕ). ReadsBack n 0 top those s) (highest_none after.held after.days none) from_0
report_back near (no_period met line in-text) = ends_so (refusal_ends met line (omega arith))

-- the number of members, off the text's first line
told : (fs : List (List ℕ)) → value_from 0 (get_or fs 1 []) ≡ get_or (map (value_from 0) (drop 1 fs)) 0 0
unfolding value_from
told [] = refl
told (f ∷ []) = refl
told (f ∷ g ∷ fs) = refl

-- and its days, off its day lines
days_read : (ls : List (List ℕ)) → days_told ls ≡ day_numbers (map line_of ls)
days_read [] = refl
days_read (l ∷ ls) = by (same (line_of l).word (bytes "day")) refl (days_read ls)
  where
    by : (b : Bool) → same (line_of l).word (bytes "day") ≡ b → days_told ls ≡ day_numbers (map line_of ls)
        → days_told (l ∷ ls) ≡ day_numbers (map line_of (l ∷ ls))
    by true e is = rw e (ap₂ ◌∷◌ (told (fields l)) is)
    by false e is = rw e is

every_report : (text : List ℕ) → ReadsBack (members_in text) 0 0 (day_numbers (lines_of text)) (report_of text)
every_report text =
    let back = report_back (omega arith) (reports text) in
    let of-all = subst (λ (n : ℕ). ReadsBack n 0 0 (days_told (split LF text)) (report_of text)) (told (fields (get_or (split LF text) 0 []))) back in
    subst (λ (days : List ℕ). ReadsBack (members_in text) 0 0 days (report_of text)) (days_read (split LF text)) of-all

pub refusals_told : (text : List ℕ) → AllByRecursion Told (lines_of (report_of text))
refusals_told text = (every_report text).all_told

-- ---- the claim

kept_after : {g : Register} → Kept g → (calls : List Call) → Kept (register_fed g calls)
kept_after k [] = k
kept_after {g = g} k (c ∷ cs) = kept_after {g = step g c} (call_fits k c).kept cs

pub as_printed : AsPrinted
as_printed =
    record {
      record_is = record_is;
      sums_are_of_five = sums_are_of_five;
      first_sum_is_t = first_sum_is_t;
      digits_alone = digits_alone;
      no_leading_zero = no_leading_zero;
      reads_back = reads_back;
      reads_back_as_text = reads_back_as_text;
      accepted_fits =
          λ calls c passes.
          let f = call_fits (kept_after kept_first calls) c in
          record { returned_fits = f.returned_fits passes; written_fits = f.written_fits passes };
      read_as_summed = λ calls. summed (kept_after kept_first calls);
      all_decimal = λ text. (every_report text).all_decimal;
      days_add_up = λ text. (every_report text).days_add_up;
      days_shown = λ text. (every_report text).days_shown;
    }
