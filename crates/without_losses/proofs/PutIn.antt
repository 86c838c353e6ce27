-- A day without losses put into a month (document 02, Change 4): it changes no figure of another call, and of refusals the number alone.
-- First the figures: each goes by the days that count, M too, and the day is none of them. Then the calls after it, one by one. The two
-- registers differ in this day alone. While it is the last accepted day its number is the last one, which is still below that of the next
-- day accepted; so only a day that is refused in any case may now be refused by row 3. From the next accepted day on the last numbers are
-- the same, and from the next accepted opening on the registers are.
use mathlib.Core.Path.{◌≡◌, refl, sym, ap, subst, ◌∙◌, fun_ext}
use mathlib.Core.Bool.{Bool, true, false, not, ◌||◌}
use mathlib.Core.List.{List, [], ◌∷◌, ◌++◌, flat_map}
use Prim.Native.Nat.{ℕ, ◌<◌, ◌≤◌}
use native.Mathlib.Omega.{arith}
use lib.Dec.{leb}
use borrow.Author.Tests.{leb-true, leb-false}
use Rattle.std.specs.Prelude.{Option, Ok, Err}
use Rattle.numbers.specs.Sums.{Σ}
use Rattle.methodology.specs.declared.Status.{Status}
use Rattle.methodology.specs.declared.Status.TheVariants.{Closed}
use Rattle.methodology.specs.declared.Refusal.{Refusal}
use Rattle.methodology.specs.declared.Refusal.TheVariants.{OutOfTurn, BadDayNumber, BadLengths, BadHeading, BadAmount}
use Rattle.methodology.specs.declared.Opening.{Opening}
use Rattle.methodology.specs.Account.{DayInput, members, accounts}
use Rattle.methodology.specs.Day.{total}
use Rattle.methodology.specs.Contribution.{KeptDay, counted, reported_max_eul, highest, sum_of_shares, raw, exact_charge, three, funded, contributions, total_funded}
use Rattle.methodology.specs.Refusals.{Verdict, clear, row◌when◌else◌, is_open, outside, bad_day_number, bad_input, bad_output, account_rows, day_rows, day_refusal, closing_refusal}
use Rattle.methodology.specs.Register.{Call, Register, last_number, refusal, accept, if_accepted, step, returned, written, refused, refused_by, answer_by}
use Rattle.methodology.proofs.Passed.{step_clear, answer_is, buffer_is, either}
use Rattle.methodology.proofs.Counted.{counted_skip, counted_append, counted_again}
use Rattle.methodology.proofs.SoFar.{reported_is_m}
use Rattle.methodology.proofs.Enough.{rises}
use Rattle.exposure.proofs.MaxTotal.{highest_counted}
use Rattle.without_losses.specs.PutIn.{SameFigures, AcceptedWithout, next_of, next_number, BelowNext, SameOr3, same, by_number, EachSameOr3}

-- ---- days

-- M is that of the days that count, so all figures go by these days
pub same_figures : (o : Opening) (days days' : List KeptDay) → counted o days ≡ counted o days' → SameFigures o days days'
unfolding raw sum_of_shares exact_charge contributions total_funded
same_figures o days days' counted_same =
    let m_same : highest o days ≡ highest o days' = sym (highest_counted o days) ∙ ap (highest o) counted_same ∙ highest_counted o days' in
    let raw_same : (m : ℕ) → raw o days m ≡ raw o days' m = λ m. rw (counted_same, m_same) in
    record {
      counted_same = counted_same;
      m_same = m_same;
      exact_same = λ m. rw (counted_same, m_same);
      raw_same = raw_same;
      contributions_same = ap (λ (r : ℕ → ℕ). flat_map (λ m. three (r m)) (members o.n)) (fun_ext raw_same);
      funded_same = ap (λ (r : ℕ → ℕ). Σ (members o.n) (λ m. funded (r m))) (fun_ext raw_same);
    }

-- the days that do not count may be left out
pub left_out : (o : Opening) (days : List KeptDay) → SameFigures o days (counted o days)
left_out o days = same_figures o days (counted o days) (sym (counted_again o days))

-- and one may be put in anywhere
pub put_into_days : (o : Opening) (later earlier : List KeptDay) (d : KeptDay) → total o d.accounts ≡ 0
    → SameFigures o (later ++ (d ∷ earlier)) (later ++ earlier)
put_into_days o later earlier d none =
    same_figures o _ _ (rw (counted_append o later (d ∷ earlier), counted_append o later earlier, counted_skip o d earlier (rw none refl)))

-- ---- the figures of a call, by the days that are kept after it

-- a register, and a day as it is kept
abbrev pub kept : Status → Opening → List KeptDay → Register
kept s o days = record { status = s; held = o; days = days }

abbrev pub kept_day : Opening → DayInput → KeptDay
kept_day o d = record { number = d.terms.number; accounts = accounts o.k d }

module _ (s : Status) (o : Opening) {days days' : List KeptDay} (f : SameFigures o days days') where
  reported_same : reported_max_eul o days ≡ reported_max_eul o days'
  reported_same = reported_is_m o days ∙ f.m_same ∙ sym (reported_is_m o days')

  pub returned_same : (c : Call) → returned (kept s o days) c ≡ returned (kept s o days') c
  unfolding returned
  returned_same (Call.opening o') = refl
  returned_same (Call.day d room) = rw reported_same
  returned_same (Call.closing room) = rw (f.counted_same, f.m_same, f.funded_same)

  pub written_same : (c : Call) → written (kept s o days) c ≡ written (kept s o days') c
  unfolding written
  written_same (Call.opening o') = refl
  written_same (Call.day d room) = rw reported_same
  written_same (Call.closing room) = f.contributions_same

-- ---- refusals

-- What the table says of a call without the day that has this number, and with it: both accept it, or both refuse it.
abbrev Alike : (number : ℕ) → Call → (without with : Verdict) → Type 0
Alike number c (Ok _) (Ok _) = Unit {0}
Alike number c (Ok _) (Err met) = ⊥
Alike number c (Err met) (Ok _) = ⊥
Alike number c (Err met) (Err met') = SameOr3 number c (refused_by met) (refused_by met')

alike_refl : (number : ℕ) (c : Call) (x : Verdict) → Alike number c x x
alike_refl number c (Ok _) = tt
alike_refl number c (Err met) = same

-- a day call, while the day that was put in is the last accepted one, and its number the last
module _ (last' : ℕ) (d : DayInput) (room : ℕ) where
  abbrev DayAlike : (without with : Verdict) → Type 0
  DayAlike = Alike last' (Call.day d room)

  -- a row with a condition of its own comes first
  row_alike : {P : Type 0} (met : Refusal) (b : Bool) (x y : Verdict) → (row met when b else x ≡ clear → P) → ((x ≡ clear → P) → DayAlike x y)
      → DayAlike (row met when b else x) (row met when b else y)
  unfolding row◌when◌else◌
  row_alike met true x y f h = same
  row_alike met false x y f h = h f

  -- row 3 comes first, by one last number or a later one; the rows after it have an index, and a day that they pass is above both
  Indexed : Verdict → Type 0
  Indexed (Ok _) = Unit {0}
  Indexed (Err met) = d.terms.number ≤ last' → SameOr3 last' (Call.day d room) (refused_by met) (refused 3)

  number_alike : (last : ℕ) (x : Verdict) → last < last' → Indexed x
      → (row BadDayNumber when bad_day_number last d.terms.number else x ≡ clear → last' < d.terms.number)
      → DayAlike (row BadDayNumber when bad_day_number last d.terms.number else x) (row BadDayNumber when bad_day_number last' d.terms.number else x)
  unfolding row◌when◌else◌ bad_day_number Indexed
  number_alike last x h = by (outside 1 31 d.terms.number) (leb d.terms.number last) (leb d.terms.number last') refl refl x
    where
      by : (out low low' : Bool) → leb d.terms.number last ≡ low → leb d.terms.number last' ≡ low' → (x : Verdict) → Indexed x
          → (row BadDayNumber when out || low else x ≡ clear → last' < d.terms.number)
          → DayAlike (row BadDayNumber when out || low else x) (row BadDayNumber when out || low' else x)
      by true low low' e e' x i f = same
      by false true true e e' x i f = same
      by false true false e e' x i f = absurd (omega (arith, leb-true d.terms.number last e, leb-false d.terms.number last' e'))
      by false false false e e' x i f = alike_refl last' (Call.day d room) x
      by false false true e e' (Ok _) i f = absurd (omega (arith, f refl, leb-true d.terms.number last' e'))
      by false false true e e' (Err met) i f = i (leb-true d.terms.number last' e')

  indexed : (i j : ℕ) (b c : Bool) → Indexed (row (BadHeading i) when b else row (BadAmount j) when c else clear)
  unfolding row◌when◌else◌ Indexed
  indexed i j true c = by_number
  indexed i j false true = by_number
  indexed i j false false = tt

  -- a day, by one last number or a later one, which is still below its own if it is accepted
  day_alike : (s : Status) (o : Opening) (last : ℕ) → last < last' → (day_refusal s o last d room ≡ clear → last' < d.terms.number)
      → DayAlike (day_refusal s o last d room) (day_refusal s o last' d room)
  unfolding day_refusal day_rows account_rows
  day_alike s o last h f =
      row_alike OutOfTurn (not (is_open s)) _ _ f
      (λ f. row_alike BadLengths (bad_output o room) _ _ f
      (λ f. row_alike BadLengths (bad_input o d) _ _ f
      (number_alike last (account_rows o d) h (indexed _ _ _ _))))

-- ---- calls

-- the next accepted day: an accepted call decides, and a refused one is passed over
next_accepted : (g : Register) (c : Call) (cs : List Call) → refusal g c ≡ clear → next_number g (c ∷ cs) ≡ next_of c
next_accepted g c cs e = rw e

next_refused : (g : Register) (c : Call) (cs : List Call) (met : Refusal) → refusal g c ≡ Err met → next_number g (c ∷ cs) ≡ next_number g cs
next_refused g c cs met e = rw e

-- a closed period has none
none_closed : (number : ℕ) (o : Opening) (days : List KeptDay) (cs : List Call) → BelowNext number (next_number (kept Closed o days) cs)
unfolding refusal day_refusal closing_refusal row◌when◌else◌
none_closed number o days [] = tt
none_closed number o days (Call.opening o' ∷ cs) =
    either (BelowNext number) (refusal (kept Closed o days) (Call.opening o')) _ _ (λ e. tt) (none_closed number o days cs)
none_closed number o days (Call.day d room ∷ cs) = none_closed number o days cs
none_closed number o days (Call.closing room ∷ cs) = none_closed number o days cs

-- where the registers are the same
pub each_refl : (number : ℕ) (g : Register) (cs : List Call) → EachSameOr3 number g g cs
each_refl number g [] = tt
each_refl number g (c ∷ cs) = (same, (λ before. refl), each_refl number (step g c) cs)

-- one call in front: what it gives if it is accepted is the same
one_more : (number : ℕ) (g g' : Register) (c : Call) (cs : List Call) → Alike number c (refusal g c) (refusal g' c)
    → returned (accept g c) c ≡ returned (accept g' c) c → written (accept g c) c ≡ written (accept g' c) c
    → (refusal g c ≡ clear → EachSameOr3 number (accept g c) (accept g' c) cs) → ((met : Refusal) → refusal g c ≡ Err met → EachSameOr3 number g g' cs)
    → EachSameOr3 number g g' (c ∷ cs)
unfolding step
one_more number g g' c cs a r w after stays =
    rw (answer_is g c, answer_is g' c, fun_ext (buffer_is g c), fun_ext (buffer_is g' c), r, w) (by (refusal g c) (refusal g' c) a after stays)
  where
    by : (x y : Verdict) → Alike number c x y
        → (x ≡ clear → EachSameOr3 number (accept g c) (accept g' c) cs) → ((met : Refusal) → x ≡ Err met → EachSameOr3 number g g' cs)
        → let figures = returned (accept g' c) c in
        let numbers = written (accept g' c) c in
        SameOr3 number c (answer_by x figures) (answer_by y figures)
        × ((before : List ℕ) → if_accepted x numbers before ≡ if_accepted y numbers before)
        × EachSameOr3 number (if_accepted x (accept g c) g) (if_accepted y (accept g' c) g') cs
    by (Ok _) (Ok _) a after stays = (same, (λ before. refl), after refl)
    by (Ok _) (Err met) a after stays = absurd a
    by (Err met) (Ok _) a after stays = absurd a
    by (Err met) (Err met') a after stays = (a, (λ before. refl), stays met refl)

-- x is put in after the days `earlier`, and the days `later` were accepted since
module _ (o : Opening) (x : KeptDay) (earlier : List KeptDay) (none : total o x.accounts ≡ 0) (above : last_number earlier < x.number) where
  abbrev without : Status → List KeptDay → Register
  without s later = kept s o (later ++ earlier)

  abbrev with : Status → List KeptDay → Register
  with s later = kept s o (later ++ (x ∷ earlier))

  -- the number of the next accepted day is above that of x, where x is the last one
  abbrev Fits : (later : List KeptDay) → (next : Option ℕ) → Type 0
  Fits [] next = BelowNext x.number next
  Fits (d ∷ later) next = Unit {0}

  fits_closed : (later : List KeptDay) (cs : List Call) → Fits later (next_number (without Closed later) cs)
  fits_closed [] cs = none_closed x.number o earlier cs
  fits_closed (d ∷ later) cs = tt

  same_days : (later : List KeptDay) → SameFigures o (later ++ earlier) (later ++ (x ∷ earlier))
  same_days later = same_figures o _ _ (sym (put_into_days o later earlier x none).counted_same)

  same_after : (s : Status) (later : List KeptDay) (c : Call)
      → let after = accept (without s later) c in
      let after' = accept (with s later) c in
      (returned after c ≡ returned after' c) × (written after c ≡ written after' c)
  unfolding accept
  same_after s later (Call.opening o') = (refl, refl)
  same_after s later (Call.day d room) =
      let f = same_days (kept_day o d ∷ later) in
      (returned_same s o f (Call.day d room), written_same s o f (Call.day d room))
  same_after s later (Call.closing room) =
      let f = same_days later in
      (returned_same Closed o f (Call.closing room), written_same Closed o f (Call.closing room))

  call_more : (s : Status) (later : List KeptDay) (c : Call) (cs : List Call)
      → let g = without s later in
      let g' = with s later in
      Fits later (next_number g (c ∷ cs)) → Alike x.number c (refusal g c) (refusal g' c)
      → (Fits later (next_of c) → EachSameOr3 x.number (accept g c) (accept g' c) cs)
      → (Fits later (next_number g cs) → EachSameOr3 x.number g g' cs)
      → EachSameOr3 x.number g g' (c ∷ cs)
  call_more s later c cs fits a after stays =
      let g = without s later in
      let (r, w) = same_after s later c in
      one_more x.number g (with s later) c cs a r w
      (λ e. after (subst (Fits later) (next_accepted g c cs e) fits)) (λ met e. stays (subst (Fits later) (next_refused g c cs met e) fits))

  each_same : (s : Status) (later : List KeptDay) (cs : List Call) → Fits later (next_number (without s later) cs)
      → EachSameOr3 x.number (without s later) (with s later) cs
  unfolding refusal accept
  each_same s later [] fits = tt
  each_same s later (Call.opening o' ∷ cs) fits =
      call_more s later (Call.opening o') cs fits (alike_refl x.number _ _) (λ fits. each_refl x.number _ cs) (each_same s later cs)
  each_same s [] (Call.day d room ∷ cs) fits =
      call_more s [] (Call.day d room) cs fits
      (day_alike x.number d room s o (last_number earlier) above (λ e. subst (Fits []) (next_accepted (without s []) (Call.day d room) cs e) fits))
      (λ fits. each_same s (kept_day o d ∷ []) cs tt) (each_same s [] cs)
  each_same s (y ∷ later) (Call.day d room ∷ cs) fits =
      call_more s (y ∷ later) (Call.day d room) cs fits (alike_refl x.number _ _) (each_same s (kept_day o d ∷ y ∷ later) cs) (each_same s (y ∷ later) cs)
  each_same s later (Call.closing room ∷ cs) fits =
      call_more s later (Call.closing room) cs fits (alike_refl x.number _ _) (λ fits. each_same Closed later cs (fits_closed later cs)) (each_same s later cs)

pub put_into_calls : (g : Register) (d : DayInput) (room : ℕ) (calls : List Call) → AcceptedWithout g d room → BelowNext d.terms.number (next_number g calls)
    → EachSameOr3 d.terms.number g (step g (Call.day d room)) calls
unfolding accept
put_into_calls g d room calls a below =
    rw (step_clear g (Call.day d room) a.passes)
    (each_same g.held (kept_day g.held d) g.days a.without (rises g d room a.passes).0 g.status [] calls below)
