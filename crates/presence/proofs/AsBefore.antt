-- With everybody present from 1 to 31 all is as it was before the change. The record `AsBefore` is the claim: every call answers, and leaves in
-- its buffer, what it did when openings brought no first and last days. `as_before` proves it: the two tables agree row by row on what
-- everybody's presence leaves, so both registers hold the same but for the first and last days.
use mathlib.Core.Path.{◌≡◌, refl, sym, ap, ap₂, ◌∙◌}
use mathlib.Core.Bool.{Bool, true, false, not, ◌||◌, true≢false}
use mathlib.Core.List.{List, [], ◌∷◌, ◌++◌}
use Prim.Native.Nat.{ℕ, ◌+◌, ◌-◌, ◌≤◌, ◌<◌}
use native.Mathlib.Omega.{arith}
use lib.Dec.{ltb}
use lib.ListN.{length, get_or, replicate}
use borrow.Author.Tests.{eq-eqb, ltb-true, ltb-false, lt-ltb, le-leb}
use Rattle.std.specs.Prelude.{Ok, Err}
use Rattle.std.specs.List.{AllByRecursion, fold, position_or_len}
use Rattle.std.proofs.Math.Bool.{or-false}
use Rattle.numbers.proofs.Lists.{range_mem, some_any}
use Rattle.std.proofs.lemmas.List.{get_or-replicate, length-replicate}
use Rattle.methodology.specs.declared.Refusal.{Refusal}
use Rattle.methodology.specs.declared.Refusal.TheVariants.{OutOfTurn, BadDayNumber, BadLengths, BadHeading, BadAmount}
use Rattle.methodology.specs.declared.Opening.{Opening}
use Rattle.methodology.specs.declared.Heading.{Heading}
use Rattle.methodology.specs.declared.Status.{Status}
use Rattle.methodology.specs.Account.{first_day, last_day, present, DayInput, accounts, nobody}
use Rattle.methodology.specs.Refusals.{Verdict, clear, row◌when◌else◌, is_open, bad_opening, opening_rows, opening_refusal, bad_day_number, member_outside, passed_over, bad_heading, first_bad_heading, last_missing, bad_amount, bad_input, bad_output, account_rows, day_rows, day_refusal, closing_refusal}
use Rattle.methodology.specs.Day.{total, group_of, group_sum, own_max_eul, dailies}
use Rattle.methodology.specs.Contribution.{reported_max_eul, highest, counted, sum_of_shares, raw, contributions, total_funded}
use Rattle.methodology.specs.Register.{Call, Register, start, last_number, refusal, accept, if_accepted, step, returned, written, answer_by, answer, buffer}
use Rattle.methodology.proofs.Passed.{passed, either, inside, number_rises}
use Rattle.methodology.proofs.RowLimits.{bad_heading_le}
use Rattle.demand3.specs.Made.{Made, lent, call_of}
use Rattle.demand3.specs.Demand3.{Agrees, Holds, register_after}
use Rattle.demand3.proofs.EveryList.{holds_from, last_agrees}
use Rattle.validation.proofs.DayPasses.{sized}
use Rattle.validation.proofs.OpeningPasses.{opening_leaves}
use Rattle.validation.proofs.Missing.{over_at, over_none, below_last, missing_is_after}
use Rattle.validation.specs.Passing.{has_account}
use Rattle.presence.proofs.Row10.{bad10, none_found}
use Rattle.presence.proofs.Before.{without_presence, call_before, register_without}
use Rattle.presence.proofs.Before as before

-- ---- the claim

-- everybody is present from 1 to 31
pub record Everybody (o : Opening) : Type 0 where
  pub firsts : o.firsts ≡ replicate o.n 1
  pub lasts : o.lasts ≡ replicate o.n 31

abbrev pub BringsEverybody : Call → Type 0
BringsEverybody (Call.opening o) = Everybody o
BringsEverybody (Call.day d room) = Unit {0}
BringsEverybody (Call.closing room) = Unit {0}

abbrev pub AllBringEverybody : List Made → Type 0
AllBringEverybody cs = AllByRecursion (λ c. BringsEverybody (call_of c.asked)) cs

-- the register that the same calls without first and last days would have led to, from that of g without its own
abbrev pub register_before : Register → List Made → Register
register_before g cs = fold (λ g c. before.step g (call_before (call_of c.asked))) (register_without g) cs

-- Of every list in which demand 3 holds, so of compiled calls too (`every_list`, `compiled_lists` in demand3/proofs/Demand3.antt): of all its
-- calls, or of those that come later, whatever was called before them, from where no period is open.
pub record AsBefore : Type 0 where
  pub answer_is : (earlier later : List Made) (c : Made) → Holds start (earlier ++ (later ++ (c ∷ [])))
      → let g = register_after start earlier in
      is_open g.status ≡ false → AllBringEverybody (later ++ (c ∷ []))
      → c.answer ≡ before.answer (register_before g later) (call_before (call_of c.asked))
  pub buffer_is : (earlier later : List Made) (c : Made) → Holds start (earlier ++ (later ++ (c ∷ [])))
      → let g = register_after start earlier in
      is_open g.status ≡ false → AllBringEverybody (later ++ (c ∷ []))
      → c.after ≡ before.buffer (register_before g later) (call_before (call_of c.asked)) (lent c.asked)

-- a row, where what follows it is the same
row_alike : (met : Refusal) (t : Bool) {x y : Verdict} → (t ≡ false → x ≡ y) → row met when t else x ≡ row met when t else y
unfolding row◌when◌else◌
row_alike met true h = refl
row_alike met false h = h refl

-- ---- who is present

module _ (o : Opening) (all : Everybody o) where
  first_is : (m : ℕ) → 1 ≤ m → m ≤ o.n → first_day o m ≡ 1
  first_is m low high = rw all.firsts (get_or-replicate o.n (m - 1) 1 0 (omega (arith, low, high)))

  last_is : (m : ℕ) → 1 ≤ m → m ≤ o.n → last_day o m ≡ 31
  last_is m low high = rw all.lasts (get_or-replicate o.n (m - 1) 31 0 (omega (arith, low, high)))

  everybody_present : (number m : ℕ) → 1 ≤ number → number ≤ 31 → 1 ≤ m → m ≤ o.n → present o number m ≡ true
  unfolding present
  everybody_present number m some few low high = rw (first_is m low high, last_is m low high, le-leb 1 number some, le-leb number 31 few) refl

  -- ---- an opening

  -- row 1's later conditions fail
  row_1 : bad_opening o ≡ before.bad_opening (without_presence o)
  unfolding bad_opening
  row_1 =
      let firsts : length o.firsts ≡ o.n = ap length all.firsts ∙ length-replicate o.n 1 in
      let lasts : length o.lasts ≡ o.n = ap length all.lasts ∙ length-replicate o.n 31 in
      rw (firsts, lasts, eq-eqb o.n o.n refl) (or-false _ ∙ or-false _)

  -- and so does row 10
  row_10 : ltb (bad10 o) o.n ≡ false
  row_10 =
      none_found o
      (λ m low high.
      let first = first_is m low high in
      let last = last_is m low high in
      record { first_some = omega (arith, first); in_order = omega (arith, first, last); last_few = omega (arith, last) })

  opening_is : (s : Status) → opening_refusal s o ≡ before.opening_refusal s (without_presence o)
  unfolding opening_refusal opening_rows row◌when◌else◌
  opening_is s = rw (row_1, row_10) refl

  -- ---- a day

  module _ (number : ℕ) (some : 1 ≤ number) (few : number ≤ 31) where
    there : (m : ℕ) → 1 ≤ m → m ≤ o.n → present o number m ≡ true
    there m low high = everybody_present number m some few low high

    skipped_is : (from to : ℕ) → to ≤ o.n → passed_over o number from to ≡ ltb (from + 1) to
    skipped_is from to high = by (ltb (from + 1) to) refl
      where
        by : (t : Bool) → ltb (from + 1) to ≡ t → passed_over o number from to ≡ t
        by true e =
            let next = ltb-true (from + 1) to e in
            over_at o number from (from + 1) to (range_mem 1 o.n (omega arith) (omega (arith, next, high))) (lt-ltb from (from + 1) (omega arith)) e
            (there (from + 1) (omega arith) (omega (arith, next, high)))
        by false e = over_none o number from to (omega (arith, ltb-false (from + 1) to e))

    heading_is : (prev h : Heading) → bad_heading o number prev h ≡ before.bad_heading o.n prev h
    unfolding bad_heading before.bad_heading
    heading_is prev h = by (member_outside o.n h) refl
      where
        by : (t : Bool) → member_outside o.n h ≡ t → bad_heading o number prev h ≡ before.bad_heading o.n prev h
        by true e = rw e refl
        by false e =
            let (low, high) = inside 1 o.n h.member e in
            rw (e, there h.member low high, skipped_is prev.member h.member high) refl

    first_bad_is : (prev : Heading) (hs : List Heading) → first_bad_heading o number prev hs ≡ before.first_bad_heading o.n prev hs
    unfolding first_bad_heading before.first_bad_heading
    first_bad_is prev [] = refl
    first_bad_is prev (h ∷ hs) = rw (heading_is prev h, first_bad_is h hs) refl

    -- where no heading is bad: the last member has an account, or is missing
    module _ (hs : List Heading) (members_some : 1 ≤ o.n) (accounts_some : 1 ≤ length hs) (good : first_bad_heading o number nobody hs ≡ length hs) where
      abbrev at_last : ℕ
      at_last = length hs - 1

      abbrev top : ℕ
      top = (get_or hs at_last nobody).member

      one_missing : has_account hs o.n ≡ false → last_missing o number hs ≡ true
      unfolding last_missing
      one_missing e = some_any _ (range_mem 1 o.n members_some (omega arith)) (rw (there o.n members_some (omega arith), e) refl)

      none_missing : has_account hs o.n ≡ true → last_missing o number hs ≡ false
      none_missing e = by (ltb top o.n) refl
        where
          by : (t : Bool) → ltb top o.n ≡ t → last_missing o number hs ≡ false
          by true q = absurd (true≢false (sym e ∙ below_last o number hs good at_last (omega (arith, accounts_some)) o.n (ltb-true top o.n q)))
          by false q =
              let reached : o.n ≤ top = ltb-false top o.n q in
              missing_is_after o number hs good at_last (omega (arith, accounts_some)) ∙ over_none o number top (o.n + 1) (omega (arith, reached))

      missing_is : last_missing o number hs ≡ before.last_missing o.n hs
      unfolding before.last_missing
      missing_is = by (has_account hs o.n) refl
        where
          by : (t : Bool) → has_account hs o.n ≡ t → last_missing o number hs ≡ not t
          by true e = none_missing e
          by false e = one_missing e

  -- rows 5 and 6, where rows 3 and 4 let the day pass
  account_rows_are : (last : ℕ) (d : DayInput) → 1 ≤ o.n → bad_day_number last d.terms.number ≡ false → bad_input o d ≡ false
      → account_rows o d ≡ before.account_rows (without_presence o) d
  unfolding account_rows
  account_rows_are last d members_some e3 e4 =
      ap₂ (λ (bad5 : ℕ) (met : Bool). row (BadHeading bad5) when met else row (BadAmount bad6) when ltb bad6 count else clear)
      (first_bad_is number some few nobody d.headings) row_5
    where
      number : ℕ
      number = d.terms.number

      rises : (number ≤ 31) × (last < number)
      rises = number_rises last number e3

      some : 1 ≤ number
      some = omega (arith, rises.1)

      few : number ≤ 31
      few = rises.0

      count : ℕ
      count = length d.headings

      bad6 : ℕ
      bad6 = position_or_len bad_amount (accounts o.k d)

      row_5 : (ltb (first_bad_heading o number nobody d.headings) count || last_missing o number d.headings)
          ≡ (ltb (before.first_bad_heading o.n nobody d.headings) count || before.last_missing o.n d.headings)
      row_5 = rw (← first_bad_is number some few nobody d.headings) (by (ltb (first_bad_heading o number nobody d.headings) count) refl)
        where
          by : (t : Bool) → ltb (first_bad_heading o number nobody d.headings) count ≡ t
              → (t || last_missing o number d.headings) ≡ (t || before.last_missing o.n d.headings)
          by true e = refl
          by false e =
              let good : first_bad_heading o number nobody d.headings ≡ count = omega (arith, ltb-false _ count e, bad_heading_le o number nobody d.headings) in
              missing_is number some few d.headings members_some (sized o d e4).some good

  day_is : (s : Status) (last : ℕ) (d : DayInput) (room : ℕ) → 1 ≤ o.n → day_refusal s o last d room ≡ before.day_refusal s (without_presence o) last d room
  unfolding day_refusal day_rows
  day_is s last d room members_some =
      row_alike OutOfTurn (not (is_open s))
      (λ e₂. row_alike BadLengths (bad_output o room)
      (λ e₄. row_alike BadLengths (bad_input o d)
      (λ e₄. row_alike BadDayNumber (bad_day_number last d.terms.number)
      (λ e₃. account_rows_are last d members_some e₃ e₄))))

-- ---- the registers

-- what is held while it is open
abbrev Held : Register → Type 0
Held g = is_open g.status ≡ true → Everybody g.held × (1 ≤ g.held.n)

row_closed : (g : Register) (d : DayInput) (room : ℕ) → is_open g.status ≡ false
    → before.day_refusal g.status (without_presence g.held) (last_number g.days) d room ≡ day_refusal g.status g.held (last_number g.days) d room
unfolding day_refusal row◌when◌else◌
row_closed g d room e = rw e refl

refusal_is : (g : Register) (c : Call) → Held g → BringsEverybody c → before.refusal (register_without g) (call_before c) ≡ refusal g c
unfolding refusal before.refusal closing_refusal
refusal_is g (Call.opening o) h b = sym (opening_is o b g.status)
refusal_is g (Call.day d room) h b = by (is_open g.status) refl
  where
    by : (t : Bool) → is_open g.status ≡ t
        → before.day_refusal g.status (without_presence g.held) (last_number g.days) d room ≡ day_refusal g.status g.held (last_number g.days) d room
    by true e = sym (day_is g.held (h e).0 g.status (last_number g.days) d room (h e).1)
    by false e = row_closed g d room e
refusal_is g (Call.closing room) h b = refl

accept_is : (g : Register) (c : Call) → accept (register_without g) (call_before c) ≡ register_without (accept g c)
unfolding accept
accept_is g (Call.opening o) = refl
accept_is g (Call.day d room) = refl
accept_is g (Call.closing room) = refl

step_is : (g : Register) (c : Call) → Held g → BringsEverybody c → before.step (register_without g) (call_before c) ≡ register_without (step g c)
unfolding step before.step
step_is g c h b =
    ap₂ (λ (x : Verdict) (after : Register). if_accepted x after (register_without g)) (refusal_is g c h b) (accept_is g c) ∙ by (refusal g c)
  where
    by : (x : Verdict) → if_accepted x (register_without (accept g c)) (register_without g) ≡ register_without (if_accepted x (accept g c) g)
    by (Ok _) = refl
    by (Err met) = refl

-- figures go by n, k and groups
returned_is : (g : Register) (c : Call) → returned (register_without g) (call_before c) ≡ returned g c
unfolding returned total reported_max_eul own_max_eul group_sum group_of highest counted total_funded raw sum_of_shares
returned_is g (Call.opening o) = refl
returned_is g (Call.day d room) = refl
returned_is g (Call.closing room) = refl

written_is : (g : Register) (c : Call) → written (register_without g) (call_before c) ≡ written g c
unfolding written dailies total reported_max_eul own_max_eul group_sum group_of contributions highest counted raw sum_of_shares
written_is g (Call.opening o) = refl
written_is g (Call.day d room) = refl
written_is g (Call.closing room) = refl

-- an accepted opening is held, with one member at least
held_more : (g : Register) (c : Call) → Held g → BringsEverybody c → Held (step g c)
unfolding step accept refusal opening_refusal
held_more g (Call.opening o) h b =
    either Held (refusal g (Call.opening o)) _ g
    (λ e is. (b, (opening_leaves o (passed OutOfTurn (is_open g.status) _ e).1).in_limits.members_some)) h
held_more g (Call.day d room) h b = either Held (refusal g (Call.day d room)) _ g (λ e. h) h
held_more g (Call.closing room) h b = either Held (refusal g (Call.closing room)) _ g (λ e is. absurd (true≢false (sym is))) h

-- ---- a list of calls

split_all : (cs ds : List Made) → AllBringEverybody (cs ++ ds) → AllBringEverybody cs × AllBringEverybody ds
split_all [] ds all = (tt, all)
split_all (c ∷ cs) ds (b, all) = let (left, right) = split_all cs ds all in ((b, left), right)

held_after : (g : Register) (cs : List Made) → Held g → AllBringEverybody cs → Held (register_after g cs)
held_after g [] h all = h
held_after g (c ∷ cs) h (b, all) = held_after (step g (call_of c.asked)) cs (held_more g (call_of c.asked) h b) all

registers_are : (g : Register) (cs : List Made) → Held g → AllBringEverybody cs
    → fold (λ g c. before.step g (call_before (call_of c.asked))) (register_without g) cs ≡ register_without (register_after g cs)
registers_are g [] h all = refl
registers_are g (c ∷ cs) h (b, all) =
    let call = call_of c.asked in
    ap (λ (x : Register). fold (λ g c. before.step g (call_before (call_of c.asked))) x cs) (step_is g call h b)
    ∙ registers_are (step g call) cs (held_more g call h b) all

module _ (earlier later : List Made) (c : Made) (holds : Holds start (earlier ++ (later ++ (c ∷ []))))
    (closed : is_open (register_after start earlier).status ≡ false) (all : AllBringEverybody (later ++ (c ∷ []))) where
  abbrev begun : Register
  begun = register_after start earlier

  abbrev g : Register
  g = register_after begun later

  abbrev call : Call
  call = call_of c.asked

  agreed : Agrees g c
  agreed = last_agrees begun later c (holds_from start earlier (later ++ (c ∷ [])) holds)

  none_held : Held begun
  none_held e = absurd (true≢false (sym e ∙ closed))

  everybody : Held g
  everybody = held_after begun later none_held (split_all later (c ∷ []) all).0

  brings : BringsEverybody call
  brings = (split_all later (c ∷ []) all).1.0

  register_is : register_before begun later ≡ register_without g
  register_is = registers_are begun later none_held (split_all later (c ∷ []) all).0

  answer_is_lem : c.answer ≡ before.answer (register_before begun later) (call_before call)
  unfolding answer before.answer
  answer_is_lem =
      agreed.answer
      ∙ ap₂ answer_by (sym (refusal_is g call everybody brings))
      (sym (ap (λ (x : Register). returned x (call_before call)) (step_is g call everybody brings) ∙ returned_is (step g call) call))
      ∙ ap (λ (x : Register). before.answer x (call_before call)) (sym register_is)

  buffer_is_lem : c.after ≡ before.buffer (register_before begun later) (call_before call) (lent c.asked)
  unfolding buffer before.buffer
  buffer_is_lem =
      agreed.buffer
      ∙ ap₂ (λ (x : Verdict) (w : List ℕ). if_accepted x w (lent c.asked)) (sym (refusal_is g call everybody brings))
      (sym (ap (λ (x : Register). written x (call_before call)) (step_is g call everybody brings) ∙ written_is (step g call) call))
      ∙ ap (λ (x : Register). before.buffer x (call_before call) (lent c.asked)) (sym register_is)

pub as_before : AsBefore
as_before = record { answer_is = answer_is_lem; buffer_is = buffer_is_lem }
