-- Every number that a contract names fits 64 bits, on any period: a row's number and index, a day's figures by the bound of T and the
-- range of an open period, a closing's by that range.
use mathlib.Core.Path.{◌≡◌, refl, sym, ap, subst, ◌∙◌}
use mathlib.Core.Bool.{true}
use mathlib.Core.List.{List, [], ◌∷◌, map, flat_map}
use Prim.Native.Nat.{ℕ, ◌+◌, ◌*◌, ◌≤◌, ◌<◌}
use native.Mathlib.Omega.{arith}
use lib.ListN.{length, get_or, replicate}
use lib.Seq.{length-take-le}
use Rattle.numbers.specs.Sums.{Σ}
use Rattle.numbers.proofs.Lists.{◌∈◌, by_index, at_any, replicate_at, mem_every, every_map, every_flat_map, every_weaken}
use Rattle.numbers.proofs.Rows.{rows_length}
use Rattle.numbers.proofs.Sums.{Σ-bound}
use Rattle.methodology.specs.declared.Refusal.{Refusal}
use Rattle.std.specs.Prelude.{Option, Some, None, Result, Ok, Err}
use Rattle.std.specs.List.{AllByRecursion, range_with_len}
use Rattle.std.proofs.lemmas.List.FromFn.{length-map-range_with_len}
use Rattle.methodology.specs.RowNumbers.{row_number, row_index}
use Rattle.methodology.specs.declared.Refusal.TheVariants.{OutOfTurn}
use Rattle.methodology.specs.declared.Opening.{Opening}
use Rattle.methodology.specs.Account.{DayInput}
use Rattle.methodology.specs.Day.{dailies}
use Rattle.methodology.specs.Contribution.{counts, funded, unfunded, three}
use Rattle.methodology.specs.Refusals.{Verdict, clear, is_open, opening_rows, opening_refusal}
use Rattle.methodology.specs.Register.{Answer, refused_with, answer_by}
use Rattle.methodology.proofs.Passed.{passed, either, by_test}
use Rattle.methodology.proofs.RowLimits.{at_most_10, row_occurs, Few as IndexFew, RowFew, opening_few, day_few, closing_few}
use Rattle.quotient.specs.Ranges.{greatest_total, Charge}
use Rattle.validation.proofs.OpeningPasses.{opening_leaves}
use Rattle.period.specs.declared.Period.{Period}
use Rattle.period.specs.declared.DayReturns.{DayReturns}
use Rattle.period.specs.declared.ClosingReturns.{ClosingReturns}
use Rattle.period.specs.Reading.{answer_of, opening_returned, day_returned, closing_returned}
use Rattle.period.specs.Calls.{fresh_period, held_by, in_range, status_of, opening_row, opened_period, accounts_brought, total_by, day_row, share_at, reported_by, sized_period, closing_row, sums_held, charge_by, closed_period}
use Rattle.fund.proofs.RawCharge.{charge_le}
use Rattle.fund.proofs.Dailies.{Few, dailies_long}
use Rattle.period.proofs.InRange.{ranged, held_opened, charges, Ready, closable}
use Rattle.period.proofs.Sizing.{Admits, passes_all, total_few, reported_few, written_few}
use Rattle.period.proofs.Reach.{sized_in_range}
use Rattle.demand3.proofs.Covering.{three_wide}
use Rattle.demand3.specs.Made.{Asked, Meets}
use Rattle.demand3.specs.Demand3.{Fits64, numbers_in, NarrowList, NarrowAccrued, Narrow, Fits, CanBeMade}

-- ---- rows

opening_row_few : (p : Period) (o : Opening) → RowFew (opening_row p o)
unfolding opening_row
opening_row_few p o = opening_few (status_of p) o

day_row_few : (p : Period) (d : DayInput) (room : ℕ) → RowFew (day_row p d room)
unfolding day_row
day_row_few p d room = day_few (status_of p) (held_by p) p.accrued.last d room

closing_row_few : (p : Period) (room : ℕ) → RowFew (closing_row p room)
unfolding closing_row
closing_row_few p room = closing_few (status_of p) (held_by p) room

-- ---- lists

indexed : (P : ℕ → Type 0) (xs : List ℕ) → ((i : ℕ) → P (get_or xs i 0)) → AllByRecursion P xs
indexed P xs h = mem_every P xs (by_index P xs 0 (λ i l. h i))

-- ---- a day that is accepted

dailies_fit : (p : Period) (d : DayInput) (room : ℕ) → Admits p d room
    → AllByRecursion Fits64 (dailies (held_by p) (reported_by p d) (accounts_brought p d))
dailies_fit p d room s = every_weaken Few Fits64 (λ x few. omega arith) (dailies (held_by p) (reported_by p d) (accounts_brought p d)) (written_few s)

day_figures_fit : (p : Period) (d : DayInput) (room : ℕ) → Admits p d room → AllByRecursion Fits64 (total_by p d ∷ reported_by p d ∷ [])
day_figures_fit p d room s = (omega (arith, total_few s), (omega (arith, reported_few s), tt))

-- ---- a closing that is accepted

three_fits : (r : ℕ) → r ≤ 2 * greatest_total → AllByRecursion Fits64 (three r)
unfolding three funded unfunded
three_fits r h = (omega arith, (omega arith, (omega arith, tt)))

module _ {p : Period} {room : ℕ} (c : Ready p 3 room) (full : length p.accrued.sums ≡ 32) where
  few : p.held.n ≤ 32
  few = (held_opened c.in_range_lem).members_few

  sums_long : length (sums_held p) ≡ p.held.n
  sums_long = length-take-le p.held.n p.accrued.sums (omega (arith, few))

  charge_few : {s : ℕ} → s ∈ sums_held p → charge_by p s ≤ 2 * greatest_total
  charge_few {s} i =
      let few = by_index (λ s. Charge p.accrued.highest s p.accrued.days) (sums_held p) 0 (charges c.in_range_lem) s i in
      omega (arith, charge_le p.accrued.highest s p.accrued.days few.shares, few.bounded)

  funds_fit : Fits64 (Σ (sums_held p) (λ s. funded (charge_by p s)))
  unfolding funded
  funds_fit =
      omega (arith, few, sums_long, Σ-bound (sums_held p) (λ s. funded (charge_by p s)) (3 * greatest_total) (λ s i. omega (arith, charge_few i)))

  closing_figures_fit : AllByRecursion Fits64 (p.accrued.days ∷ p.accrued.highest ∷ Σ (sums_held p) (λ s. funded (charge_by p s)) ∷ [])
  closing_figures_fit =
      let r = c.in_range_lem in
      (omega (arith, r.counted, r.month), (omega (arith, r.bounded), (funds_fit, tt)))

  closing_fits : AllByRecursion Fits64 (flat_map (λ s. three (charge_by p s)) (sums_held p))
  closing_fits = every_flat_map Fits64 _ (sums_held p) (λ s i. three_fits _ (charge_few i))

  closing_long : length (flat_map (λ s. three (charge_by p s)) (sums_held p)) ≡ room
  closing_long =
      rows_length 3 _ (sums_held p) (λ s i. three_wide _) ∙ ap (λ (x : ℕ). 3 * x) sums_long ∙ sym c.room_long

-- ---- the period

pub zeros_fit : (count : ℕ) → AllByRecursion Fits64 (replicate count 0)
zeros_fit count = indexed Fits64 (replicate count 0) (λ i. omega (arith, replicate_at {A = ℕ} count i 0))

none_accrued : NarrowAccrued fresh_period.accrued
none_accrued = record { last = omega arith; days = omega arith; highest = omega arith; sums = record { fit = zeros_fit 32; long = refl } }

-- a list of numbers up to 32, in its places
narrow_list : (l : List ℕ) → ((i : ℕ) → i < length l → get_or l i 0 ≤ 32) → NarrowList (map (λ i. get_or l i 0) (range_with_len 0 32))
narrow_list l few =
    let all : (i : ℕ) → get_or l i 0 ≤ 32 = at_any (λ x. x ≤ 32) l 0 (omega arith) few in
    record {
      fit = every_map Fits64 (λ i. get_or l i 0) (range_with_len 0 32) (λ i m. omega (arith, all i));
      long = length-map-range_with_len (λ i. get_or l i 0) 0 32;
    }

narrow_opened : (o : Opening) → opening_rows o ≡ clear → Narrow (opened_period o)
narrow_opened o e =
    let l = opening_leaves o e in
    record {
      held =
          record {
            n = omega (arith, l.in_limits.members_few);
            k = omega (arith, l.in_limits.scenarios_few);
            groups = narrow_list o.groups (λ i h. l.in_limits.group_few i (omega (arith, h, l.in_limits.groups_long)));
            firsts =
                narrow_list o.firsts
                (λ i h. let place : i < o.n = omega (arith, h, l.in_limits.firsts_long) in omega (arith, l.in_order i place, l.last_few i place));
            lasts = narrow_list o.lasts (λ i h. let place : i < o.n = omega (arith, h, l.in_limits.lasts_long) in omega (arith, l.last_few i place));
          };
      accrued = none_accrued;
    }

narrow_sized : (p : Period) (d : DayInput) → in_range (sized_period p d) ≡ true → Narrow p → Narrow (sized_period p d)
narrow_sized p d e q =
    let r = ranged (sized_period p d) e in
    record {
      held = q.held;
      accrued =
          record {
            last = omega (arith, r.month);
            days = omega (arith, r.counted, r.month);
            highest = omega (arith, r.bounded);
            sums =
                record {
                  fit = indexed Fits64 (sized_period p d).accrued.sums (λ i. omega (arith, r.sums i, r.counted, r.month));
                  long =
                      by_test (λ (sums : List ℕ). length sums ≡ 32) (counts (total_by p d)) _ p.accrued.sums
                      (λ e. length-map-range_with_len (λ i. get_or p.accrued.sums i 0 + share_at p d i) 0 32) (λ e. q.accrued.sums.long);
                };
          };
    }

narrow_closed : (p : Period) → Narrow p → Narrow (closed_period p)
narrow_closed p q = record { held = q.held; accrued = q.accrued }

pub narrow_fresh : Narrow fresh_period
narrow_fresh =
    let none : NarrowList (map (λ i. get_or [] i 0) (range_with_len 0 32)) = narrow_list [] (λ i h. omega arith) in
    record { held = record { n = omega arith; k = omega arith; groups = none; firsts = none; lasts = none }; accrued = none_accrued }

-- ---- a call, by what the refusal table says

refused_fits : (number : ℕ) (index : Option ℕ) → number ≤ 10 → IndexFew index → AllByRecursion Fits64 (numbers_in (refused_with number index))
refused_fits number None h few = (omega arith, tt)
refused_fits number (Some index) h few = (omega arith, (omega arith, tt))

answer_fits : (x : Verdict) (figures : List ℕ) → RowFew x → (x ≡ clear → AllByRecursion Fits64 figures) → AllByRecursion Fits64 (numbers_in (answer_by x figures))
answer_fits (Ok _) figures h f = f refl
answer_fits (Err met) figures h f = refused_fits (row_number met) (row_index met) (at_most_10 _ (row_occurs met)) h

-- the outcome that has the answer of a contract
outcome_by : {A : Type 0} → Verdict → A → Result A Refusal
outcome_by (Ok _) x = Ok x
outcome_by (Err met) x = Err met

outcome_says : {A : Type 0} (x : Verdict) (returned : A → List ℕ) (figures : A) → answer_by x (returned figures) ≡ answer_of returned (outcome_by x figures)
unfolding outcome_by
outcome_says (Ok _) returned figures = refl
outcome_says (Err met) returned figures = refl

pub fits : {p : Period} → Narrow p → (a : Asked) (said : Answer) (left : Period) (after : List ℕ) → Meets p a said left after
    → Fits (record { asked = a; answer = said; period = left; after = after })
unfolding opening_row opening_refusal
fits {p} q (Asked.opening o) said left after (m, none) =
    record {
      outcome = outcome_by (opening_row p o) tt;
      of_outcome = m.answer ∙ outcome_says (opening_row p o) opening_returned tt;
      answer = rw m.answer (answer_fits (opening_row p o) [] (opening_row_few p o) (λ e. tt));
      period = subst Narrow (sym m.period) (either Narrow (opening_row p o) _ p (λ e. narrow_opened o (passed OutOfTurn (is_open (status_of p)) _ e).1) q);
      buffer = λ b. rw none tt;
      long = rw none refl;
    }
fits {p} q (Asked.day d out) said left after m =
    let x = day_row p d (length out) in
    let pass : x ≡ clear → Admits p d (length out) = passes_all p d (length out) in
    let figures : DayReturns = record { total = total_by p d; max = reported_by p d } in
    record {
      outcome = outcome_by x figures;
      of_outcome = m.answer ∙ outcome_says x day_returned figures;
      answer = rw m.answer (answer_fits x _ (day_row_few p d (length out)) (λ e. day_figures_fit p d (length out) (pass e)));
      period = subst Narrow (sym m.period) (either Narrow x _ p (λ e. narrow_sized p d (sized_in_range p d (pass e)) q) q);
      buffer = λ b. subst (AllByRecursion Fits64) (sym m.buffer) (either (AllByRecursion Fits64) x _ out (λ e. dailies_fit p d (length out) (pass e)) b);
      long =
          ap length m.buffer
          ∙ either (λ (l : List ℕ). length l ≡ length out) x _ out (λ e. dailies_long (held_by p) _ (accounts_brought p d) ∙ sym (pass e).room_long) refl;
    }
fits {p} q (Asked.closing out) said left after m =
    let x = closing_row p (length out) in
    let pass : x ≡ clear → Ready p 3 (length out) = closable p (length out) in
    let figures : ClosingReturns =
    record { days = p.accrued.days; highest = p.accrued.highest; funds = Σ (sums_held p) (λ s. funded (charge_by p s)) } in
    record {
      outcome = outcome_by x figures;
      of_outcome = m.answer ∙ outcome_says x closing_returned figures;
      answer = rw m.answer (answer_fits x _ (closing_row_few p (length out)) (λ e. closing_figures_fit (pass e) q.accrued.sums.long));
      period = subst Narrow (sym m.period) (either Narrow x _ p (λ e. narrow_closed p q) q);
      buffer = λ b. subst (AllByRecursion Fits64) (sym m.buffer) (either (AllByRecursion Fits64) x _ out (λ e. closing_fits (pass e) q.accrued.sums.long) b);
      long = ap length m.buffer ∙ either (λ (l : List ℕ). length l ≡ length out) x _ out (λ e. closing_long (pass e) q.accrued.sums.long) refl;
    }

-- ---- calls with any arguments can be made

-- the answer that a contract names, the period and the buffer that the call leaves, and that they meet it
pub makes : (p : Period) (a : Asked) → (said : Answer) × (left : Period) × (after : List ℕ) × Meets p a said left after
makes p (Asked.opening o) = (_, _, [], (record { answer = refl; period = refl }, refl))
makes p (Asked.day d out) = (_, _, _, record { answer = refl; period = refl; buffer = refl })
makes p (Asked.closing out) = (_, _, _, record { answer = refl; period = refl; buffer = refl })

pub can_be_made : {p : Period} → Narrow p → (arguments : List Asked) → CanBeMade p arguments
can_be_made q [] = record { calls = []; same = refl; made = tt; fits = tt }
can_be_made {p} q (a ∷ rest) =
    let (said, left, after, m) = makes p a in
    let f = fits q a said left after m in
    let t = can_be_made {p = left} f.period rest in
    record {
      calls = record { asked = a; answer = said; period = left; after = after } ∷ t.calls;
      same = ap (λ (l : List Asked). a ∷ l) t.same;
      made = (m, t.made);
      fits = (f, t.fits);
    }
