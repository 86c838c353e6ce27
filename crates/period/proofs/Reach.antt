-- Every period that calls return is in range while it is open: the range test never decides, and row 2 reads as document 01 has it.
-- By the last call: an opening sets every field, a day that the table lets pass keeps each within its limit, a refusal leaves all.
use mathlib.Core.Path.{◌≡◌, refl, sym, subst, ◌∙◌}
use mathlib.Core.Bool.{Bool, true, false, cond, true≢false}
use mathlib.Core.List.{List, map}
use Prim.Native.Nat.{ℕ, ◌+◌, ◌*◌, ◌≤◌, ◌<◌}
use native.Mathlib.Omega.{arith}
use lib.Dec.{ltb}
use lib.ListN.{length, get_or, take}
use borrow.Author.Tests.{le-leb, le-ltb, ltb-true}
use Rattle.std.specs.List.{list_any, range_with_len}
use Rattle.std.proofs.lemmas.List.FromFn.{take-map-range_with_len, fill_by_all}
use Rattle.numbers.proofs.Lists.{by_index, any_map, none_any}
use Rattle.methodology.specs.declared.Refusal.TheVariants.{OutOfTurn}
use Rattle.methodology.specs.declared.Status.{Status}
use Rattle.methodology.specs.declared.Status.TheVariants.{Fresh, Open, Closed}
use Rattle.methodology.specs.declared.Opening.{Opening}
use Rattle.methodology.specs.Account.{DayInput}
use Rattle.methodology.specs.Day.{scale}
use Rattle.methodology.specs.Contribution.{counts}
use Rattle.methodology.specs.Refusals.{clear, is_open, opening_rows, opening_refusal}
use Rattle.methodology.proofs.Passed.{passed, either, number_rises}
use Rattle.quotient.specs.Ranges.{greatest_total}
use Rattle.fund.specs.Shares.{plus_each}
use Rattle.validation.specs.Passing.{Opened}
use Rattle.validation.proofs.OpeningPasses.{opening_leaves}
use Rattle.period.specs.declared.Period.{Period}
use Rattle.period.specs.Calls.{fresh_period, held_by, in_range, status_of, opening_row, opened_period, total_by, day_row, share_at, reported_by, sized_period, closing_row, closed_period}
use Rattle.period.specs.Follows.{Reached, fresh, by_opening, by_day, by_closing}
use Rattle.period.proofs.Sizing.{Admits, passes_all, reported_few, share_few}

-- an opening: a list of n numbers is as it was, put in its places and taken from them
list_back : (n : ℕ) (l : List ℕ) → length l ≡ n → n ≤ 32 → take n (map (λ i. get_or l i 0) (range_with_len 0 32)) ≡ l
list_back n l long few = take-map-range_with_len (λ i. get_or l i 0) 0 32 n few ∙ sym (fill_by_all _ l n 0 long (λ i h. refl))

pub opening_back : (o : Opening) → length o.groups ≡ o.n → length o.firsts ≡ o.n → length o.lasts ≡ o.n → o.n ≤ 32 → held_by (opened_period o) ≡ o
opening_back o groups firsts lasts few =
    rw (list_back o.n o.groups groups few, list_back o.n o.firsts firsts few, list_back o.n o.lasts lasts few) refl

-- rows 1 and 10 let it pass
opening_good : (p : Period) (o : Opening) → opening_row p o ≡ clear → opening_rows o ≡ clear
unfolding opening_row opening_refusal
opening_good p o e = (passed OutOfTurn (is_open (status_of p)) _ e).1

pub opening_passed : (p : Period) (o : Opening) → opening_row p o ≡ clear → Opened o
opening_passed p o e = opening_leaves o (opening_good p o e)

opened_in_range : (o : Opening) → opening_rows o ≡ clear → in_range (opened_period o) ≡ true
unfolding in_range
opened_in_range o e =
    let l = (opening_leaves o e).in_limits in
    rw (opening_back o l.groups_long l.firsts_long l.lasts_long l.members_few, e) refl

-- a day that the table lets pass
module _ (p : Period) (d : DayInput) {room : ℕ} (s : Admits p d room) where
  -- the sums are at most D shares of the whole each, with this day where it counts, and without it
  sums_with : 0 < total_by p d → list_any (ltb ((p.accrued.days + 1) * scale)) (plus_each p.accrued.sums (share_at p d)) ≡ false
  sums_with positive =
      let most = (p.accrued.days + 1) * scale in
      let sum : ℕ → ℕ = λ i. get_or p.accrued.sums i 0 + share_at p d i in
      any_map (ltb most) sum (range_with_len 0 32)
      ∙ none_any (λ i. ltb most (sum i)) (range_with_len 0 32) (λ i m. le-ltb most _ (omega (arith, s.in_range_lem.sums i, share_few p d positive i)))

  sums_without : list_any (ltb (p.accrued.days * scale)) p.accrued.sums ≡ false
  sums_without =
      let most = p.accrued.days * scale in
      none_any (ltb most) p.accrued.sums (λ x m. le-ltb most x (by_index (λ x. x ≤ most) p.accrued.sums 0 (λ i l. s.in_range_lem.sums i) x m))

  pub sized_in_range : in_range (sized_period p d) ≡ true
  unfolding in_range
  sized_in_range = by (counts (total_by p d)) refl
    where
      rises : (d.terms.number ≤ 31) × (p.accrued.last < d.terms.number)
      rises = number_rises p.accrued.last d.terms.number s.rows.number

      by : (t : Bool) → counts (total_by p d) ≡ t → in_range (sized_period p d) ≡ true
      by true e =
          rw (
            e,
            le-leb d.terms.number 31 rises.0,
            le-leb (p.accrued.days + 1) d.terms.number (omega (arith, rises.1, s.in_range_lem.counted)),
            le-leb (reported_by p d) greatest_total (reported_few s),
            s.in_range_lem.opened,
            sums_with (ltb-true 0 (total_by p d) e),
          )
      by false e =
          rw (
            e,
            le-leb d.terms.number 31 rises.0,
            le-leb p.accrued.days d.terms.number (omega (arith, rises.1, s.in_range_lem.counted)),
            le-leb (reported_by p d) greatest_total (reported_few s),
            s.in_range_lem.opened,
            sums_without,
          )

abbrev Sound : Period → Type 0
Sound p = is_open p.status ≡ true → in_range p ≡ true

opening_sound : (p : Period) (o : Opening) → opening_row p o ≡ clear → Sound (opened_period o)
opening_sound p o e = λ q. opened_in_range o (opening_good p o e)

day_sound : (p : Period) (d : DayInput) (room : ℕ) → day_row p d room ≡ clear → Sound (sized_period p d)
day_sound p d room e = λ q. sized_in_range p d (passes_all p d room e)

not_open : (p : Period) → is_open p.status ≡ false → Sound p
not_open p e q = absurd (true≢false (sym q ∙ e))

sound : {p : Period} → Reached p → Sound p
sound fresh = not_open fresh_period refl
sound (by_opening {p} {o} w m) = subst Sound (sym m.period) (either Sound (opening_row p o) (opened_period o) p (opening_sound p o) (sound w))
sound (by_day {p} {d} {before} w m) = subst Sound (sym m.period) (either Sound (day_row p d (length before)) (sized_period p d) p (day_sound p d (length before)) (sound w))
sound (by_closing {p} {before} w m) = subst Sound (sym m.period) (either Sound (closing_row p (length before)) (closed_period p) p (λ e. not_open (closed_period p) refl) (sound w))

-- the theorem: on such a period the status that counts is open just when its status is
pub status_counts : {p : Period} → Reached p → is_open (status_of p) ≡ is_open p.status
status_counts {p} r = by p.status (in_range p) refl refl
  where
    by : (x : Status) (b : Bool) → p.status ≡ x → in_range p ≡ b → is_open (cond b x Closed) ≡ is_open x
    by x true e f = refl
    by Fresh false e f = refl
    by Open false e f = absurd (true≢false (sym (sound r (rw e)) ∙ f))
    by Closed false e f = refl
