-- What a period in range has in its fields, and what rows 2 and 4 leave of a day or a closing.
use mathlib.Core.Path.{◌≡◌, refl, sym}
use mathlib.Core.Bool.{Bool, true, false, not, cond, true≢false}
use mathlib.Core.List.{List}
use Prim.Native.Nat.{ℕ, ◌*◌, ◌≤◌, ◌<◌}
use native.Mathlib.Omega.{arith}
use lib.Dec.{leb, ltb, eqb}
use lib.ListN.{length, get_or, length-take}
use lib.Seq.{get_or-take}
use borrow.Author.Tests.{leb-true, ltb-false, le-ltb, lt-ltb, eqb-true, not-true, not-false}
use Rattle.std.specs.Prelude.{Ok, Err}
use Rattle.std.specs.List.{list_any}
use Rattle.std.specs.Result.{is_ok}
use Rattle.numbers.proofs.Tests.{both}
use Rattle.numbers.proofs.Lists.{mem_at, at_any, any_false}
use Rattle.methodology.specs.declared.Opening.{Opening}
use Rattle.methodology.specs.declared.Refusal.TheVariants.{OutOfTurn, BadLengths}
use Rattle.methodology.specs.declared.Status.{Status}
use Rattle.methodology.specs.declared.Status.TheVariants.{Closed}
use Rattle.methodology.specs.Day.{scale}
use Rattle.methodology.specs.Refusals.{Verdict, clear, row◌when◌else◌, is_open, bad_opening, opening_rows, closing_refusal}
use Rattle.methodology.proofs.Passed.{passed}
use Rattle.quotient.specs.Ranges.{greatest_total, Charge}
use Rattle.validation.specs.Passing.{InLimits}
use Rattle.validation.proofs.OpeningPasses.{opening_leaves}
use Rattle.period.specs.declared.Period.{Period}
use Rattle.period.specs.Calls.{held_by, in_range, status_of, output_row, closing_row, sums_held}

pub record Ranged (p : Period) : Type 0 where
  pub month : p.accrued.last ≤ 31
  pub counted : p.accrued.days ≤ p.accrued.last
  pub bounded : p.accrued.highest ≤ greatest_total
  pub opened : opening_rows (held_by p) ≡ clear
  pub sums : (i : ℕ) → get_or p.accrued.sums i 0 ≤ p.accrued.days * scale

-- row 1 is met by more members than there are places
pub many_members : (o : Opening) → 32 < o.n → is_ok (opening_rows o) ≡ false
unfolding opening_rows bad_opening row◌when◌else◌
many_members o h = rw (le-ltb o.n 1 (omega arith), lt-ltb 32 o.n h) refl

-- a table that lets a call pass
is_passed : (x : Verdict) → is_ok x ≡ true → x ≡ clear
is_passed (Ok _) e = refl
is_passed (Err met) e = absurd (true≢false (sym e))

-- no number of a list is above `most`
none_above : (most : ℕ) (l : List ℕ) → list_any (ltb most) l ≡ false → (i : ℕ) → get_or l i 0 ≤ most
none_above most l e = at_any (λ x. x ≤ most) l 0 (omega arith) (λ i h. ltb-false most (get_or l i 0) (any_false (ltb most) e (mem_at l 0 h)))

pub ranged : (p : Period) → in_range p ≡ true → Ranged p
unfolding in_range
ranged p e =
    let (r₄, e₅) = both _ (not (list_any (ltb (p.accrued.days * scale)) p.accrued.sums)) e in
    let (r₃, e₄) = both _ (is_ok (opening_rows (held_by p))) r₄ in
    let (r₂, e₃) = both _ (leb p.accrued.highest greatest_total) r₃ in
    let (e₁, e₂) = both _ (leb p.accrued.days p.accrued.last) r₂ in
    record {
      month = leb-true _ _ e₁;
      counted = leb-true _ _ e₂;
      bounded = leb-true _ _ e₃;
      opened = is_passed _ e₄;
      sums = none_above (p.accrued.days * scale) p.accrued.sums (not-true _ e₅);
    }

-- a period that counts as open is in range
in_range_by : (b : Bool) (s : Status) → is_open (cond b s Closed) ≡ true → b ≡ true
in_range_by true s e = cc
in_range_by false s e = e

pub open_ranged : (p : Period) → is_open (status_of p) ≡ true → Ranged p
open_ranged p e = ranged p (in_range_by (in_range p) p.status e)

pub held_opened : {p : Period} → Ranged p → InLimits (held_by p)
held_opened {p} r = (opening_leaves (held_by p) r.opened).in_limits

pub charges : {p : Period} → Ranged p → (i : ℕ) → i < length (sums_held p) → Charge p.accrued.highest (get_or (sums_held p) i 0) p.accrued.days
charges {p} r i h =
    let k : i < p.held.n = omega (arith, length-take p.held.n p.accrued.sums) in
    record { bounded = r.bounded; month = omega (arith, r.counted, r.month); shares = rw (get_or-take p.held.n p.accrued.sums i 0 k) (r.sums i) }

-- a day or a closing that rows 2 and 4 let pass
pub record Ready (p : Period) (width room : ℕ) : Type 0 where
  pub in_range_lem : Ranged p
  pub room_long : room ≡ width * p.held.n

pub ready : (p : Period) (width room : ℕ) → output_row p width room ≡ clear → Ready p width room
unfolding output_row
ready p width room e =
    let (o, r) = passed OutOfTurn (not (is_open (status_of p))) _ e in
    let (l, _) = passed BadLengths (not (eqb room (width * p.held.n))) _ r in
    record { in_range_lem = open_ranged p (not-false _ o); room_long = eqb-true _ _ (not-false _ l) }

pub closable : (p : Period) (room : ℕ) → closing_row p room ≡ clear → Ready p 3 room
unfolding closing_row closing_refusal output_row
closable p room e = ready p 3 room e
