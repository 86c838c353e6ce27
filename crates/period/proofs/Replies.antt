-- Replies by what the refusal table says: the rows that the code has tested are those of the call.
use mathlib.Core.Path.{◌≡◌, refl, sym, ◌∙◌}
use mathlib.Core.Bool.{Bool, true, false, not}
use mathlib.Core.List.{List, [], ◌∷◌, flat_map}
use Prim.Native.Nat.{ℕ}
use native.Mathlib.Omega.{arith}
use lib.ListN.{length}
use Rattle.std.specs.Prelude.{Ok, Err}
use Rattle.numbers.specs.Sums.{Σ}
use Rattle.methodology.specs.declared.Refusal.{Refusal}
use Rattle.methodology.specs.declared.Refusal.TheVariants.{OutOfTurn, BadLengths}
use Rattle.methodology.specs.declared.Status.TheVariants.{Open}
use Rattle.methodology.specs.declared.Opening.{Opening}
use Rattle.methodology.specs.Account.{DayInput}
use Rattle.methodology.specs.Day.{dailies}
use Rattle.methodology.specs.Contribution.{funded, three}
use Rattle.methodology.specs.Refusals.{Verdict, row◌when◌else◌, clear, is_open, bad_output, opening_rows, opening_refusal, day_rows, day_refusal, closing_refusal}
use Rattle.methodology.specs.Register.{if_accepted, accepted, refused_by}
use Rattle.validation.specs.Slices.{in_places}
use Rattle.period.specs.declared.Period.{Period}
use Rattle.period.specs.Calls.{without_days, held_by, status_of, opening_row, OpeningMeets, output_row, accounts_brought, total_by, day_row, reported_by, sized_period, DayMeets, closing_row, sums_held, charge_by, closed_period, ClosingMeets}

-- an opening, which is held with its lists in their places
pub placed : (o : Opening) {groups firsts lasts : List ℕ} → groups ≡ (in_places o).groups → firsts ≡ (in_places o).firsts → lasts ≡ (in_places o).lasts
    → record { n = o.n; k = o.k; groups = groups; firsts = firsts; lasts = lasts } ≡ in_places o
placed o g f l = λ i. record { n = o.n; k = o.k; groups = g i; firsts = f i; lasts = l i }

module _ (p : Period) (o : Opening) where
  opening_refused : (met : Refusal) → opening_row p o ≡ Err met → OpeningMeets p o (refused_by met) p
  opening_refused met e = record { answer = rw e; period = rw e }

  pub while_open : is_open (status_of p) ≡ true → OpeningMeets p o (refused_by OutOfTurn) p
  unfolding opening_row opening_refusal row◌when◌else◌
  while_open e = opening_refused OutOfTurn (rw e)

  module _ (closed : is_open (status_of p) ≡ false) where
    row_is : opening_row p o ≡ opening_rows o
    unfolding opening_row opening_refusal row◌when◌else◌
    row_is = rw closed refl

    pub row_met : (met : Refusal) → opening_rows o ≡ Err met → OpeningMeets p o (refused_by met) p
    row_met met e = opening_refused met (row_is ∙ e)

    pub opening_accepted : opening_rows o ≡ clear → {held : Opening} → held ≡ in_places o → OpeningMeets p o (accepted []) (without_days Open held)
    opening_accepted e q =
        let none : opening_row p o ≡ clear = row_is ∙ e in
        record { answer = rw none; period = rw (none, q) }

-- a closing
module _ (p : Period) (out : List ℕ) where
  pub closing_refused : (met : Refusal) → output_row p 3 (length out) ≡ Err met → ClosingMeets p out (refused_by met) p out
  unfolding closing_row closing_refusal output_row
  closing_refused met e = record { answer = rw e; period = rw e; buffer = rw e }

  pub closing_accepted : output_row p 3 (length out) ≡ clear → (funds : ℕ) (after : List ℕ)
      → funds ≡ Σ (sums_held p) (λ s. funded (charge_by p s)) → after ≡ flat_map (λ s. three (charge_by p s)) (sums_held p)
      → ClosingMeets p out (accepted (p.accrued.days ∷ p.accrued.highest ∷ funds ∷ [])) (closed_period p) after
  unfolding closing_row closing_refusal output_row
  closing_accepted e funds after f w = record { answer = rw (e, f); period = rw e; buffer = rw (e, w) }

-- a day: the rows of its output, and then those of what it brings
module _ (p : Period) (d : DayInput) (room : ℕ) where
  day_split :
      let lent = output_row p 5 room in
      day_row p d room ≡ if_accepted lent (day_rows (held_by p) p.accrued.last d) lent
  unfolding day_row day_refusal output_row row◌when◌else◌
  day_split = by (not (is_open (status_of p))) (bad_output (held_by p) room) (day_rows (held_by p) p.accrued.last d)
    where
      by : (a b : Bool) (rest : Verdict)
          → let lent = row OutOfTurn when a else row BadLengths when b else clear in
          row OutOfTurn when a else row BadLengths when b else rest ≡ if_accepted lent rest lent
      by true b rest = refl
      by false true rest = refl
      by false false rest = refl

  pub day_passes : day_row p d room ≡ clear → (output_row p 5 room ≡ clear) × (day_rows (held_by p) p.accrued.last d ≡ clear)
  day_passes e = by (output_row p 5 room) (day_rows (held_by p) p.accrued.last d) (sym day_split ∙ e)
    where
      by : (lent brought : Verdict) → if_accepted lent brought lent ≡ clear → (lent ≡ clear) × (brought ≡ clear)
      by (Ok _) brought e = (refl, e)
      by (Err met) brought e = let z : ◌≡◌ {A = ℕ} 0 1 = cc in absurd (omega arith)

module _ (p : Period) (d : DayInput) (out : List ℕ) where
  day_refused : (met : Refusal) → day_row p d (length out) ≡ Err met → DayMeets p d out (refused_by met) p out
  day_refused met e = record { answer = rw e; period = rw e; buffer = rw e }

  pub output_refused : (met : Refusal) → output_row p 5 (length out) ≡ Err met → DayMeets p d out (refused_by met) p out
  output_refused met e = day_refused met (day_split p d (length out) ∙ rw e)

  module _ (lent : output_row p 5 (length out) ≡ clear) where
    pub input_refused : (met : Refusal) → day_rows (held_by p) p.accrued.last d ≡ Err met → DayMeets p d out (refused_by met) p out
    input_refused met e = day_refused met (day_split p d (length out) ∙ rw (lent, e))

    pub day_accepted : day_rows (held_by p) p.accrued.last d ≡ clear → {t reported : ℕ} {left : Period} {after : List ℕ}
        → t ≡ total_by p d → reported ≡ reported_by p d → left ≡ sized_period p d → after ≡ dailies (held_by p) reported (accounts_brought p d)
        → DayMeets p d out (accepted (t ∷ reported ∷ [])) left after
    day_accepted brought e f g w =
        let none : day_row p d (length out) ≡ clear = day_split p d (length out) ∙ rw (lent, brought) in
        record { answer = rw (none, e, f); period = rw (none, g); buffer = rw (none, w, f) }
