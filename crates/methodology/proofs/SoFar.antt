-- The Max EUL that a day reports (document 02, Change 3), by the days before it: it is M of the days up to it, the greater of its own and
-- of what was reported before.
use mathlib.Core.Path.{◌≡◌, refl}
use mathlib.Core.List.{List, ◌∷◌}
use Prim.Native.Nat.{ℕ, max}
use Rattle.numbers.specs.Sums.{greatest}
use Rattle.methodology.specs.declared.Opening.{Opening}
use Rattle.methodology.specs.Account.{DayInput, accounts}
use Rattle.methodology.specs.Day.{own_max_eul}
use Rattle.methodology.specs.Contribution.{KeptDay, reported_max_eul, highest}
use Rattle.methodology.specs.Refusals.{clear}
use Rattle.methodology.specs.Register.{Call, Register, refusal, accept, step}
use Rattle.methodology.proofs.Passed.{step_clear}

module _ (o : Opening) where
  pub reported_is_m : (days : List KeptDay) → reported_max_eul o days ≡ highest o days
  unfolding reported_max_eul highest
  reported_is_m days = refl

  pub reported_more : (d : KeptDay) (days : List KeptDay) → reported_max_eul o (d ∷ days) ≡ max (own_max_eul o d.accounts) (highest o days)
  unfolding reported_max_eul highest greatest
  reported_more d days = refl

-- an accepted day's, by the register before it
pub day_reports : (g : Register) (d : DayInput) (room : ℕ) → refusal g (Call.day d room) ≡ clear
    → let after = step g (Call.day d room) in
    reported_max_eul after.held after.days ≡ max (own_max_eul g.held (accounts g.held.k d)) (highest g.held g.days)
unfolding accept
day_reports g d room passes =
    rw (step_clear g (Call.day d room) passes) (reported_more g.held (record { number = d.terms.number; accounts = accounts g.held.k d }) g.days)
