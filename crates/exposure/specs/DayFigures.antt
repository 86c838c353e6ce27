-- What the program finds of a day.
use Rattle.std.specs.Prelude.{◌≡◌, List, map, ℕ, ◌≤◌, ◌<◌, get_or, take}
use Rattle.numbers.specs.Sums.{Σ}
use Rattle.methodology.specs.declared.Opening.{Opening}
use Rattle.methodology.specs.Account.{DayInput, Account, accounts, members}
use Rattle.methodology.specs.Member.{loss}
use Rattle.methodology.specs.Day.{own_max_eul}
use Rattle.validation.specs.Slices.{listed, Within, Rising}
use Rattle.exposure.specs.declared.day.Losses.{Losses}
use Rattle.exposure.specs.declared.day.Figures.{Figures}

-- a day of a period with n members and k scenarios, as rows 1 and 4 to 6 of the refusal table leave it
pub record Sizable (n k : ℕ) (d : DayInput) : Type 0 where
  pub within : Within k d.headings d.npvs d.margins d.extras
  pub rising : Rising d.headings
  pub members_few : n ≤ 32
  pub scenarios_few : k ≤ 16

-- each member's loss, and T
pub record LossesAre (n k : ℕ) (accts : List Account) (r : Losses) : Type 0 where
  pub each : take n r.each ≡ map (loss k accts) (members n)
  pub total : r.total ≡ Σ (members n) (loss k accts)

-- an opening's group numbers within their limit, as row 1 leaves them
pub record Grouped (o : Opening) : Type 0 where
  pub few : (i : ℕ) → i < o.n → get_or o.groups i 0 ≤ 32

-- a day's own figures
pub record FiguresAre (o : Opening) (d : DayInput) (r : Figures) : Type 0 where
  pub losses : LossesAre o.n o.k (accounts o.k d) r.losses
  pub top : r.top ≡ own_max_eul (listed o) (accounts o.k d)
