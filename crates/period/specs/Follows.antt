-- A period and a register that the same calls have led to.
use Rattle.std.specs.Prelude.{List, ◌≡◌, ℕ, ◌≤◌, length}
use Rattle.methodology.specs.declared.Opening.{Opening}
use Rattle.methodology.specs.Account.{DayInput}
use Rattle.methodology.specs.Register.{Register, Answer}
use Rattle.period.specs.declared.Period.{Period}
use Rattle.period.specs.Calls.{fresh_period, OpeningMeets, DayMeets, ClosingMeets}
use Rattle.period.specs.Registered.{period_of}

-- the periods that calls return, from a fresh one on
pub data Reached : Period → Type 0 where
  fresh : Reached fresh_period
  by_opening : {p left : Period} {o : Opening} {said : Answer} → Reached p → OpeningMeets p o said left → Reached left
  by_day : {p left : Period} {d : DayInput} {before after : List ℕ} {said : Answer} → Reached p → DayMeets p d before said left after → Reached left
  by_closing : {p left : Period} {before after : List ℕ} {said : Answer} → Reached p → ClosingMeets p before said left after → Reached left

-- what every opening has that a register holds to which calls lead
pub record Good (o : Opening) : Type 0 where
  pub groups_long : length o.groups ≡ o.n
  pub firsts_long : length o.firsts ≡ o.n
  pub lasts_long : length o.lasts ≡ o.n
  pub members_few : o.n ≤ 32

-- a register, and the period that the same calls have left
pub record Follows (g : Register) (p : Period) : Type 0 where
  pub is : p ≡ period_of g
  pub reached : Reached p
  pub good : Good g.held
