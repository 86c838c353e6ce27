-- The period that calls have left, field by field from what the register holds after the same calls.
use Rattle.std.specs.Prelude.{cond, List, map, ℕ, ◌+◌, ltb, length}
use Rattle.std.specs.List.{range_with_len}
use Rattle.methodology.specs.declared.Opening.{Opening}
use Rattle.methodology.specs.Contribution.{KeptDay, highest, counted, sum_of_shares}
use Rattle.methodology.specs.Register.{Register, last_number}
use Rattle.validation.specs.Slices.{in_places}
use Rattle.period.specs.declared.Accrued.{Accrued}
use Rattle.period.specs.declared.Period.{Period}

-- the sum of member i + 1's shares, 0 past member n
abbrev pub sum_at : Opening → List KeptDay → (i : ℕ) → ℕ
sum_at o days i = cond (ltb i o.n) (sum_of_shares o days (i + 1)) 0

-- what the days kept come to
abbrev pub accrued_over : Opening → List KeptDay → Accrued
accrued_over o days =
    record {
      last = last_number days;
      days = length (counted o days);
      highest = highest o days;
      sums = map (sum_at o days) (range_with_len 0 32);
    }

unfoldable pub period_of : Register → Period
period_of g = record { status = g.status; held = in_places g.held; accrued = accrued_over g.held g.days }
