-- What the refusal table leaves is all that the figures of a day ask for.
use Rattle.methodology.specs.declared.Opening.{Opening}
use Rattle.methodology.specs.Account.{DayInput}
use Rattle.validation.specs.Passing.{InLimits, Passed}
use Rattle.exposure.specs.DayFigures.{Sizable, Grouped}

pub admitted : (o : Opening) (d : DayInput) → InLimits o → Passed o d → Sizable o.n o.k d
admitted o d l p = record { within = p.within; rising = p.rising; members_few = l.members_few; scenarios_few = l.scenarios_few }

pub grouped : (o : Opening) → InLimits o → Grouped o
grouped o l = record { few = l.group_few }
