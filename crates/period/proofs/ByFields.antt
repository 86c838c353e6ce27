-- What days come to is the same where its fields are.
use mathlib.Core.Path.{◌≡◌}
use Rattle.period.specs.declared.Accrued.{Accrued}

pub by_fields : {a b : Accrued} → a.last ≡ b.last → a.days ≡ b.days → a.highest ≡ b.highest → a.sums ≡ b.sums → a ≡ b
by_fields last days highest sums = λ i. record { last = last i; days = days i; highest = highest i; sums = sums i }
