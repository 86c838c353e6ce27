-- How the arguments and answers of the program are read as document 01's. Nothing proves a reading: compare these lines with document 01.
-- What a day brings is read by `day_brought`, in Brought.antt of methodology.
use Rattle.std.specs.Prelude.{List, [], ◌∷◌, ℕ, Result, Ok, Err}
use Rattle.methodology.specs.declared.Opening.{Opening}
use Rattle.methodology.specs.declared.Refusal.{Refusal}
use Rattle.methodology.specs.Register.{Answer, accepted, refused_by}
use Rattle.period.specs.declared.DayReturns.{DayReturns}
use Rattle.period.specs.declared.ClosingReturns.{ClosingReturns}

-- what an opening call brings
abbrev pub brought : (n k : ℕ) → (groups firsts lasts : List ℕ) → Opening
brought n k groups firsts lasts = record { n = n; k = k; groups = groups; firsts = firsts; lasts = lasts }

-- what an accepted call returns, in document 01's order; an opening returns nothing
abbrev pub opening_returned : Unit {0} → List ℕ
opening_returned _ = []

abbrev pub day_returned : DayReturns → List ℕ
day_returned r = r.total ∷ r.max ∷ []

abbrev pub closing_returned : ClosingReturns → List ℕ
closing_returned r = r.days ∷ r.highest ∷ r.funds ∷ []

-- document 01's answer for an outcome: what the call returned, or its refusal's number and index
abbrev pub answer_of : {A : Type 0} → (returned : A → List ℕ) → Result A Refusal → Answer
answer_of returned (Ok figures) = accepted (returned figures)
answer_of returned (Err refusal) = refused_by refusal
