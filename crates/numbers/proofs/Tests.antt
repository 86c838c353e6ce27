-- What two tests joined say of each.
use mathlib.Core.Path.{◌≡◌}
use mathlib.Core.Bool.{Bool, true, false, ◌&&◌, ◌||◌}
use mathlib.Mathlib.Data.Bool.Basic.{and-eq-true-eq-eq-true-and-eq-true, or-eq-false-eq-eq-false-and-eq-false}

-- both parts of a disjunction that fails
pub neither : (s t : Bool) → (s || t) ≡ false → (s ≡ false) × (t ≡ false)
neither s t = (or-eq-false-eq-eq-false-and-eq-false s t).0

pub both : (s t : Bool) → (s && t) ≡ true → (s ≡ true) × (t ≡ true)
both s t = (and-eq-true-eq-eq-true-and-eq-true s t).0
