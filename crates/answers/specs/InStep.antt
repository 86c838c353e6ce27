-- A register and the period that the same calls have left are in step, and what the reader of a text knows of them.
use Rattle.std.specs.Prelude.{◌≡◌, ℕ}
use Rattle.methodology.specs.Register.{Register}
use Rattle.period.specs.declared.Period.{Period}
use Rattle.period.specs.Follows.{Follows}

-- n members and k scenarios
pub record InStep (g : Register) (period : Period) (n k : ℕ) : Type 0 where
  pub follows : Follows g period
  pub members : g.held.n ≡ n
  pub scenarios : g.held.k ≡ k
