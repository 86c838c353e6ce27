-- What a closing writes for a list of sums is `contributions`, and the total funded `total_funded`, when these are the sums of the members' shares.
use mathlib.Core.Path.{◌≡◌}
use mathlib.Core.List.{List, map, flat_map}
use Prim.Native.Nat.{ℕ}
use lib.ListN.{length, take}
use Rattle.numbers.specs.Sums.{Σ}
use Rattle.numbers.proofs.Rows.{flat_map_map}
use Rattle.numbers.proofs.Sums.{Σ-map}
use Rattle.methodology.specs.declared.Opening.{Opening}
use Rattle.methodology.specs.Account.{members}
use Rattle.methodology.specs.Contribution.{KeptDay, highest, counted, sum_of_shares, charge, raw, funded, three, contributions, total_funded}

module _ (o : Opening) (days : List KeptDay) (sums : List ℕ) (h : take o.n sums ≡ map (sum_of_shares o days) (members o.n)) where
  pub are_contributions : flat_map (λ s. three (charge (highest o days) s (length (counted o days)))) (take o.n sums) ≡ contributions o days
  unfolding contributions raw
  are_contributions = rw (h, flat_map_map)

  pub is_total_funded : Σ (take o.n sums) (λ s. funded (charge (highest o days) s (length (counted o days)))) ≡ total_funded o days
  unfolding total_funded raw
  is_total_funded = rw (h, Σ-map)
