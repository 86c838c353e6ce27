-- `first_bad_heading` meets its contract. The invariant: what is left of the search, after the heading before i.
use mathlib.Core.Path.{◌≡◌}
use Prim.Native.Nat.{◌+◌}
use lib.ListN.{drop}
use Rattle.methodology.specs.Account.{nobody}
use Rattle.methodology.specs.Refusals.{first_bad_heading}
use Rattle.validation.specs.Slices.{listed}
use Rattle.validation.proofs.first_bad_heading.Given as goal

abbrev pub invariant-loop-i : goal.invariant-loop-i
invariant-loop-i l =
    let o = listed l.opening in
    first_bad_heading o l.number nobody l.headings ≡ l.i + first_bad_heading o l.number l.prev (drop l.i l.headings)
