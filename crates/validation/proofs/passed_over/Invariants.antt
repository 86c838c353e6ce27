-- `passed_over` meets its contract. The invariant: what is asked of all members between is what is left to ask, of m and those after it.
use Rattle.std.proofs.Common.{◌≡◌, ◌-◌}
use Rattle.methodology.specs.Refusals.{passed_over}
use Rattle.validation.specs.Slices.{listed}
use Rattle.validation.proofs.passed_over.Given as goal

abbrev pub invariant-loop-m : goal.invariant-loop-m
invariant-loop-m l = let o = listed l.opening in passed_over o l.number l.from l.to ≡ passed_over o l.number (l.m - 1) l.to
