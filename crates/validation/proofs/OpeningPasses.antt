-- What rows 1 and 10 of the refusal table leave of an opening, in facts: each of their tests failed.
use mathlib.Core.Path.{◌≡◌, subst, ◌∙◌}
use mathlib.Core.Bool.{Bool, true, false, not}
use Prim.Native.Nat.{ℕ, ◌+◌, ◌-◌, ◌≤◌, ◌<◌}
use native.Mathlib.Omega.{arith}
use lib.Dec.{ltb}
use lib.ListN.{length, get_or}
use Rattle.std.specs.List.{list_any, position_or_len}
use Rattle.std.proofs.lemmas.Bool.Decides.{nat_tests}
use Rattle.std.proofs.lemmas.List.FromFn.{length-range_with_len, get_or-range_with_len}
use Rattle.std.proofs.lemmas.List.Sums.{passes_at_first, fails_before_first, prefix_len-le-length}
use Rattle.numbers.proofs.Lists.{any_false, mem_at}
use Rattle.methodology.specs.declared.Opening.{Opening}
use Rattle.methodology.specs.declared.Refusal.TheVariants.{BadOpening, BadPresence}
use Rattle.methodology.specs.Account.{members, first_day, last_day}
use Rattle.methodology.specs.Refusals.{clear, group_outside, bad_opening, bad_presence, opening_rows}
use Rattle.methodology.proofs.Passed.{passed, inside}
use Rattle.validation.specs.Passing.{InLimits, Opened}

-- a search among the numbers 1 to n: the one that is found passes, and none below it does
module _ (p : ℕ → Bool) (n : ℕ) where
  pub found_passes : position_or_len p (members n) < n → p (position_or_len p (members n) + 1) ≡ true
  found_passes h =
      let first = position_or_len p (members n) in
      subst (λ (m : ℕ). p m ≡ true) (get_or-range_with_len 1 n first 0 h ∙ omega arith)
      (passes_at_first p (members n) 0 (omega (arith, h, length-range_with_len 1 n)))

  pub below_fails : (m : ℕ) → 1 ≤ m → m ≤ n → m ≤ position_or_len p (members n) → p m ≡ false
  below_fails m low high below =
      subst (λ (m : ℕ). p m ≡ false) (get_or-range_with_len 1 n (m - 1) 0 (omega (arith, low, high)) ∙ omega (arith, low))
      (fails_before_first p (members n) (m - 1) 0 (omega (arith, low, below)))

-- row 1
pub in_limits : (o : Opening) → bad_opening o ≡ false → InLimits o
unfolding bad_opening
in_limits o e =
    let long : length o.groups ≡ o.n = grind (arith, nat_tests) in
    let groups : list_any group_outside o.groups ≡ false = grind (arith, nat_tests) in
    record {
      members_some = grind (arith, nat_tests);
      members_few = grind (arith, nat_tests);
      scenarios_some = grind (arith, nat_tests);
      scenarios_few = grind (arith, nat_tests);
      groups_long = long;
      group_few = λ i h. (inside _ _ (get_or o.groups i 0) (any_false group_outside groups (mem_at o.groups 0 (omega arith)))).1;
      firsts_long = grind (arith, nat_tests);
      lasts_long = grind (arith, nat_tests);
    }

-- rows 1 and 10
pub opening_leaves : (o : Opening) → opening_rows o ≡ clear → Opened o
unfolding opening_rows
opening_leaves o e =
    let bad = λ (m : ℕ). bad_presence (first_day o m) (last_day o m) in
    let bad10 = position_or_len bad (members o.n) in
    let (e1, r) = passed BadOpening (bad_opening o) _ e in
    let (e10, _) = passed (BadPresence (bad10 + 1)) (ltb bad10 o.n) clear r in
    let all : bad10 ≡ o.n = grind (arith, nat_tests, prefix_len-le-length (λ m. not (bad m)) (members o.n), length-range_with_len 1 o.n) in
    let good_at : (i : ℕ) → i < o.n → bad_presence (get_or o.firsts i 0) (get_or o.lasts i 0) ≡ false =
    λ i h.
    let place : i + 1 - 1 ≡ i = omega arith in
    rw place at (below_fails bad o.n (i + 1) (omega arith) (omega (arith, h)) (omega (arith, h, all))) in
    record {
      in_limits = in_limits o e1;
      first_some = λ i h. let b = good_at i h in grind (arith, nat_tests);
      in_order = λ i h. let b = good_at i h in grind (arith, nat_tests);
      last_few = λ i h. let b = good_at i h in grind (arith, nat_tests);
    }
