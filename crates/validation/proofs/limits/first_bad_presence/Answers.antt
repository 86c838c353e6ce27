-- `first_bad_presence` meets its contract. The invariant: no member before place i is bad.
use mathlib.Core.Path.{◌≡◌, sym}
use mathlib.Core.Bool.{Bool, true, false}
use mathlib.Core.List.{List}
use Prim.Native.Nat.{ℕ, ◌+◌, ◌-◌, ◌≤◌, ◌<◌}
use native.Mathlib.Omega.{arith}
use lib.ListN.{length, get_or}
use Rattle.std.specs.List.{position_or_len}
use Rattle.std.proofs.lemmas.Bool.Decides.{nat_tests}
use Rattle.std.proofs.lemmas.List.FromFn.{length-range_with_len, get_or-range_with_len}
use Rattle.std.proofs.lemmas.List.Sums.{position_or_len_is}
use Rattle.numbers.proofs.Lists.{NoneBefore, none_before, none_more}
use Rattle.methodology.specs.Account.{members}
use Rattle.methodology.specs.Refusals.{bad_presence}
use Rattle.validation.proofs.limits.first_bad_presence.Goals as goal

-- the search among the members, of whom the one in place i has the number i + 1: one further, at a bad one, and at the end
module _ (firsts lasts : List ℕ) (i : ℕ) where
  abbrev bad : (m : ℕ) → Bool
  bad m = bad_presence (get_or firsts (m - 1) 0) (get_or lasts (m - 1) 0)

  abbrev all : List ℕ
  all = members (length firsts)

  bad_here : i < length firsts → {b : Bool} → bad_presence (get_or firsts i 0) (get_or lasts i 0) ≡ b → bad (get_or all i 0) ≡ b
  bad_here l e =
      let place : 1 + i - 1 ≡ i = omega arith in
      rw (get_or-range_with_len 1 (length firsts) i 0 l, place) e

  further : i < length firsts → bad_presence (get_or firsts i 0) (get_or lasts i 0) ≡ false → NoneBefore bad all 0 i → NoneBefore bad all 0 (i + 1)
  further l e = none_more bad all 0 i (omega (arith, l, length-range_with_len 1 (length firsts))) (bad_here l e)

  found : i < length firsts → bad_presence (get_or firsts i 0) (get_or lasts i 0) ≡ true → NoneBefore bad all 0 i → position_or_len bad all ≡ i
  found l e s = position_or_len_is bad all i 0 s.high s.fails (λ h. bad_here l e)

  at_end : length firsts ≤ i → NoneBefore bad all 0 i → position_or_len bad all ≡ i
  at_end l s =
      position_or_len_is bad all i 0 s.high s.fails
      (λ h. let no_way : ⊥ = omega (arith, h, l, length-range_with_len 1 (length firsts)) in absurd no_way)

pub loop-i-init : goal.loop-i-init
loop-i-init c = none_before _ _ _

pub returns-then-bad_presence : goal.returns-then-bad_presence
returns-then-bad_presence c =
    let at = found c.args.firsts.now c.args.lasts.now c.loop-i.i c.loop-i-test.true (sym c.if-bad_presence.ensures) c.loop-i.invariant in
    grind (arith, nat_tests)

pub loop-i-preserved : goal.loop-i-preserved
loop-i-preserved c = further c.args.firsts.now c.args.lasts.now c.loop-i.i c.loop-i-test.true (sym c.if-bad_presence.ensures) c.loop-i.invariant

pub returns : goal.returns
returns c =
    let none_found = at_end c.args.firsts.now c.args.lasts.now c.loop-i.i c.loop-i-test.false c.loop-i.invariant in
    grind (arith, nat_tests)
