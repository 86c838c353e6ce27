-- Who is present, in the tests of row 5: the search for a member that is passed over, and, where no heading is bad, that a present member has
-- an account or comes after the last one's.
use mathlib.Core.Path.{◌≡◌, refl, sym, ap, ◌∙◌}
use mathlib.Core.Bool.{Bool, true, false, not, ◌&&◌, true≢false}
use mathlib.Core.List.{List, ◌∷◌}
use Prim.Native.Nat.{ℕ, zero, suc, ◌+◌, ◌-◌, ◌≤◌, ◌<◌}
use native.Mathlib.Omega.{arith}
use lib.Dec.{ltb, eqb}
use lib.ListN.{length, get_or}
use borrow.Author.Tests.{ltb-false, lt-ltb, ltb-true, eqb-true, eqb-false, ne_eqb}
use Rattle.std.proofs.lemmas.Bool.Decides.{nat_tests}
use Rattle.numbers.proofs.Lists.{◌∈◌, mem_at, any_false, by_index, by_steps, mem_range, range_mem, any_eq, some_any, none_any}
use Rattle.methodology.specs.declared.Opening.{Opening}
use Rattle.methodology.specs.declared.Heading.{Heading}
use Rattle.methodology.specs.Account.{members, present, nobody}
use Rattle.methodology.specs.Refusals.{passed_over, first_bad_heading, last_missing}
use Rattle.validation.specs.Passing.{has_account, has_house}
use Rattle.validation.proofs.Headings.{Fine, all_fine}

module _ (o : Opening) (number : ℕ) where
  pub over_at : (from m to : ℕ) → m ∈ members o.n → ltb from m ≡ true → ltb m to ≡ true → present o number m ≡ true → passed_over o number from to ≡ true
  unfolding passed_over
  over_at from m to i after before there = some_any _ i (rw (after, before, there) refl)

  -- none is passed over where all between are absent, so not where nobody is between
  pub over_absent : (from to : ℕ) → ((m : ℕ) → from < m → m < to → present o number m ≡ false) → passed_over o number from to ≡ false
  unfolding passed_over
  over_absent from to absent = none_any _ (members o.n) (λ m i. by m (ltb from m) (ltb m to) refl refl)
    where
      by : (m : ℕ) (s t : Bool) → ltb from m ≡ s → ltb m to ≡ t → (s && t && present o number m) ≡ false
      by m false t p q = refl
      by m true false p q = refl
      by m true true p q = rw (absent m (ltb-true from m p) (ltb-true m to q)) refl

  pub over_none : (from to : ℕ) → to ≤ suc from → passed_over o number from to ≡ false
  over_none from to h = over_absent from to (λ m k l. absurd (let no_way : ⊥ = omega (arith, h, k, l) in no_way))

  -- the search among those after m - 1: at m, and past it
  pub over_here : (m to : ℕ) → 1 ≤ m → m < to → m ≤ o.n → present o number m ≡ true → passed_over o number (m - 1) to ≡ true
  over_here m to h k l e = over_at (m - 1) m to (range_mem 1 o.n h (omega arith)) (lt-ltb (m - 1) m (omega arith)) (lt-ltb m to k) e

  pub over_more : (m to : ℕ) → 1 ≤ m → present o number m ≡ false → passed_over o number (m - 1) to ≡ passed_over o number (m + 1 - 1) to
  unfolding passed_over
  over_more m to h e = any_eq _ _ (members o.n) (λ x i. at_each x (eqb x m))
    where
      at_each : (x : ℕ) → Bool → (ltb (m - 1) x && ltb x to && present o number x) ≡ (ltb (m + 1 - 1) x && ltb x to && present o number x)
      at_each x t = grind (arith, nat_tests)

-- a house account is an account
with_house : (hs : List Heading) (m : ℕ) → has_account hs m ≡ false → has_house hs m ≡ false
with_house hs m e = none_any _ hs (λ h i. rw (any_false (λ (h : Heading). eqb h.member m) e i) refl)

module _ (o : Opening) (number : ℕ) (hs : List Heading) (good : first_bad_heading o number nobody hs ≡ length hs) where
  fine_at : (i : ℕ) → i < length hs → Fine o number (get_or (nobody ∷ hs) i nobody) (get_or hs i nobody)
  fine_at = all_fine o number hs good

  -- whoever has an account is there
  there_all : (h : Heading) → h ∈ hs → present o number h.member ≡ true
  there_all = by_index (λ h. present o number h.member ≡ true) hs nobody (λ i l. (fine_at i l).there)

  pub no_account_if : (m : ℕ) → present o number m ≡ false → has_account hs m ≡ false
  no_account_if m e = none_any _ hs (λ h i. by h (eqb h.member m) refl (there_all h i))
    where
      by : (h : Heading) (t : Bool) → eqb h.member m ≡ t → present o number h.member ≡ true → t ≡ false
      by h true q there = absurd (true≢false (sym there ∙ ap (present o number) (eqb-true h.member m q) ∙ e))
      by h false q there = refl

  -- a member that is there, and not after the account before index i, has its house account
  up_to : (m : ℕ) → 1 ≤ m → m ≤ o.n → present o number m ≡ true → (i : ℕ) → i ≤ length hs → m ≤ (get_or (nobody ∷ hs) i nobody).member → has_house hs m ≡ true
  up_to m some few there zero l h = let no_way : ⊥ = omega (arith, some, h) in absurd no_way
  up_to m some few there (suc i) l h = by (up_to m some few there i (omega (arith, l))) (ltb prev m) (eqb next m) refl refl
    where
      prev : ℕ
      prev = (get_or (nobody ∷ hs) i nobody).member

      next : ℕ
      next = (get_or hs i nobody).member

      by : (m ≤ prev → has_house hs m ≡ true) → (s t : Bool) → ltb prev m ≡ s → eqb next m ≡ t → has_house hs m ≡ true
      by earlier false t q r = earlier (ltb-false prev m q)
      by earlier true true q r =
          let here : i < length hs = omega (arith, l) in
          let first : prev < next = omega (arith, ltb-true prev m q, eqb-true next m r) in
          some_any _ (mem_at hs nobody here) (rw (r, (fine_at i here).house first) refl)
      by earlier true false q r =
          let before : ltb m next ≡ true = lt-ltb m next (omega (arith, h, eqb-false next m r)) in
          let over = over_at o number prev m next (range_mem 1 o.n some (omega (arith, few))) q before there in
          absurd (true≢false (sym over ∙ (fine_at i (omega (arith, l))).none_over))

  -- no account is of a member after the last one's
  pub below_last : (last : ℕ) → last + 1 ≡ length hs → (m : ℕ) → (get_or hs last nobody).member < m → has_account hs m ≡ false
  below_last last e m l =
      let top = (get_or hs last nobody).member in
      let climbs = λ (i : ℕ) (h : i < length hs).
      by_steps (λ j. (get_or hs i nobody).member ≤ (get_or hs j nobody).member) i last (omega (arith, e)) (omega arith)
      (λ j h k s. omega (arith, s, (fine_at (suc j) (omega (arith, e, k))).rising)) in
      none_any _ hs
      (by_index (λ (h : Heading). eqb h.member m ≡ false) hs nobody (λ i h. ne_eqb _ m (λ q. let no_way : ⊥ = omega (arith, climbs i h, l, q) in no_way)))

  -- so one that has none comes after the last account's
  pub missing_is_after : (last : ℕ) → last + 1 ≡ length hs → last_missing o number hs ≡ passed_over o number (get_or hs last nobody).member (o.n + 1)
  unfolding last_missing passed_over
  missing_is_after last e = any_eq _ _ (members o.n) (λ m i. by m (mem_range 1 o.n i) (present o number m) (has_account hs m) (ltb top m) refl refl refl)
    where
      top : ℕ
      top = (get_or hs last nobody).member

      by : (m : ℕ) → (1 ≤ m) × (m < 1 + o.n) → (t a b : Bool) → present o number m ≡ t → has_account hs m ≡ a → ltb top m ≡ b
          → (t && not a) ≡ (b && ltb m (o.n + 1) && t)
      by m k false a true e₁ e₂ e₃ = grind (arith, nat_tests)
      by m k false a false e₁ e₂ e₃ = refl
      by m k true true false e₁ e₂ e₃ = refl
      by m k true true true e₁ e₂ e₃ = absurd (true≢false (sym e₂ ∙ below_last last e m (ltb-true top m e₃)))
      by m k true false true e₁ e₂ e₃ = grind (arith, nat_tests)
      by m k true false false e₁ e₂ e₃ =
          absurd (true≢false (sym (up_to m k.0 (omega (arith, k.1)) e₁ (suc last) (omega (arith, e)) (ltb-false top m e₃)) ∙ with_house hs m e₂))

  -- a complete day: who is there has an account and a house account, and nobody else has
  module _ (some : 1 ≤ length hs) (complete : last_missing o number hs ≡ false) where
    account_of_present : (m : ℕ) → 1 ≤ m → m ≤ o.n → present o number m ≡ true → has_account hs m ≡ true
    unfolding last_missing
    account_of_present m low high e =
        by (has_account hs m) refl (any_false (λ (m : ℕ). present o number m && not (has_account hs m)) complete (range_mem 1 o.n low (omega (arith, high))))
      where
        by : (t : Bool) → has_account hs m ≡ t → (present o number m && not (has_account hs m)) ≡ false → t ≡ true
        by true q f = refl
        by false q f = absurd (true≢false (rw (e, q) at f))

    pub account_where_present : (m : ℕ) → 1 ≤ m → m ≤ o.n → has_account hs m ≡ present o number m
    account_where_present m low high = by (present o number m) refl
      where
        by : (t : Bool) → present o number m ≡ t → has_account hs m ≡ t
        by true e = account_of_present m low high e
        by false e = no_account_if m e

    abbrev last : ℕ
    last = length hs - 1

    abbrev top : ℕ
    top = (get_or hs last nobody).member

    pub house_where_present : (m : ℕ) → 1 ≤ m → m ≤ o.n → has_house hs m ≡ present o number m
    house_where_present m low high = by (present o number m) refl
      where
        by : (t : Bool) → present o number m ≡ t → has_house hs m ≡ t
        by true e = in_order (ltb top m) refl (account_of_present m low high e)
          where
            in_order : (t : Bool) → ltb top m ≡ t → has_account hs m ≡ true → has_house hs m ≡ true
            in_order true q there = absurd (true≢false (sym there ∙ below_last last (omega (arith, some)) m (ltb-true top m q)))
            in_order false q there = up_to m low high e (suc last) (omega (arith, some)) (ltb-false top m q)
        by false e = with_house hs m (no_account_if m e)
