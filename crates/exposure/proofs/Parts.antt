-- The accounts that a day's slices hold: a part of the slices holds those between two indices. Members rise, so where none before m is left,
-- the accounts of m are the first, and those of all members after it are the others.
use mathlib.Core.Path.{◌≡◌, ap, subst}
use mathlib.Core.Bool.{Bool, not}
use mathlib.Core.List.{List}
use Prim.Native.Nat.{ℕ, ◌+◌, ◌-◌, ◌*◌, ◌≤◌, ◌<◌}
use native.Mathlib.Omega.{arith}
use lib.Dec.{eqb, leb}
use lib.ListN.{length, get_or}
use borrow.Author.Tests.{eq-eqb, ne_eqb, eqb-true, eqb-false, leb-true, le-leb, lt-leb}
use Rattle.std.specs.Prelude.{Option, unwrap_or}
use Rattle.std.specs.List.{between, position, position_or_len}
use Rattle.std.proofs.lemmas.Bool.{not-true, not-false}
use Rattle.std.proofs.lemmas.List.Sums.{prefix_len-le-length, fails_before_first, passes_at_first}
use Rattle.numbers.proofs.Lists.{◌∈◌, by_steps, mem_at, mem_keep, keep_part, first_or_all}
use Rattle.methodology.specs.declared.Heading.{Heading}
use Rattle.methodology.specs.Account.{DayInput, Account, account_at, accounts, nobody}
use Rattle.methodology.specs.Member.{accounts_of}
use Rattle.methodology.proofs.RowLimits.{accounts_long}
use Rattle.validation.specs.Slices.{Rising, no_account}
use Rattle.validation.proofs.Amounts.{accounts_at}
use Rattle.validation.proofs.Parts.{accounts_part}
use Rattle.exposure.specs.MemberCut.{from_member}

-- the accounts that are lent from index a to index b - 1
pub part_accounts : (k : ℕ) (d : DayInput) (a b : ℕ) → a ≤ b → b ≤ length d.headings
    → accounts k (record {
      terms = d.terms;
      headings = between a b d.headings;
      npvs = between (a * (k + 1)) (b * (k + 1)) d.npvs;
      margins = between a b d.margins;
      extras = between a b d.extras;
    }) ≡ between a b (accounts k d)
part_accounts k d a b h l =
    let e : b ≡ a + (b - a) = omega arith in
    let wide : (b - a) * (k + 1) ≡ b * (k + 1) - a * (k + 1) = omega (arith, ap (λ (n : ℕ). n * (k + 1)) e) in
    rw wide at (accounts_part k d a (b - a) (omega arith))

-- the member of each
pub member_get : (k : ℕ) (d : DayInput) (i : ℕ) → i < length d.headings
    → (get_or (accounts k d) i no_account).heading.member ≡ (get_or d.headings i nobody).member
unfolding account_at
member_get k d i h = ap (λ (a : Account). a.heading.member) (accounts_at k d i h)

-- rising one by one is rising
rising_le : {headings : List Heading} → Rising headings → (i j : ℕ) → i ≤ j → j < length headings
    → (get_or headings i nobody).member ≤ (get_or headings j nobody).member
rising_le {headings} r i j h k =
    by_steps (λ n. (get_or headings i nobody).member ≤ (get_or headings n nobody).member) i j h (omega arith) (λ n l m f. omega (arith, r.next n (omega arith)))

-- of another member than m
abbrev pub other : (m : ℕ) → Heading → Bool
other m h = not (eqb h.member m)

module _ (k m : ℕ) (d : DayInput) where
  -- all are of members from m on: each one's is
  least : accounts k d ≡ from_member m (accounts k d) → (i : ℕ) → i < length d.headings → m ≤ (get_or d.headings i nobody).member
  unfolding from_member
  least e i h =
      let here = mem_at (accounts k d) no_account {i = i} (omega (arith, accounts_long k d)) in
      let (_, t) = mem_keep (λ a. leb m a.heading.member) (accounts k d) (subst (λ (l : List Account). get_or (accounts k d) i no_account ∈ l) e here) in
      rw (member_get k d i h) at (leb-true m _ t)

  module _ (r : Rising d.headings) (e : accounts k d ≡ from_member m (accounts k d)) (found : Option ℕ) (f : found ≡ position (other m) d.headings) (end : ℕ) (g : end ≡ unwrap_or found (length d.headings)) where
    q : end ≡ position_or_len (other m) d.headings
    q = rw (g, f) (first_or_all (other m) d.headings)

    pub end_inside : end ≤ length d.headings
    end_inside = omega (arith, q, prefix_len-le-length (λ h. not (other m h)) d.headings)

    before : (i : ℕ) → i < end → (get_or (accounts k d) i no_account).heading.member ≡ m
    before i h =
        rw (member_get k d i (omega (arith, end_inside)))
        (eqb-true _ m (not-false _ (fails_before_first (other m) d.headings i nobody (omega (arith, q)))))

    after : (i : ℕ) → end ≤ i → i < length (accounts k d) → m < (get_or (accounts k d) i no_account).heading.member
    after i h l =
        let n : i < length d.headings = omega (arith, accounts_long k d) in
        let stop : end < length d.headings = omega arith in
        let no = eqb-false _ m (not-true _ (rw (← q) at (passes_at_first (other m) d.headings nobody (omega (arith, q))))) in
        rw (member_get k d i n) (omega (arith, rising_le r end i h n, least e end stop, no))

    pub own_first : accounts_of m (accounts k d) ≡ between 0 end (accounts k d)
    unfolding accounts_of
    own_first =
        keep_part (λ a. eqb a.heading.member m) (accounts k d) no_account 0 end (omega arith) (omega (arith, end_inside, accounts_long k d)) (λ i h. absurd (omega arith))
        (λ i h l. eq-eqb _ m (before i l))
        (λ i h l. ne_eqb _ m (λ z. omega (arith, after i h l)))

    pub others_last : from_member (m + 1) (accounts k d) ≡ between end (length d.headings) (accounts k d)
    unfolding from_member
    others_last =
        keep_part (λ a. leb (m + 1) a.heading.member) (accounts k d) no_account end (length d.headings) end_inside (omega (arith, accounts_long k d))
        (λ i h. lt-leb (m + 1) _ (omega (arith, before i h)))
        (λ i h l. le-leb (m + 1) _ (omega (arith, after i h (omega (arith, accounts_long k d)))))
        (λ i h l. absurd (omega (arith, accounts_long k d)))
