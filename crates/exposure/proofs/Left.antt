-- The pass over the members: before member i + 1 the accounts of the members from it on are left.
use mathlib.Core.Path.{◌≡◌, refl, sym, ◌∙◌}
use mathlib.Core.Bool.{Bool, true, false}
use mathlib.Core.List.{List, [], ◌∷◌}
use Prim.Native.Nat.{ℕ, ◌+◌, ◌≤◌}
use native.Mathlib.Omega.{arith}
use native.Mathlib.Nat.{sub-zero}
use lib.Dec.{leb}
use lib.ListN.{length}
use lib.Seq.{take_all}
use borrow.Author.Tests.{ne_eqb, leb-false, le-leb, lt-leb}
use Rattle.std.specs.List.{filter}
use Rattle.numbers.proofs.Lists.{keep_part}
use Rattle.methodology.specs.Account.{DayInput, Account, accounts}
use Rattle.methodology.specs.Member.{accounts_of}
use Rattle.methodology.proofs.RowLimits.{accounts_long}
use Rattle.validation.specs.Slices.{Rising, no_account}
use Rattle.exposure.specs.declared.accounts.Accounts.{Accounts}
use Rattle.exposure.specs.MemberCut.{from_member}
use Rattle.exposure.specs.AccountsIn.{accounts_in}
use Rattle.exposure.proofs.Parts.{member_get}

-- kept among those kept
keep_keep : {A : Type 0} (p q r : A → Bool) → ((x : A) → q x ≡ true → p x ≡ r x) → ((x : A) → q x ≡ false → r x ≡ false)
    → (xs : List A) → filter p (filter q xs) ≡ filter r xs
keep_keep p q r h g [] = refl
keep_keep p q r h g (x ∷ xs) = by (q x) refl (keep_keep p q r h g xs)
  where
    by : (t : Bool) → q x ≡ t → filter p (filter q xs) ≡ filter r xs → filter p (filter q (x ∷ xs)) ≡ filter r (x ∷ xs)
    by true e rest = rw (e, h x e, rest)
    by false e rest = rw (e, g x e) rest

module _ (m n : ℕ) (h : m ≤ n) (accts : List Account) where
  of_from : accounts_of n (from_member m accts) ≡ accounts_of n accts
  unfolding accounts_of from_member
  of_from = keep_keep _ _ _ (λ a e. refl) (λ a e. ne_eqb _ n (λ q. omega (arith, leb-false m a.heading.member e))) accts

  from_from : from_member n (from_member m accts) ≡ from_member n accts
  unfolding from_member
  from_from = keep_keep _ _ _ (λ a e. refl) (λ a e. lt-leb n _ (omega (arith, leb-false m a.heading.member e))) accts

-- every member is at least 1
pub from_first : (k : ℕ) (d : DayInput) → Rising d.headings → accounts k d ≡ from_member 1 (accounts k d)
unfolding from_member
from_first k d r =
    let accts = accounts k d in
    let all = keep_part (λ a. leb 1 a.heading.member) accts no_account 0 (length accts) (omega arith) (omega arith) (λ i h. absurd (omega arith))
    (λ i h l. le-leb 1 _ (rw (member_get k d i (omega (arith, accounts_long k d))) (r.least i (omega (arith, accounts_long k d)))))
    (λ i h l. absurd (omega arith)) in
    rw (all, sub-zero, take_all (length accts) accts (omega arith))

-- what is left of all accounts, before member i + 1: members rise in it still
pub record Left (k : ℕ) (all : List Account) (i : ℕ) (a : Accounts) : Type 0 where
  pub same : a.k ≡ k
  pub left : accounts_in a ≡ from_member (i + 1) all
  pub rising : Rising a.headings.now

module _ {k : ℕ} {all : List Account} {i : ℕ} {a : Accounts} (p : Left k all i a) where
  pub left_first : accounts_in a ≡ from_member (i + 1) (accounts_in a)
  left_first = rw p.left (sym (from_from (i + 1) (i + 1) (omega arith) all))

  -- member i + 1's accounts, and what is left after it
  pub left_own : (own : Accounts) → (own.k ≡ a.k) × (accounts_in own ≡ accounts_of (i + 1) (accounts_in a))
      → (own.k ≡ k) × (accounts_in own ≡ accounts_of (i + 1) all)
  left_own own o = (o.0 ∙ p.same, o.1 ∙ rw p.left (of_from (i + 1) (i + 1) (omega arith) all))

  pub left_next : (others : Accounts) → (others.k ≡ a.k) × (accounts_in others ≡ from_member (i + 1 + 1) (accounts_in a)) → Rising others.headings.now
      → Left k all (i + 1) others
  left_next others r s = record { same = r.0 ∙ p.same; left = r.1 ∙ rw p.left (from_from (i + 1) (i + 1 + 1) (omega arith) all); rising = s }
