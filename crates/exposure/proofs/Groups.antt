-- A day's own Max EUL by rows: each group sum is the EUL of one member alone or a row, and each row is a group sum or 0.
-- The program adds up one row for each group number, member by member: `row_upto` after i members, `row_none`, `row_in` and `row_out` its start
-- and its step.
use mathlib.Core.Path.{◌≡◌, refl, ap}
use mathlib.Core.Bool.{Bool, true, false}
use mathlib.Core.List.Memᴰ.{head as here}
use mathlib.Core.List.{List, [], ◌∷◌}
use Prim.Native.Nat.{ℕ, ◌+◌, ◌≤◌, ◌<◌, max}
use native.Mathlib.Omega.{arith}
use lib.Dec.{eqb}
use lib.IntN.{ℤ, pos, ◌+ℤ◌, +ℤ_idr}
use borrow.Author.Tests.{eqb-true, eqb-false, eq-eqb, ne_eqb}
use Rattle.numbers.specs.Signed.{◌⁺}
use Rattle.std.specs.List.{filter, range_with_len}
use Rattle.numbers.specs.Sums.{Σℤ, greatest}
use Rattle.numbers.proofs.Lists.{◌∈◌, upto_more, range_mem, mem_range, keep_snoc, keep_snoc_skip, mem_keep}
use Rattle.numbers.proofs.Sums.{Σℤ-snoc, greatest_le, greatest_elem}
use Rattle.methodology.specs.declared.Opening.{Opening}
use Rattle.methodology.specs.Account.{Account, members, scenarios}
use Rattle.methodology.specs.Member.{member_under}
use Rattle.methodology.specs.Day.{group_number, group_of, group_sum, own_max_eul}

-- group g's row at scenario j when the first i members have been added: the sum of their EULs under j, of those in group g
unfoldable pub row_upto : Opening → List Account → (i g j : ℕ) → ℤ
row_upto o accts i g j = Σℤ (filter (λ m. eqb (group_number o m) g) (members i)) (λ m. member_under accts m j)

-- and when all members have been
abbrev group_row : Opening → List Account → (g j : ℕ) → ℤ
group_row o accts g j = row_upto o accts o.n g j

-- a row before the first member, and with member i + 1 added where it is in the group, or left out
module _ (o : Opening) (accts : List Account) (g j : ℕ) where
  pub row_none : row_upto o accts 0 g j ≡ pos 0
  unfolding row_upto Σℤ
  row_none = refl

  pub row_in : (i : ℕ) → group_number o (i + 1) ≡ g → row_upto o accts (i + 1) g j ≡ row_upto o accts i g j +ℤ member_under accts (i + 1) j
  unfolding row_upto
  row_in i e = rw (upto_more i, keep_snoc _ (range_with_len 1 i) (i + 1) (eq-eqb (group_number o (i + 1)) g e)) (Σℤ-snoc _ (i + 1) _)

  pub row_out : (i : ℕ) → (group_number o (i + 1) ≡ g → ⊥) → row_upto o accts (i + 1) g j ≡ row_upto o accts i g j
  unfolding row_upto
  row_out i n = rw (upto_more i, keep_snoc_skip _ (range_with_len 1 i) (i + 1) (ne_eqb (group_number o (i + 1)) g n))

-- the sum of a member's group: of itself alone, or a row
module _ (o : Opening) (accts : List Account) (m j : ℕ) where
  group_alone : group_number o m ≡ 0 → group_sum o accts m j ≡ member_under accts m j
  unfolding group_sum group_of Σℤ
  group_alone e = rw (eq-eqb (group_number o m) 0 e) (+ℤ_idr (member_under accts m j))

  group_row_lem : (group_number o m ≡ 0 → ⊥) → group_sum o accts m j ≡ group_row o accts (group_number o m) j
  unfolding group_sum group_of row_upto
  group_row_lem n = rw (ne_eqb (group_number o m) 0 n)

-- its own Max EUL, where no group number is above `most`: the greatest of all members' EULs and all rows
module _ (o : Opening) (accts : List Account) where
  abbrev of_member : (m : ℕ) → ℕ
  of_member m = greatest (scenarios o.k) (λ j. member_under accts m j ⁺)

  abbrev of_group : (m : ℕ) → ℕ
  of_group m = greatest (scenarios o.k) (λ j. group_sum o accts m j ⁺)

  abbrev of_row : (g : ℕ) → ℕ
  of_row g = greatest (scenarios o.k) (λ j. group_row o accts g j ⁺)

  abbrev largest : (most : ℕ) → ℕ
  largest most = max (greatest (members o.n) of_member) (greatest (range_with_len 1 most) of_row)

  group_le : (most m : ℕ) → m ∈ members o.n → group_number o m ≤ most → of_group m ≤ largest most
  group_le most m h k = by (eqb (group_number o m) 0) refl
    where
      by : (t : Bool) → eqb (group_number o m) 0 ≡ t → of_group m ≤ largest most
      by true q = simp (group_alone o accts m, eqb-true (group_number o m) 0 q) (omega (arith, greatest_elem of_member h))
      by false q =
          let n = eqb-false (group_number o m) 0 q in
          simp (group_row_lem o accts m, n) (omega (arith, greatest_elem {x = group_number o m} of_row (range_mem 1 most (omega arith) (omega arith))))

  row_le : (g : ℕ) → 0 < g → of_row g ≤ greatest (members o.n) of_group
  unfolding row_upto Σℤ
  row_le g h = by (filter (λ m. eqb (group_number o m) g) (members o.n)) refl
    where
      by : (l : List ℕ) → filter (λ m. eqb (group_number o m) g) (members o.n) ≡ l → of_row g ≤ greatest (members o.n) of_group
      by [] e = greatest_le (scenarios o.k) _ _ (λ j i. rw e (omega arith))
      by (m ∷ l) e =
          let (i, q) = mem_keep (λ m'. eqb (group_number o m') g) {x = m} (members o.n) (rw e (here refl)) in
          let same : group_number o m ≡ g = eqb-true (group_number o m) g q in
          let some : group_number o m ≡ 0 → ⊥ = λ z. omega arith in
          let sums : of_group m ≡ of_row (group_number o m) = simp (group_row_lem o accts m, some) in
          omega (arith, ap of_row same, greatest_elem of_group i)

  pub max_by_rows : (most : ℕ) → ((m : ℕ) → m ∈ members o.n → group_number o m ≤ most)
      → own_max_eul o accts
      ≡ max
      (greatest (members o.n) (λ m. greatest (scenarios o.k) (λ j. member_under accts m j ⁺)))
      (greatest (range_with_len 1 most) (λ g. greatest (scenarios o.k) (λ j. group_row o accts g j ⁺)))
  unfolding own_max_eul
  max_by_rows most h =
      omega (
        arith,
        greatest_le (members o.n) of_group _ (λ m i. group_le most m i (h m i)),
        greatest_le (range_with_len 1 most) of_row _ (λ g i. row_le g (mem_range 1 most i).0),
      )
