-- Rows of 16 numbers as tables: their elements, their sum, their greatest, and the row that a program fills scenario by scenario.
use mathlib.Core.Path.{◌≡◌, refl, sym, ap, ◌∙◌}
use mathlib.Core.Bool.{Bool, true, false, cond}
use mathlib.Core.List.{List, [], map}
use Prim.Native.Nat.{ℕ, zero, suc, ◌+◌, ◌-◌, ◌≤◌, ◌<◌}
use native.Mathlib.Nat.{zero-add}
use native.Mathlib.Omega.{arith}
use lib.Dec.{ltb}
use lib.IntN.{ℤ, pos, nat_abs, ◌+ℤ◌}
use lib.ListN.{length, get_or, set, replicate, get_or-replicate, get_or-eq_default}
use borrow.Author.Tests.{lt-ltb, le-ltb, ltb-true, ltb-false}
use mir.Syntax.{w64}
use mir.Val.{SFits, to_z, of_z}
use Rattle.std.specs.List.{range_with_len}
use Rattle.std.proofs.lemmas.List.FromFn.{length-map-range_with_len, get_or-map-range_with_len, fill_by_all}
use Rattle.numbers.specs.Signed.{◌⁺}
use Rattle.numbers.specs.Sums.{greatest}
use Rattle.numbers.proofs.Signed.{abs_add, fits_abs, back}
use Rattle.numbers.proofs.Lists.{mem_range, range_append, range_suc, map_eq}
use Rattle.numbers.proofs.Filling.{Filled}
use Rattle.numbers.proofs.Sums.{greatest_le, greatest_eq, greatest_append, greatest_map}
use Rattle.methodology.specs.Account.{scenarios}
use Rattle.exposure.specs.GroupRows.{row_of, plus, Near, with_row}

-- numbers far from the ends of 64 bits: read back as they are, and two of them may be added
pub near_back : {row : List ℤ} → Near row → (x : ℕ) → to_z w64 (of_z w64 (get_or row x (pos 0))) ≡ get_or row x (pos 0)
near_back {row} n x = back {w = w64} (fits_abs (get_or row x (pos 0)) (omega (arith, n.at x)))

pub sum_fits : {a b : List ℤ} → Near a → Near b → (x : ℕ) → SFits w64 (get_or a x (pos 0) +ℤ get_or b x (pos 0))
sum_fits {a} {b} n m x =
    let u = get_or a x (pos 0) in
    let v = get_or b x (pos 0) in
    fits_abs (u +ℤ v) (omega (arith, n.at x, m.at x, abs_add u v))

-- a row's numbers
module _ (k : ℕ) (f : ℕ → ℤ) where
  row_at : (x : ℕ) → x < 16 → get_or (row_of k f) x (pos 0) ≡ cond (ltb x k) (f (suc x)) (pos 0)
  unfolding row_of
  row_at x h = get_or-map-range_with_len (λ y. cond (ltb y k) (f (suc y)) (pos 0)) 0 16 x x (pos 0) h (zero-add x)

-- a row of zeros, filled up to the last scenario
pub is_row : (k : ℕ) (f : ℕ → ℤ) {l : List ℤ} → Filled 16 (λ x. f (suc x)) (pos 0) (replicate 16 (pos 0)) k l → l ≡ row_of k f
unfolding row_of
is_row k f {l} p = fill_by_all (λ y. cond (ltb y k) (f (suc y)) (pos 0)) l 16 (pos 0) p.long (λ i h. by i (ltb i k) refl h)
  where
    by : (i : ℕ) (t : Bool) → ltb i k ≡ t → i < 16 → get_or l i (pos 0) ≡ cond (ltb i k) (f (suc i)) (pos 0)
    by i true q h = rw q (p.done i (ltb-true i k q))
    by i false q h = rw q (p.rest i (ltb-false i k q) ∙ get_or-replicate 16 i (pos 0) (pos 0) h)

-- the sum of two rows, number by number
pub plus_row : (k : ℕ) (f g : ℕ → ℤ) → plus (row_of k f) (row_of k g) ≡ row_of k (λ j. f j +ℤ g j)
unfolding plus row_of
plus_row k f g =
    map_eq (λ x. get_or (row_of k f) x (pos 0) +ℤ get_or (row_of k g) x (pos 0)) (λ x. cond (ltb x k) (f (suc x) +ℤ g (suc x)) (pos 0)) (range_with_len 0 16)
    (λ x m. let h : x < 16 = (mem_range 0 16 m).1 in rw (row_at k f x h, row_at k g x h) (by x (ltb x k)))
  where
    by : (x : ℕ) (t : Bool) → cond t (f (suc x)) (pos 0) +ℤ cond t (g (suc x)) (pos 0) ≡ cond t (f (suc x) +ℤ g (suc x)) (pos 0)
    by x true = refl
    by x false = refl

-- its length, and how large its numbers are
pub plus_long : (a b : List ℤ) → length (plus a b) ≡ 16
unfolding plus
plus_long a b = refl

pub plus_bound : {m n : ℕ} (a b : List ℤ) → ((x : ℕ) → nat_abs (get_or a x (pos 0)) ≤ m) → ((x : ℕ) → nat_abs (get_or b x (pos 0)) ≤ n) → (x : ℕ) → nat_abs (get_or (plus a b) x (pos 0)) ≤ m + n
unfolding plus
plus_bound {m} {n} a b p q x = by (ltb x 16) refl
  where
    f : ℕ → ℤ
    f y = get_or a y (pos 0) +ℤ get_or b y (pos 0)

    by : (t : Bool) → ltb x 16 ≡ t → nat_abs (get_or (map f (range_with_len 0 16)) x (pos 0)) ≤ m + n
    by true e =
        rw (get_or-map-range_with_len f 0 16 x x (pos 0) (ltb-true x 16 e) (zero-add x))
        (omega (arith, p x, q x, abs_add (get_or a x (pos 0)) (get_or b x (pos 0))))
    by false e = rw (get_or-eq_default (map f (range_with_len 0 16)) (pos 0) {n = x} (omega (arith, ltb-false x 16 e, length-map-range_with_len f 0 16))) (omega arith)

-- the greatest of a row
pub row_greatest : (k : ℕ) (f : ℕ → ℤ) → k ≤ 16 → greatest (row_of k f) (λ z. z ⁺) ≡ greatest (scenarios k) (λ j. f j ⁺)
unfolding row_of
row_greatest k f h =
    let all : k + (16 - k) ≡ 16 = omega arith in
    let at : ℕ → ℤ = λ x. cond (ltb x k) (f (suc x)) (pos 0) in
    let number : ℕ → ℕ = λ x. at x ⁺ in
    let seen = greatest_eq (range_with_len 0 k) number (λ x. f (suc x) ⁺) (λ x m. rw (lt-ltb x k (omega (arith, mem_range 0 k m)))) in
    let past = greatest_le (range_with_len (0 + k) (16 - k)) number 0 (λ x m. rw (le-ltb x k (omega (arith, mem_range (0 + k) (16 - k) m))) (omega arith)) in
    let shifted : greatest (range_with_len 0 k) (λ x. f (suc x) ⁺) ≡ greatest (scenarios k) (λ j. f j ⁺) = sym (greatest_map suc (range_with_len 0 k) (λ j. f j ⁺)) ∙ ap (λ (l : List ℕ). greatest l (λ j. f j ⁺)) (range_suc 0 k) in
    greatest_map at (range_with_len 0 16) (λ z. z ⁺)
    ∙ ap (λ (n : ℕ). greatest (range_with_len 0 n) number) (sym all)
    ∙ ap (λ (l : List ℕ). greatest l number) (range_append 0 k (16 - k))
    ∙ omega (arith, greatest_append (range_with_len 0 k) (range_with_len (0 + k) (16 - k)) number)

-- a row added to its group's: none, and one
pub with_none : (rows : List (List ℤ)) (g : ℕ) (row : List ℤ) → g ≡ 0 → rows ≡ with_row rows g row
unfolding with_row
with_none rows g row e = rw e

pub with_some : (rows : List (List ℤ)) (g : ℕ) (row sums : List ℤ) → (g ≡ 0 → ⊥) → sums ≡ plus (get_or rows (g - 1) []) row → set rows (g - 1) sums ≡ with_row rows g row
unfolding with_row
with_some rows zero row sums n e = absurd (n refl)
with_some rows (suc g) row sums n e = let p : suc g - 1 ≡ g = omega arith in rw (e, p)
