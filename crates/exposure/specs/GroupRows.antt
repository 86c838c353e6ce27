-- Rows of 16 EULs, one a scenario, and the 32 rows of the groups.
use Rattle.std.specs.Prelude.{◌≡◌, cond, List, [], map, ℕ, zero, suc, ◌≤◌, ◌<◌, ◌^◌, ltb, ℤ, pos, nat_abs, ◌+ℤ◌, length, get_or, set}
use Rattle.std.specs.List.{range_with_len}

-- a row of 16: f under scenarios 1 to k, then 0. Scenario j is at index j - 1.
unfoldable pub row_of : (k : ℕ) → (f : (j : ℕ) → ℤ) → List ℤ
row_of k f = map (λ x. cond (ltb x k) (f (suc x)) (pos 0)) (range_with_len 0 16)

-- far from the ends of 64 bits: two such numbers may be added
pub record Near (row : List ℤ) : Type 0 where
  pub at : (x : ℕ) → nat_abs (get_or row x (pos 0)) ≤ 2 ^ 61

pub record Summable (a b : List ℤ) : Type 0 where
  pub first_long : length a ≡ 16
  pub second_long : length b ≡ 16
  pub first : Near a
  pub second : Near b

-- the sum of two rows
unfoldable pub plus : List ℤ → List ℤ → List ℤ
plus a b = map (λ x. get_or a x (pos 0) +ℤ get_or b x (pos 0)) (range_with_len 0 16)

-- 32 rows of 16 numbers
pub record Shape (rows : List (List ℤ)) : Type 0 where
  pub tall : length rows ≡ 32
  pub wide : (g : ℕ) → g < 32 → length (get_or rows g []) ≡ 16
  pub near : (g : ℕ) → g < 32 → Near (get_or rows g [])

-- a row added to that of its group; group g's row is at index g - 1, and group 0 has none
unfoldable pub with_row : List (List ℤ) → (group : ℕ) → List ℤ → List (List ℤ)
with_row rows zero row = rows
with_row rows (suc g) row = set rows g (plus (get_or rows g []) row)
