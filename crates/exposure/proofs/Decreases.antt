-- Decreases of a row of NPVs: how large they are, and the largest one over the row's stresses.
use mathlib.Core.Path.{◌≡◌, refl, ap, ◌∙◌}
use mathlib.Core.List.{List}
use Prim.Native.Nat.{ℕ, ◌+◌, ◌-◌, ◌*◌, ◌≤◌, ◌<◌}
use native.Mathlib.Omega.{arith}
use lib.IntN.{ℤ, pos, ◌-ℤ◌}
use lib.ListN.{length, get_or, take, drop}
use mir.Syntax.{w64}
use mir.Val.{to_z, of_z}
use Rattle.numbers.specs.Signed.{◌⁺}
use Rattle.numbers.specs.Sums.{greatest}
use Rattle.numbers.proofs.Signed.{⁺-sub, fits_abs, back}
use Rattle.numbers.proofs.Lists.{mem_range, part_length, part_at, is_table}
use Rattle.numbers.proofs.Sums.{greatest_le, greatest_map}
use Rattle.methodology.specs.Account.{Account, scenarios, base, stress, decrease, eul_of, eul_under, largest_decrease, own_eul}
use Rattle.methodology.specs.Refusals.{limit}
use Rattle.exposure.specs.declared.account.Scenario.{Scenario}
use Rattle.exposure.specs.declared.account.Scenario.TheVariants.{Own, Under}
use Rattle.exposure.specs.AccountRanges.{Npvs}
use Rattle.exposure.specs.Scenario.{stress_read, fall_under, eul_by}

-- an NPV that is read from a slice is the slice's
pub npv_back : {row : List ℤ} → Npvs row → (x : ℕ) → x < length row → to_z w64 (of_z w64 (get_or row x (pos 0))) ≡ get_or row x (pos 0)
npv_back {row} p x h = back {w = w64} (fits_abs (get_or row x (pos 0)) (omega (arith, p.at x h)))

-- no decrease is above twice the limit
decrease_le : {row : List ℤ} {j : ℕ} → Npvs row → j < length row → decrease row j ≤ 2 * limit
unfolding decrease
decrease_le {row} {j} p h =
    omega (arith, p.at 0 (omega arith), p.at j h, ⁺-sub (base row) (stress row j))

pub fall_le : {row : List ℤ} (s : Scenario) → Npvs row → stress_read s < length row → fall_under s row ≤ 2 * limit
unfolding largest_decrease
fall_le {row} Own p h =
    greatest_le (scenarios (length row - 1)) (decrease row) (2 * limit)
    (λ i m. decrease_le p (omega (arith, mem_range 1 (length row - 1) m)))
fall_le (Under j) p h = decrease_le p h

-- the stresses of a row, after its base
abbrev pub stresses : List ℤ → List ℤ
stresses row = take (length row - 1) (drop 1 row)

pub stress_at : (row : List ℤ) → 0 < length row → (x : ℕ) → x < length (stresses row)
    → (get_or (stresses row) x (pos 0) ≡ get_or row (1 + x) (pos 0)) × (1 + x < length row)
stress_at row h x l =
    let n : x < length row - 1 = omega (arith, part_length 1 (length row - 1) row (omega arith)) in
    (part_at 1 (length row - 1) row x (pos 0) n, omega arith)

pub largest_is : (row : List ℤ) → 0 < length row → greatest (stresses row) (λ s. (base row -ℤ s) ⁺) ≡ largest_decrease (length row - 1) row
unfolding largest_decrease decrease
largest_is row h =
    let n = length row - 1 in
    let table = is_table (stress row) 1 n (pos 0) (stresses row) (part_length 1 n row (omega arith)) (λ i l. part_at 1 n row i (pos 0) l) in
    ap (λ (l : List ℤ). greatest l (λ s. (base row -ℤ s) ⁺)) table ∙ greatest_map (stress row) (scenarios n) (λ s. (base row -ℤ s) ⁺)

-- an account's EUL from its row, margin and extra
pub eul_by_lem : (k : ℕ) (s : Scenario) (a : Account) → length a.npvs ≡ k + 1 → eul_by k s a ≡ eul_of (fall_under s a.npvs) a.margin a.extra
unfolding own_eul eul_under
eul_by_lem k Own a h = let last : length a.npvs - 1 ≡ k = omega arith in rw last
eul_by_lem k (Under j) a h = refl
