-- The sums of columns: a member's number more, and that a day's fit 64 bits, by the most that a day writes.
use mathlib.Core.Path.{◌≡◌, ap, ◌∙◌}
use mathlib.Core.List.{List}
use Prim.Native.Nat.{ℕ, suc, ◌+◌, ◌-◌, ◌*◌, ◌^◌, ◌≤◌, ◌<◌}
use native.Mathlib.Nat.{sub-zero}
use native.Mathlib.Omega.{arith}
use lib.ListN.{get_or}
use Rattle.std.specs.List.{AllByRecursion, range_with_len}
use Rattle.std.proofs.lemmas.List.FromFn.{length-range_with_len}
use Rattle.numbers.specs.Sums.{Σ}
use Rattle.numbers.proofs.Lists.{part_at, every_at, every_take, every_drop}
use Rattle.numbers.proofs.Sums.{Σ-bound}
use Rattle.methodology.specs.Account.{members}
use Rattle.methodology.specs.Text.{stretch, column_sum, totals}
use Rattle.fund.proofs.Dailies.{Few, most_daily}

-- ---- one member after another

module _ (width n : ℕ) (out : List ℕ) (c : ℕ) where
  abbrev of_member : (m : ℕ) → ℕ
  of_member m = get_or (stretch width m out) c 0

  -- the numbers of the members after m
  abbrev pub left : (m : ℕ) → ℕ
  left m = Σ (range_with_len (m + 1) (n - m)) of_member

  pub left_first : left 0 ≡ column_sum width n out c
  unfolding column_sum
  left_first = ap (λ (count : ℕ). Σ (range_with_len 1 count) of_member) (sub-zero n)

  pub left_none : (m : ℕ) → n ≤ m → left m ≡ 0
  unfolding Σ
  left_none m h =
      let none : n - m ≡ 0 = omega arith in
      ap (λ (count : ℕ). Σ (range_with_len (m + 1) count) of_member) none

  at_index : c < width → (m : ℕ) → of_member (m + 1) ≡ get_or out (width * m + c) 0
  at_index inside m =
      let back : m + 1 - 1 ≡ m = omega arith in
      part_at (width * (m + 1 - 1)) width out c 0 inside ∙ ap (λ (i : ℕ). get_or out (width * i + c) 0) back

  -- that of member m + 1 is the next
  pub left_next : c < width → (m : ℕ) → m < n → left m ≡ get_or out (width * m + c) 0 + left (m + 1)
  unfolding Σ
  left_next inside m h =
      let some : n - m ≡ suc (n - (m + 1)) = omega arith in
      ap (λ (count : ℕ). Σ (range_with_len (m + 1) count) of_member) some
      ∙ ap (λ (x : ℕ). x + left (m + 1)) (at_index inside m)

-- ---- how large they are

abbrev AtMost : (most x : ℕ) → Type 0
AtMost most x = x ≤ most

column_few : (width n c most : ℕ) (out : List ℕ) → AllByRecursion (AtMost most) out → column_sum width n out c ≤ n * most
unfolding column_sum
column_few width n c most out h =
    let few = AtMost most in
    let part : (m : ℕ) → AllByRecursion few (stretch width m out) = λ m. every_take few width _ (every_drop few (width * (m - 1)) out h) in
    rw (length-range_with_len 1 n) at (Σ-bound (members n) _ most (λ m i. every_at few (stretch width m out) 0 (omega arith) (part m) c))

pub totals_fit : (n : ℕ) (out : List ℕ) → n ≤ 32 → AllByRecursion Few out → AllByRecursion (λ x. x < 2 ^ 64) (totals n out)
unfolding totals
totals_fit n out few h =
    let each : (c : ℕ) → column_sum 5 n out c < 2 ^ 64 = λ c. omega (arith, column_few 5 n c most_daily out h) in
    (each 0, (each 1, (each 2, (each 3, (each 4, tt)))))
