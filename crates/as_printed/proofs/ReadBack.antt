-- A number's printed digits read back as that number: they have its value, and where there are at most 13 the text's own reader gives it.
use mathlib.Core.Path.{◌≡◌, refl}
use mathlib.Core.Bool.{false, not, ◌&&◌, cond}
use mathlib.Core.List.{List, [], ◌∷◌, ◌++◌}
use Rattle.std.specs.Prelude.{Some}
use Prim.Native.Nat.{ℕ, zero, suc, ◌+◌, ◌-◌, ◌*◌, ◌/◌, ◌%◌, ◌^◌, ◌≤◌, ◌<◌}
use native.Mathlib.Nat.{pow-suc}
use native.Mathlib.Omega.{arith}
use lib.Dec.{ltb, eqb}
use lib.ListN.{length, get_or, length-append, get_or-append}
use borrow.Author.Tests.{lt-ltb, le-ltb, ne_eqb, ltb-true, ltb-false}
use Rattle.std.specs.List.{list_any, AllByRecursion}
use Rattle.numbers.proofs.Lists.{none_any, every_mem, every_append}
use Rattle.methodology.specs.Text.{is_digit, value_from, number_of, digits, decimal}
use Rattle.methodology.proofs.Passed.{by_test}

-- the digits before the last
abbrev front : (k n : ℕ) → List ℕ
front k n = cond (ltb n 10) [] (digits k (n / 10))

-- ---- their value

value_more : (v : ℕ) (s : List ℕ) (b : ℕ) → value_from v (s ++ (b ∷ [])) ≡ 10 * value_from v s + (b - 48)
unfolding value_from
value_more v [] b = refl
value_more v (x ∷ s) b = value_more (10 * v + (x - 48)) s b

value_back : (k n : ℕ) → n < 10 ^ suc k → value_from 0 (digits k n) ≡ n
unfolding digits value_from
value_back zero n h = omega arith
value_back (suc k) n h =
    let tens : value_from 0 (front k n) ≡ n / 10 =
    by_test (λ (s : List ℕ). value_from 0 s ≡ n / 10) (ltb n 10) [] (digits k (n / 10)) (λ e. omega (arith, ltb-true n 10 e))
    (λ e. value_back k (n / 10) (omega (arith, pow-suc 10 (suc k)))) in
    omega (arith, value_more 0 (front k n) (48 + n % 10))

pub reads_back : (x : ℕ) → x < 10 ^ 20 → value_from 0 (decimal x) ≡ x
reads_back x h = value_back 19 x h

-- ---- their form

abbrev pub Digit : ℕ → Type 0
Digit b = (48 ≤ b) × (b ≤ 57)

pub all_digits : (k n : ℕ) → AllByRecursion Digit (digits k n)
unfolding digits
all_digits zero n = ((omega arith, omega arith), tt)
all_digits (suc k) n =
    every_append Digit (front k n) ((48 + n % 10) ∷ []) (by_test (AllByRecursion Digit) (ltb n 10) [] (digits k (n / 10)) (λ e. tt) (λ e. all_digits k (n / 10)))
    ((omega arith, omega arith), tt)

some_digits : (k n : ℕ) → 1 ≤ length (digits k n)
unfolding digits
some_digits zero n = omega arith
some_digits (suc k) n = omega (arith, length-append (front k n) ((48 + n % 10) ∷ []))

-- a number below 10^(j + 1) has at most j + 1
pub few_digits : (k j n : ℕ) → n < 10 ^ suc j → length (digits k n) ≤ suc j
unfolding digits
few_digits zero j n h = omega arith
few_digits (suc k) zero n h = rw (lt-ltb n 10 (omega arith)) (omega arith)
few_digits (suc k) (suc j) n h =
    let less : length (front k n) ≤ suc j =
    by_test (λ (s : List ℕ). length s ≤ suc j) (ltb n 10) [] (digits k (n / 10)) (λ e. omega arith)
    (λ e. few_digits k j (n / 10) (omega (arith, pow-suc 10 (suc j)))) in
    omega (arith, length-append (front k n) ((48 + n % 10) ∷ []))

-- and the first is no 0, but for the number 0
first_digit : (k n : ℕ) → 0 < n → n < 10 ^ suc k → 48 < get_or (digits k n) 0 0
unfolding digits
first_digit zero n p h = omega arith
first_digit (suc k) n p h =
    by_test (λ (s : List ℕ). 48 < get_or (s ++ ((48 + n % 10) ∷ [])) 0 0) (ltb n 10) [] (digits k (n / 10)) (λ e. omega (arith, ltb-true n 10 e))
    (λ e. rw (get_or-append (digits k (n / 10)) ((48 + n % 10) ∷ []) 0 0 (some_digits k (n / 10)))
    (first_digit k (n / 10) (omega (arith, ltb-false n 10 e)) (omega (arith, pow-suc 10 (suc k)))))

pub no_leading_zero : (x : ℕ) → x < 10 ^ 20 → (eqb (get_or (decimal x) 0 0) 48 && ltb 1 (length (decimal x))) ≡ false
unfolding digits
no_leading_zero zero h = refl
no_leading_zero (suc x) h = rw (ne_eqb (get_or (decimal (suc x)) 0 0) 48 (λ e. omega (arith, first_digit 19 (suc x) (omega arith) h)))

pub digits_alone : (x : ℕ) → list_any (λ b. not (is_digit b)) (decimal x) ≡ false
digits_alone x =
    let digit = every_mem Digit (decimal x) (all_digits 19 x) in
    none_any _ (decimal x) (λ b i. let d = digit b i in rw (le-ltb b 48 d.0, le-ltb 57 b d.1))

pub reads_back_as_text : (x : ℕ) → x < 10 ^ 13 → number_of (decimal x) ≡ Some x
unfolding number_of
reads_back_as_text x h =
    let least = le-ltb (length (decimal x)) 1 (some_digits 19 x) in
    let most = le-ltb 13 (length (decimal x)) (few_digits 19 12 x h) in
    rw (least, most, digits_alone x, no_leading_zero x (omega arith), reads_back x (omega arith))
