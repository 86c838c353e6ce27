-- Signed arithmetic for `omega`: an integer z is z ⁺ less z ⁻, and every law is linear in these two natural numbers, with no side condition.
-- To prove an order or an equation of integers write `omega (arith, signed, ..)` with one fact for each operation in sight, as `⁺-mono` does.
use mathlib.Core.Path.{◌≡◌, refl, ap, subst}
use mathlib.Core.Bool.{Bool, true, false, not, cond}
use Prim.Native.Nat.{ℕ, zero, suc, ◌+◌, ◌-◌, ◌≤◌, ◌<◌, ◌^◌, min}
use native.Mathlib.Omega.{arith}
use lib.Dec.{T, ltb, ltb→lt, lt→ltb, leb→le, le→leb, nltb→le}
use lib.IntN.{ℤ, pos, negsuc, neg_ℤ, nat_abs, sub_ℕ, ◌+ℤ◌, ◌-ℤ◌}
use lib.Signed.{◌≤ℤ◌, ◌<ℤ◌, le_z, lt_z, non_neg, mag, yes_non_neg}
use mir.Syntax.{Width}
use mir.Val.{SFits, Fits, to_z, of_z, hbits}
use mir.ValLaws.{to_z-of_z, pow-bits}
use Rattle.numbers.specs.Signed.{◌⁺, ◌⁻}

-- one of the two is 0: listed where z ⁺ or z ⁻ is wanted by itself
pub one_zero : (z : ℤ) → min (z ⁺) (z ⁻) ≡ 0
one_zero (pos n) = omega arith
one_zero (negsuc n) = omega arith

-- the difference of two natural numbers
subℕ-is : (a b : ℕ) → sub_ℕ a b ⁺ + b ≡ sub_ℕ a b ⁻ + a
subℕ-is a b = by (ltb a b) (ltb→lt a b) (nltb→le a b)
  where
    by : (t : Bool) → (T t → a < b) → (T (not t) → b ≤ a) → cond t (negsuc (b - suc a)) (pos (a - b)) ⁺ + b ≡ cond t (negsuc (b - suc a)) (pos (a - b)) ⁻ + a
    by true f g = let h = f tt in omega arith
    by false f g = let h = g tt in omega arith

-- the sum, the negation and the difference
pub add : (a b : ℤ) → (a +ℤ b) ⁺ + (a ⁻ + b ⁻) ≡ (a +ℤ b) ⁻ + (a ⁺ + b ⁺)
add (pos a) (pos b) = omega arith
add (pos a) (negsuc b) = omega (arith, subℕ-is a (suc b))
add (negsuc a) (pos b) = omega (arith, subℕ-is b (suc a))
add (negsuc a) (negsuc b) = omega arith

pub neg : (z : ℤ) → (neg_ℤ z ⁺ ≡ z ⁻) × (neg_ℤ z ⁻ ≡ z ⁺)
neg (pos zero) = (refl, refl)
neg (pos (suc n)) = (refl, refl)
neg (negsuc n) = (refl, refl)

pub sub : (a b : ℤ) → (a -ℤ b) ⁺ + (a ⁻ + b ⁺) ≡ (a -ℤ b) ⁻ + (a ⁺ + b ⁻)
sub a b = omega (arith, add a (neg_ℤ b), neg b)

-- the orders and equality, each way
pub le→ : {a b : ℤ} → a ≤ℤ b → a ⁺ + b ⁻ ≤ b ⁺ + a ⁻
le→ {a = pos a} {b = pos b} h = omega (arith, leb→le a b h.le)
le→ {a = pos a} {b = negsuc b} h = absurd h.le
le→ {a = negsuc a} {b = pos b} h = omega arith
le→ {a = negsuc a} {b = negsuc b} h = omega (arith, leb→le b a h.le)

to_le : (a b : ℤ) → a ⁺ + b ⁻ ≤ b ⁺ + a ⁻ → T (le_z a b)
to_le (pos a) (pos b) h = le→leb a b (omega arith)
to_le (pos a) (negsuc b) h = let no_way : ⊥ = omega arith in absurd no_way
to_le (negsuc a) (pos b) h = tt
to_le (negsuc a) (negsuc b) h = le→leb b a (omega arith)

pub →le : (a b : ℤ) → a ⁺ + b ⁻ ≤ b ⁺ + a ⁻ → a ≤ℤ b
→le a b h = record { le = to_le a b h }

pub lt→ : {a b : ℤ} → a <ℤ b → a ⁺ + b ⁻ < b ⁺ + a ⁻
lt→ {a = pos a} {b = pos b} h = omega (arith, ltb→lt a b h.lt)
lt→ {a = pos a} {b = negsuc b} h = absurd h.lt
lt→ {a = negsuc a} {b = pos b} h = omega arith
lt→ {a = negsuc a} {b = negsuc b} h = omega (arith, ltb→lt b a h.lt)

to_lt : (a b : ℤ) → a ⁺ + b ⁻ < b ⁺ + a ⁻ → T (lt_z a b)
to_lt (pos a) (pos b) h = lt→ltb a b (omega arith)
to_lt (pos a) (negsuc b) h = let no_way : ⊥ = omega arith in absurd no_way
to_lt (negsuc a) (pos b) h = tt
to_lt (negsuc a) (negsuc b) h = lt→ltb b a (omega arith)

pub →lt : (a b : ℤ) → a ⁺ + b ⁻ < b ⁺ + a ⁻ → a <ℤ b
→lt a b h = record { lt = to_lt a b h }

pub eq→ : {a b : ℤ} → a ≡ b → a ⁺ + b ⁻ ≡ b ⁺ + a ⁻
eq→ {a} e = subst (λ (x : ℤ). a ⁺ + x ⁻ ≡ x ⁺ + a ⁻) e refl

pub →eq : (a b : ℤ) → a ⁺ + b ⁻ ≡ b ⁺ + a ⁻ → a ≡ b
→eq (pos a) (pos b) h = ap pos (omega arith)
→eq (pos a) (negsuc b) h = let no_way : ⊥ = omega arith in absurd no_way
→eq (negsuc a) (pos b) h = let no_way : ⊥ = omega arith in absurd no_way
→eq (negsuc a) (negsuc b) h = ap negsuc (omega arith)

-- what `omega` reads a signed hypothesis by, and a goal
pub ruleset signed = (le→, →le, lt→, →lt, eq→, →eq)

-- the positive part: it grows with the number, and that of a sum is at most the sum of the parts
pub ⁺-mono : {a b : ℤ} → a ≤ℤ b → a ⁺ ≤ b ⁺
⁺-mono {a} {b} h = omega (arith, signed, one_zero a, one_zero b)

pub ⁺-add : (a b : ℤ) → (a +ℤ b) ⁺ ≤ a ⁺ + b ⁺
⁺-add a b = omega (arith, add a b, one_zero (a +ℤ b))

-- the absolute value
pub abs_is : (z : ℤ) → nat_abs z ≡ z ⁺ + z ⁻
abs_is (pos n) = omega arith
abs_is (negsuc n) = omega arith

pub ⁺-abs : (z : ℤ) → z ⁺ ≤ nat_abs z
⁺-abs z = omega (arith, abs_is z)

pub ⁺-sub : (a b : ℤ) → (a -ℤ b) ⁺ ≤ nat_abs a + nat_abs b
⁺-sub a b = omega (arith, sub a b, one_zero (a -ℤ b), abs_is a, abs_is b)

pub abs_add : (a b : ℤ) → nat_abs (a +ℤ b) ≤ nat_abs a + nat_abs b
abs_add a b = omega (arith, add a b, one_zero (a +ℤ b), abs_is a, abs_is b, abs_is (a +ℤ b))

-- the range of a signed number of any width
pub →sfits : {w : Width} (z : ℤ) → (z ⁺ < z ⁻ + 2 ^ hbits w) × (z ⁻ ≤ z ⁺ + 2 ^ hbits w) → SFits w z
→sfits (pos n) h = record { sfits = omega arith }
→sfits (negsuc n) h = record { sfits = omega arith }

pub fits_abs : {w : Width} (z : ℤ) → nat_abs z < 2 ^ hbits w → SFits w z
fits_abs z h = →sfits z (omega (arith, abs_is z))

sfits→ : {w : Width} {z : ℤ} → SFits w z → z ⁺ + z ⁻ ≤ 2 ^ hbits w
sfits→ {z = pos n} h = omega (arith, h.sfits)
sfits→ {z = negsuc n} h = omega (arith, h.sfits)

-- a signed number that is not negative, cast to an unsigned one: what the cast asks, and what it gives
pub to_unsigned : {w : Width} {z : ℤ} → SFits w z → pos 0 ≤ℤ z → T (non_neg z) × Fits w (nat_abs z)
to_unsigned {w} {z} f h = (yes_non_neg h, record { fits = omega (arith, abs_is z, sfits→ f, f.sfits, pow-bits w) })

pub to_unsigned_is : {z : ℤ} → pos 0 ≤ℤ z → nat_abs z ≡ z ⁺
to_unsigned_is {z} h = omega (arith, signed, abs_is z, one_zero z)

-- a signed local holds bits: what is read back from them. A call's result has its range as `mag z < ..`
pub back : {w : Width} {z : ℤ} → SFits w z → to_z w (of_z w z) ≡ z
back {w} {z} f = to_z-of_z w z f

pub back_ok : (w : Width) (z : ℤ) → mag z < 2 ^ hbits w → to_z w (of_z w z) ≡ z
back_ok w z h = to_z-of_z w z (record { sfits = h })
