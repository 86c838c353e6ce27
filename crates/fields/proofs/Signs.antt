-- A signed number: the number that a text begins with, or the one after its minus.
use Rattle.std.proofs.Common.{◌≡◌, ℕ, suc, ◌<◌, Bool, true, false, cond, ◌&&◌, eqb, List, [], ◌∷◌, length, ◌+◌, take, drop, pos, ◌-ℤ◌, neg_ℤ, sym, refl, ap, ◌∙◌, arith, w64, SFits, to_z, of_z, ne_eqb, eqb-true}
use mathlib.Core.Bool.{true≢false}
use Rattle.std.specs.Prelude.{Option, None, Some, MatchOption, unwrap_or}
use Rattle.std.specs.Borrow.{Bor}
use Rattle.std.specs.Cmp.Lexicographic.{pointwise}
use lib.IntN.{+ℤ_idl}
use mir.ValLaws.{to_z_pos}
use Rattle.numbers.proofs.Lists.{first_cons}
use Rattle.numbers.proofs.Signed.{abs_is, neg, fits_abs, back}
use Rattle.methodology.specs.Text.{number_of, below0, above0, signed_of}
use Rattle.fields.specs.Fields.{stops, size, front, past, ender, number_at, value_of, value_at}
use Rattle.fields.proofs.DigitsRead.{number_bound}
use Rattle.fields.proofs.OneValue.{where_held}

-- ---- a number of 13 digits is an i64, and so is its negative

pub read_small : (end : ℕ) (s : List ℕ) (v : ℕ) → number_at end s ≡ Some v → v < 10000000000000
unfolding number_at
read_small end s v e = omega (arith, number_bound (front s) v (where_held (eqb (ender s) end) (number_of (front s)) v e))

module _ (v : ℕ) (h : v < 10000000000000) where
  pub plain_is : to_z w64 v ≡ pos v
  plain_is = to_z_pos w64 v (omega arith)

  minus_is : pos 0 -ℤ to_z w64 v ≡ neg_ℤ (pos v)
  minus_is = rw plain_is (+ℤ_idl (neg_ℤ (pos v)))

  negative_fits : SFits w64 (neg_ℤ (pos v))
  negative_fits = fits_abs (neg_ℤ (pos v)) (omega (arith, abs_is (neg_ℤ (pos v)), neg (pos v)))

  pub minus_fits : SFits w64 (pos 0 -ℤ to_z w64 v)
  minus_fits = rw minus_is negative_fits

  pub negative_is : to_z w64 (of_z w64 (pos 0 -ℤ to_z w64 v)) ≡ neg_ℤ (pos v)
  negative_is = rw minus_is (back negative_fits)

-- ---- the field

-- whether a text begins with a minus
abbrev pub minus : List ℕ → Bool
minus s = pointwise eqb (take 1 s) (45 ∷ [])

above_when : (t : Bool) (n : Option ℕ) → cond t (above0 n) None ≡ above0 (cond t n None)
unfolding above0
above_when true n = refl
above_when false n = refl

below_when : (t : Bool) (n : Option ℕ) → cond t (below0 n) None ≡ below0 (cond t n None)
unfolding below0
below_when true n = refl
below_when false n = refl

-- a field that begins with no minus
plain_front : (x : ℕ) (s : List ℕ) → eqb x 45 ≡ false → signed_of (front (x ∷ s)) ≡ above0 (number_of (front (x ∷ s)))
unfolding signed_of
plain_front x s e = by (stops x) refl
  where
    by : (t : Bool) → stops x ≡ t → signed_of (front (x ∷ s)) ≡ above0 (number_of (front (x ∷ s)))
    by true k = rw k
    by false k = rw (first_cons stops x s k, e)

past_minus : (s : List ℕ) → past (45 ∷ s) ≡ past s
past_minus s = let z : 1 + size s + 1 ≡ suc (size s + 1) = omega arith in rw z

module _ (end : ℕ) where
  plain_signed : (s : List ℕ) → minus s ≡ false → value_at false end s ≡ above0 (number_at end s)
  unfolding value_at value_of number_at signed_of
  plain_signed [] e = above_when (eqb 0 end) (number_of [])
  plain_signed (x ∷ s) e = rw (plain_front x s (begins (eqb x 45) e)) (above_when (eqb (ender (x ∷ s)) end) (number_of (front (x ∷ s))))
    where
      begins : (t : Bool) → (t && true) ≡ false → t ≡ false
      begins true e = e
      begins false e = refl

  minus_signed : (s : List ℕ) → minus s ≡ true → (value_at false end s ≡ below0 (number_at end (drop 1 s))) × (past s ≡ past (drop 1 s))
  unfolding value_at value_of number_at signed_of
  minus_signed [] e = absurd (true≢false (sym e))
  minus_signed (x ∷ s) e = rw (eqb-true x 45 (begins (eqb x 45) e)) (rw (first_cons stops 45 s refl) (below_when (eqb (ender s) end) (number_of (front s))), past_minus s)
    where
      begins : (t : Bool) → (t && true) ≡ true → t ≡ true
      begins true e = refl
      begins false e = e

  -- what a reader of the number in u says: u is s, or what follows its minus
  module _ (s u : List ℕ) where
    pub plain_none : minus s ≡ false → u ≡ s → number_at end u ≡ None → value_at false end s ≡ None
    unfolding above0
    plain_none m same e = plain_signed s m ∙ rw (← same, e)

    pub plain_some : (v : ℕ) → minus s ≡ false → u ≡ s → number_at end u ≡ Some v → (value_at false end s ≡ Some (to_z w64 v)) × (past u ≡ past s)
    unfolding above0
    plain_some v m same e = (plain_signed s m ∙ rw (← same, e, plain_is v (read_small end u v e)), ap past same)

    pub minus_none : minus s ≡ true → u ≡ drop 1 s → number_at end u ≡ None → value_at false end s ≡ None
    unfolding below0
    minus_none m same e = (minus_signed s m).0 ∙ rw (← same, e)

    pub minus_zero : (v : ℕ) → minus s ≡ true → u ≡ drop 1 s → number_at end u ≡ Some v → v ≡ 0 → value_at false end s ≡ None
    unfolding below0
    minus_zero v m same e z = (minus_signed s m).0 ∙ rw (← same, e, z)

    pub minus_some : (v : ℕ) → minus s ≡ true → u ≡ drop 1 s → number_at end u ≡ Some v → (v ≡ 0 → ⊥)
        → (value_at false end s ≡ Some (to_z w64 (of_z w64 (pos 0 -ℤ to_z w64 v)))) × (past u ≡ past s)
    unfolding below0
    minus_some v m same e n =
        ((minus_signed s m).0 ∙ rw (← same, e, ne_eqb v 0 n, negative_is v (read_small end u v e)), ap past same ∙ sym (minus_signed s m).1)

  -- whichever of the two u is
  pub neither_none : (text u : Bor (List ℕ)) (o : Option (Bor (List ℕ)))
      → MatchOption o (minus text.now ≡ false) (λ x. (minus text.now ≡ true) × (x.now ≡ drop 1 text.now) × (length x.now + 1 ≡ length text.now))
      → u ≡ unwrap_or o text → number_at end u.now ≡ None → value_at false end text.now ≡ None
  neither_none text u None m same e = plain_none text.now u.now m (ap (λ (b : Bor (List ℕ)). b.now) same) e
  neither_none text u (Some x) m same e = minus_none text.now u.now m.0 (ap (λ (b : Bor (List ℕ)). b.now) same ∙ m.1) e
