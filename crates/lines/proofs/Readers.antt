-- What the readers of numbers and of an account answer, from the row that was read: one law for each exit.
-- A row that is no form's is refused by its signs alone; the kind's value is never negative.
use Rattle.std.proofs.Common.{◌≡◌, ℕ, zero, suc, ◌+◌, ◌^◌, ◌<◌, ◌≤◌, Bool, true, false, not, ◌&&◌, cond, eqb, List, [], ◌∷◌, map, length, get_or, take, drop, set, ℤ, pos, sym, refl, ◌∙◌, subst, add-one, arith, length-set, take_all, take-suc, take-suc-set, w64, Fits, to_z, of_z, eq-eqb, le-ltb}
use Rattle.std.specs.Prelude.{Option, None, Some}
use mathlib.Core.List.{map-append}
use lib.Dec.{T}
use lib.IntN.{nat_abs}
use lib.Signed.{◌≤ℤ◌, non_neg, mag, lt_z_no}
use mir.Val.{hbits}
use Rattle.numbers.specs.Signed.{◌⁺}
use Rattle.numbers.proofs.Signed.{back_ok, to_unsigned, to_unsigned_is}
use Rattle.numbers.proofs.Lists.{NoneBefore, none_before, none_more, any_found, any_none}
use Rattle.methodology.specs.Text.{LF, bytes, same, fields, kind_of, also, bad_bytes, numbers_after, account_of}
use Rattle.methodology.specs.Lines.{has, before, line_read}
use Rattle.fields.specs.Fields.{value_of}
use Rattle.lines.specs.Forms.{values_of, row_after, line_row, is_negative}
use Rattle.lines.proofs.RowOfLine.{some_none}
use Rattle.lines.proofs.Ascii.{foreign}
use Rattle.lines.proofs.FormsAsRows.{naturals, numbers_row, signs_wrong, account_in, account_from, account_row}

some_same : {A : Type 0} {x y : A} → Some x ≡ Some y → x ≡ y
some_same e = cc

-- ---- signs

natural_is : (z : ℤ) → is_negative z ≡ false → pos 0 ≤ℤ z
natural_is z e = lt_z_no (subst (λ (t : Bool). T (not t)) (sym e) tt)

-- the cast of what is not negative: what it asks, and what it gives
pub cast_asks : (z : ℤ) → mag z < 2 ^ hbits w64 → is_negative z ≡ false → T (non_neg (to_z w64 (of_z w64 z))) × Fits w64 (nat_abs (to_z w64 (of_z w64 z)))
cast_asks z f e = rw (back_ok w64 z f) (to_unsigned (record { sfits = f }) (natural_is z e))

pub cast_gives : (z : ℤ) → mag z < 2 ^ hbits w64 → is_negative z ≡ false → nat_abs (to_z w64 (of_z w64 z)) ≡ z ⁺
cast_gives z f e = rw (back_ok w64 z f) (to_unsigned_is (natural_is z e))

-- what `natural` says of a signed local, whose bits are read back
module _ (z : ℤ) (fits : mag z < 2 ^ hbits w64) where
  abbrev told : Option ℕ
  told = let y = to_z w64 (of_z w64 z) in cond (is_negative y) None (Some (y ⁺))

  pub natural_none : None ≡ told → is_negative z ≡ true
  natural_none e = by (is_negative z) (rw (back_ok w64 z fits) at e)
    where
      by : (t : Bool) → None ≡ cond t None (Some (z ⁺)) → t ≡ true
      by true e = refl
      by false e = absurd (some_none (sym e))

  pub natural_some : (v : ℕ) → Some v ≡ told → (is_negative z ≡ false) × (v ≡ z ⁺)
  natural_some v e = by (is_negative z) (rw (back_ok w64 z fits) at e)
    where
      by : (t : Bool) → Some v ≡ cond t None (Some (z ⁺)) → (t ≡ false) × (v ≡ z ⁺)
      by true e = absurd (some_none e)
      by false e = (refl, some_same e)

-- ---- numbers

-- the first j values are none of them negative, and stand among the numbers
pub record Copied (values : List ℤ) (numbers : List ℕ) (j : ℕ) : Type 0 where
  pub long : length numbers ≡ length values
  pub natural : NoneBefore is_negative values (pos 0) j
  pub copied : take j numbers ≡ map (λ z. z ⁺) (take j values)

pub copied_none : (values : List ℤ) (numbers : List ℕ) → length numbers ≡ length values → Copied values numbers 0
copied_none values numbers h = record { long = h; natural = none_before _ _ _; copied = refl }

module _ {values : List ℤ} {numbers : List ℕ} {j : ℕ} (c : Copied values numbers j) where
  abbrev z : ℤ
  z = get_or values j (pos 0)

  pub copied_more : (v : ℕ) → j < length values → is_negative z ≡ false → v ≡ z ⁺ → Copied values (set numbers j v) (j + 1)
  copied_more v h e k =
      record {
        long = length-set numbers j v ∙ c.long;
        natural = none_more is_negative values (pos 0) j h e c.natural;
        copied = rw (add-one j, take-suc values j (pos 0) h, take-suc-set numbers j v (omega (arith, c.long)), c.copied, k, map-append (λ z. z ⁺) (take j values) (z ∷ []));
      }

-- the row's values, or none
module _ (word : List ℕ) (n : ℕ) (s : List ℕ) where
  pub no_numbers : line_row word None n s ≡ None → line_read (numbers_after word n) s ≡ None
  unfolding naturals
  no_numbers e = numbers_row word n s ∙ rw e

  module _ {values : List ℤ} {j : ℕ} (read : line_row word None n s ≡ Some values) where
    pub some_negative : j < length values → is_negative (get_or values j (pos 0)) ≡ true → line_read (numbers_after word n) s ≡ None
    unfolding naturals
    some_negative h e = numbers_row word n s ∙ rw (read, any_found is_negative values (pos 0) j h e)

    pub all_natural : {numbers : List ℕ} → Copied values numbers j → length values ≤ j → line_read (numbers_after word n) s ≡ Some numbers
    unfolding naturals
    all_natural {numbers} c h =
        let all : numbers ≡ map (λ z. z ⁺) values = sym (take_all j numbers (omega (arith, c.long))) ∙ c.copied ∙ rw (take_all j values h) in
        numbers_row word n s ∙ rw (read, any_none is_negative values (pos 0) j h c.natural, ← all)

-- ---- the kind

kind_natural : (f : List ℕ) (z : ℤ) → value_of true f ≡ Some z → is_negative z ≡ false
unfolding value_of
kind_natural f z e = by (foreign f) e
  where
    by : (t : Bool) → cond t None (Some (pos (kind_of f))) ≡ Some z → is_negative z ≡ false
    by true e = absurd (some_none (sym e))
    by false e = rw (sym (some_same e)) (le-ltb (kind_of f) 0 (omega arith))

also_parts : (z : Option ℤ) (o : Option (List ℤ)) (l : List ℤ) → also z o ≡ Some l → (x : ℤ) × (m : List ℤ) × (z ≡ Some x) × (o ≡ Some m) × (x ∷ m ≡ l)
unfolding also
also_parts None o l e = absurd (some_none (sym e))
also_parts (Some x) None l e = absurd (some_none (sym e))
also_parts (Some x) (Some m) l e = (x, m, refl, refl, some_same e)

values_kind : (kind d j : ℕ) (fs : List (List ℕ)) (l : List ℤ) → j + d ≡ kind → values_of (Some kind) j fs ≡ Some l → is_negative (get_or l d (pos 0)) ≡ false
unfolding values_of also
values_kind kind d j [] l h e = rw (sym (some_same e)) refl
values_kind kind d j (f ∷ fs) l h e =
    let (z, m, y, k, q) = also_parts (value_of (eqb j kind) f) (values_of (Some kind) (suc j) fs) l e in
    subst (λ (x : List ℤ). is_negative (get_or x d (pos 0)) ≡ false) q (by d z m h y (λ i g. values_kind kind i (suc j) fs m g k))
  where
    by : (d : ℕ) (z : ℤ) (m : List ℤ) → j + d ≡ kind → value_of (eqb j kind) f ≡ Some z → ((i : ℕ) → suc j + i ≡ kind → is_negative (get_or m i (pos 0)) ≡ false)
        → is_negative (get_or (z ∷ m) d (pos 0)) ≡ false
    by zero z m h y k = kind_natural f z (rw (eq-eqb j kind (omega arith)) at y)
    by (suc d) z m h y k = k d (omega arith)

only : {A : Type 0} (b : Bool) (o : Option A) (x : A) → cond b o None ≡ Some x → o ≡ Some x
only true o x e = e
only false o x e = absurd (some_none (sym e))

pub row_kind : (word : List ℕ) (kind n : ℕ) (s : List ℕ) (l : List ℤ) → line_row word (Some kind) n s ≡ Some l → is_negative (get_or l kind (pos 0)) ≡ false
unfolding line_read row_after
row_kind word kind n s l e =
    let fs = fields (before LF s) in
    values_kind kind kind 0 (drop 1 fs) l (omega arith)
    (only (same (get_or fs 0 []) word && eqb (length fs) (suc n)) _ l (only (has LF s && not (bad_bytes (before LF s))) _ l e))

-- ---- an account

module _ (s : List ℕ) (k : ℕ) {n : ℕ} (long : suc n ≡ 7 + k) where
  pub no_account : line_row (bytes "acct") (Some 2) n s ≡ None → line_read (account_of k) s ≡ None
  unfolding account_from
  no_account e = account_row k n s long ∙ rw e

  module _ {values : List ℤ} (read : line_row (bytes "acct") (Some 2) n s ≡ Some values) where
    pub signs_bad : signs_wrong values ≡ true → line_read (account_of k) s ≡ None
    unfolding account_from
    signs_bad e = account_row k n s long ∙ rw (read, e)

    pub signs_good : signs_wrong values ≡ false → line_read (account_of k) s ≡ Some (account_in values)
    unfolding account_from
    signs_good e = account_row k n s long ∙ rw (read, e)
