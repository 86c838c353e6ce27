-- The values of a line's fields: where all are there, the line is ASCII. By cases on what each field is.
use mathlib.Core.Path.{◌≡◌, refl, sym, ap, ◌∙◌}
use mathlib.Core.Bool.{Bool, true, false, not, ◌&&◌, ◌||◌, cond, or_assoc}
use mathlib.Core.List.{List, [], ◌∷◌}
use Rattle.std.specs.Option.{option_eq}
use Rattle.std.specs.Prelude.{Option, None, Some}
use Prim.Native.Nat.{ℕ, suc}
use native.Mathlib.Omega.{arith}
use lib.Dec.{eqb, ltb}
use lib.IntN.{ℤ, pos}
use lib.ListN.{length, get_or}
use borrow.Author.Tests.{eqb-true, le-ltb, ltb-false}
use Rattle.std.specs.List.{list_any}
use Rattle.numbers.proofs.Tests.{neither}
use Rattle.numbers.proofs.Lists.{any_false, none_any}
use Rattle.methodology.specs.Refusals.{outside}
use Rattle.methodology.specs.Text.{is_digit, value_from, number_of, below0, above0, signed_of, kind_of, onto, split}
use Rattle.methodology.proofs.Splits.{split_first}
use Rattle.fields.specs.Fields.{value_of}
use Rattle.lines.specs.Forms.{values_of}
use Rattle.lines.proofs.RowOfLine.{some_none, also_first, also_some}

-- ---- ASCII

abbrev pub foreign : List ℕ → Bool
foreign s = list_any (ltb 127) s

-- what holds of no byte holds of no byte of a part
module _ (p : ℕ → Bool) (b : ℕ) (other : p b ≡ false) where
  onto_any : (x : ℕ) (s : List ℕ) (parts : List (List ℕ)) (f : List ℕ) (fs : List (List ℕ)) → parts ≡ f ∷ fs → list_any p s ≡ list_any (list_any p) parts → list_any p (x ∷ s) ≡ list_any (list_any p) (onto x parts)
  unfolding onto
  onto_any x s parts f fs e ih = rw (e) (ap (λ (t : Bool). p x || t) (rw e at ih) ∙ sym (or_assoc (p x) (list_any p f) (list_any (list_any p) fs)))

  split_step : (t : Bool) (x : ℕ) (s : List ℕ) → eqb x b ≡ t → list_any p s ≡ list_any (list_any p) (split b s) → list_any p (x ∷ s) ≡ list_any (list_any p) (cond t ([] ∷ split b s) (onto x (split b s)))
  split_step true x s e ih = rw (eqb-true x b e, other) ih
  split_step false x s e ih = onto_any x s (split b s) _ _ (split_first b s) ih

  pub any_split : (s : List ℕ) → list_any p s ≡ list_any (list_any p) (split b s)
  unfolding split
  any_split [] = refl
  any_split (x ∷ s) = split_step (eqb x b) x s refl (any_split s)

digit_ascii : (x : ℕ) → not (is_digit x) ≡ false → ltb 127 x ≡ false
digit_ascii x e =
    let (h, k) = neither (ltb x 48) (ltb 57 x) (not_not (ltb x 48 || ltb 57 x) e) in
    le-ltb 127 x (let l = ltb-false 57 x k in omega arith)
  where
    not_not : (t : Bool) → not (not t) ≡ false → t ≡ false
    not_not true e = e
    not_not false e = refl

number_ascii : (f : List ℕ) (v : ℕ) → number_of f ≡ Some v → foreign f ≡ false
unfolding number_of
number_ascii f v e = by (outside 1 13 (length f)) (list_any (λ b. not (is_digit b)) f) refl e
  where
    by : (a t : Bool) → list_any (λ b. not (is_digit b)) f ≡ t → cond (a || t || eqb (get_or f 0 0) 48 && ltb 1 (length f)) None (Some (value_from 0 f)) ≡ Some v → foreign f ≡ false
    by true t k e = absurd (some_none (sym e))
    by false true k e = absurd (some_none (sym e))
    by false false k e = none_any (ltb 127) f (λ x m. digit_ascii x (any_false (λ b. not (is_digit b)) k m))

signed_ascii : (f : List ℕ) (z : ℤ) → signed_of f ≡ Some z → foreign f ≡ false
unfolding signed_of below0 above0
signed_ascii [] z e = refl
signed_ascii (x ∷ f) z e = by (eqb x 45) refl e
  where
    below : (o : Option ℕ) → below0 o ≡ Some z → (v : ℕ) × (o ≡ Some v)
    below None e = absurd (some_none (sym e))
    below (Some v) e = (v, refl)

    above : (o : Option ℕ) → above0 o ≡ Some z → (v : ℕ) × (o ≡ Some v)
    above None e = absurd (some_none (sym e))
    above (Some v) e = (v, refl)

    by : (t : Bool) → eqb x 45 ≡ t → cond t (below0 (number_of f)) (above0 (number_of (x ∷ f))) ≡ Some z → foreign (x ∷ f) ≡ false
    by true k e = let (v, h) = below (number_of f) e in rw (eqb-true x 45 k) (number_ascii f v h)
    by false k e = let (v, h) = above (number_of (x ∷ f)) e in number_ascii (x ∷ f) v h

value_ascii : (kind : Bool) (f : List ℕ) (z : ℤ) → value_of kind f ≡ Some z → foreign f ≡ false
unfolding value_of
value_ascii true f z e = by (foreign f) e
  where
    by : (t : Bool) → cond t None (Some (pos (kind_of f))) ≡ Some z → t ≡ false
    by true e = absurd (some_none (sym e))
    by false e = refl
value_ascii false f z e = signed_ascii f z e

pub values_ascii : (kind : Option ℕ) (j : ℕ) (fs : List (List ℕ)) (l : List ℤ) → values_of kind j fs ≡ Some l → list_any foreign fs ≡ false
unfolding values_of
values_ascii kind j [] l e = refl
values_ascii kind j (f ∷ fs) l e =
    let (z, h) = also_first _ _ l e in
    let (m, k) = also_some _ _ l e in
    rw (value_ascii (option_eq eqb (Some j) kind) f z h) (values_ascii kind (suc j) fs m k)
