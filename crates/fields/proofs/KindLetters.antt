-- A kind: its letter, and its value where a byte ends its field.
use Rattle.std.proofs.Common.{◌≡◌, ℕ, suc, true, false, ltb, List, [], ◌∷◌, length, get_or, take, ℤ, pos, refl, ap, ◌∙◌, eqb, arith, ne_eqb}
use mathlib.Core.Bool.{and-false}
use Rattle.std.specs.Prelude.{None, Some}
use Rattle.std.specs.List.{list_any}
use Rattle.methodology.specs.Text.{bytes, same, kind_of}
use Rattle.fields.specs.Fields.{size, front, ender, value_of, value_at}
use Rattle.fields.proofs.OneValue.{its_end}

-- ---- its letter

other_length : (a b : List ℕ) → (length a ≡ length b → ⊥) → same a b ≡ false
unfolding same
other_length [] [] h = absurd (h refl)
other_length [] (y ∷ b) h = refl
other_length (x ∷ a) [] h = refl
other_length (x ∷ a) (y ∷ b) h = rw (other_length a b (λ e. h (ap suc e))) (and-false (eqb x y))

-- a field of one byte is that byte alone
pub kind_letter : (f : List ℕ) (x : ℕ) → length f ≡ 1 → get_or f 0 0 ≡ x → kind_of f ≡ kind_of (x ∷ [])
kind_letter [] x h e = absurd (omega arith)
kind_letter (y ∷ []) x h e = ap (λ (z : ℕ). kind_of (z ∷ [])) e
kind_letter (y ∷ z ∷ f) x h e = absurd (omega arith)

pub kind_longer : (f : List ℕ) → (length f ≡ 1 → ⊥) → kind_of f ≡ 9
unfolding kind_of bytes
kind_longer f h = rw (other_length f (bytes "H") h, other_length f (bytes "R") h, other_length f (bytes "A") h, other_length f (bytes "U") h)

pub kind_other_letter : (f : List ℕ) → length f ≡ 1 → (get_or f 0 0 ≡ 72 → ⊥) → (get_or f 0 0 ≡ 82 → ⊥) → (get_or f 0 0 ≡ 65 → ⊥) → (get_or f 0 0 ≡ 85 → ⊥) → kind_of f ≡ 9
unfolding kind_of bytes same
kind_other_letter [] l h r a u = absurd (omega arith)
kind_other_letter (x ∷ []) l h r a u = rw (ne_eqb x 72 h, ne_eqb x 82 r, ne_eqb x 65 a, ne_eqb x 85 u)
kind_other_letter (x ∷ y ∷ f) l h r a u = absurd (omega arith)

-- ---- a field of i bytes that the byte `end` ends

module _ (end : ℕ) (s : List ℕ) (i : ℕ) (size_is : size s ≡ i) (ends : ender s ≡ end) where
  front_is : front s ≡ take i s
  front_is = ap (λ (n : ℕ). take n s) size_is

  pub kind_bad : list_any (ltb 127) (take i s) ≡ true → value_at true end s ≡ None
  unfolding value_of
  kind_bad h = its_end true end s ends ∙ rw (front_is, h)

  pub kind_good : {z : ℤ} → list_any (ltb 127) (take i s) ≡ false → z ≡ pos (kind_of (take i s)) → value_at true end s ≡ Some z
  unfolding value_of
  kind_good h k = its_end true end s ends ∙ rw (front_is, h, k)
