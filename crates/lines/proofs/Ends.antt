-- The field at the front of a text is the first field of its line: what ends it, a tab, an LF or nothing, says what the rest of the line is.
-- One induction over the text; all else about lines is by these three cases.
use mathlib.Core.Path.{◌≡◌, refl, sym, ap, ap₂, ◌∙◌}
use mathlib.Core.Bool.{Bool, true, false}
use mathlib.Core.List.{List, [], ◌∷◌}
use Prim.Native.Nat.{ℕ, suc, ◌+◌}
use native.Mathlib.Omega.{arith}
use lib.Dec.{eqb}
use lib.ListN.{length, get_or}
use borrow.Author.Tests.{eqb-true, lt-ltb}
use Rattle.numbers.proofs.Lists.{first_cons}
use Rattle.methodology.specs.Text.{LF, tab, onto, split, fields}
use Rattle.methodology.specs.Lines.{index_of, has, before}
use Rattle.methodology.proofs.Splits.{ltb_suc}
use Rattle.fields.specs.Fields.{stops, size, front, ender, past}

-- the fields of the line at the front of a text
abbrev pub line_fields : List ℕ → List (List ℕ)
line_fields s = fields (before LF s)

-- a field that a tab ends: those after it are the fields of what follows
pub record Tab (s : List ℕ) : Type 0 where
  pub ends : ender s ≡ tab
  pub parts : line_fields s ≡ front s ∷ line_fields (past s)
  pub lined : has LF s ≡ has LF (past s)
  pub length_is : index_of LF s ≡ size s + 1 + index_of LF (past s)
  pub word_is : before tab s ≡ front s

-- a field that an LF ends is the line's last; the part up to the next tab goes on past it
pub record Last (s : List ℕ) : Type 0 where
  pub ends : ender s ≡ LF
  pub parts : line_fields s ≡ front s ∷ []
  pub lined : has LF s ≡ true
  pub length_is : index_of LF s ≡ size s
  pub word_is : get_or (before tab s) (size s) 0 ≡ LF

-- a field that nothing ends is all that is left
pub record Open (s : List ℕ) : Type 0 where
  pub ends : ender s ≡ 0
  pub lined : has LF s ≡ false
  pub word_is : before tab s ≡ s

pub data Ends (s : List ℕ) : Type 0 where
  at_tab : Tab s → Ends s
  at_lf : Last s → Ends s
  nowhere : Open s → Ends s

-- ---- one byte more at the front

tab_front : (s : List ℕ) → Tab (tab ∷ s)
unfolding split
tab_front s =
    let next = first_cons (λ x. eqb x LF) tab s refl in
    record { ends = refl; parts = rw next; lined = rw next (ltb_suc (index_of LF s) (length s)); length_is = omega arith; word_is = refl }

lf_front : (s : List ℕ) → Last (LF ∷ s)
unfolding split
lf_front s = record { ends = refl; parts = refl; lined = lt-ltb 0 (suc (length s)) (omega arith); length_is = refl; word_is = rw (first_cons (λ x. eqb x tab) LF s refl) }

module _ (x : ℕ) (s : List ℕ) (t : eqb x tab ≡ false) (l : eqb x LF ≡ false) where
  size_more : size (x ∷ s) ≡ suc (size s)
  size_more = first_cons stops x s (rw (t, l))

  index_more : index_of LF (x ∷ s) ≡ suc (index_of LF s)
  index_more = first_cons (λ y. eqb y LF) x s l

  word_more : before tab (x ∷ s) ≡ x ∷ before tab s
  word_more = rw (first_cons (λ y. eqb y tab) x s t)

  lined_more : has LF (x ∷ s) ≡ has LF s
  lined_more = rw index_more (ltb_suc (index_of LF s) (length s))

  past_more : past (x ∷ s) ≡ past s
  past_more = let z : suc (size s) + 1 ≡ suc (size s + 1) = omega arith in rw (size_more, z)

  front_more : front (x ∷ s) ≡ x ∷ front s
  front_more = rw size_more

  ender_more : ender (x ∷ s) ≡ ender s
  ender_more = rw size_more

  parts_more : (f : List ℕ) (fs : List (List ℕ)) → line_fields s ≡ f ∷ fs → line_fields (x ∷ s) ≡ (x ∷ f) ∷ fs
  unfolding split onto
  parts_more f fs e = rw (index_more, t, e)

  ends_more : Ends s → Ends (x ∷ s)
  ends_more (at_tab e) =
      at_tab (record {
        ends = ender_more ∙ e.ends;
        parts = parts_more _ _ e.parts ∙ ap₂ (λ (f : List ℕ) (y : List ℕ). f ∷ line_fields y) (sym front_more) (sym past_more);
        lined = lined_more ∙ e.lined ∙ ap (has LF) (sym past_more);
        length_is = rw (index_more, past_more, size_more) (omega (arith, e.length_is));
        word_is = word_more ∙ ap (λ (y : List ℕ). x ∷ y) e.word_is ∙ sym front_more;
      })
  ends_more (at_lf e) =
      at_lf (record {
        ends = ender_more ∙ e.ends;
        parts = parts_more _ _ e.parts ∙ ap (λ (f : List ℕ). f ∷ []) (sym front_more);
        lined = lined_more ∙ e.lined;
        length_is = rw (index_more, size_more) (ap suc e.length_is);
        word_is = rw (word_more, size_more) e.word_is;
      })
  ends_more (nowhere e) =
      nowhere (record { ends = ender_more ∙ e.ends; lined = lined_more ∙ e.lined; word_is = word_more ∙ ap (λ (y : List ℕ). x ∷ y) e.word_is })

ends_step : (t l : Bool) (x : ℕ) (s : List ℕ) → eqb x tab ≡ t → eqb x LF ≡ l → Ends s → Ends (x ∷ s)
ends_step true l x s t k e = rw (eqb-true x tab t) (at_tab (tab_front s))
ends_step false true x s t k e = rw (eqb-true x LF k) (at_lf (lf_front s))
ends_step false false x s t k e = ends_more x s t k e

pub ends : (s : List ℕ) → Ends s
ends [] = nowhere (record { ends = refl; lined = refl; word_is = refl })
ends (x ∷ s) = ends_step (eqb x tab) (eqb x LF) x s refl refl (ends s)
