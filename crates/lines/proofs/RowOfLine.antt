-- Fields read one after another up to the line's end are the fields of the line: as many as were due, or there is no row.
-- By the three ways in which a field ends.
use mathlib.Core.Path.{◌≡◌, refl, sym, ap, ◌∙◌}
use mathlib.Core.Bool.{Bool, true, false, cond}
use mathlib.Core.List.{List, [], ◌∷◌}
use Rattle.std.specs.Option.{option_eq}
use Rattle.std.specs.Prelude.{Option, None, Some}
use Prim.Native.Nat.{ℕ, zero, suc, ◌+◌, ◌<◌}
use native.Mathlib.Omega.{arith}
use lib.Dec.{eqb}
use lib.IntN.{ℤ}
use lib.ListN.{length, drop}
use lib.Seq.{drop-drop}
use borrow.Author.Tests.{eqb-true, eqb-false, eq-eqb, ne_eqb}
use Rattle.methodology.specs.Text.{LF, tab, also}
use Rattle.methodology.specs.Lines.{index_of, has, before, after}
use Rattle.methodology.proofs.Splits.{split_first}
use Rattle.fields.specs.Fields.{size, front, ender, past, value_of, value_at, due, row_at, past_row}
use Rattle.lines.specs.Forms.{values_of}
use Rattle.lines.proofs.Ends.{line_fields, Tab, Ends, at_tab, at_lf, nowhere, ends}

-- what is there only where every part is
abbrev there : Bool → Bool → Option (List ℤ) → Option (List ℤ)
there b c o = cond b (cond c o None) None

pub also_none : {A : Type 0} (o : Option A) → also o None ≡ None
unfolding also
also_none None = refl
also_none (Some x) = refl

also_there : (b c : Bool) (z : Option ℤ) (o : Option (List ℤ)) → also z (there b c o) ≡ there b c (also z o)
also_there false c z o = also_none z
also_there true false z o = also_none z
also_there true true z o = refl

there_none : (b : Bool) (o : Option (List ℤ)) → None ≡ there b false o
there_none false o = refl
there_none true o = refl

pub eqb_suc : (a b : ℕ) → eqb (suc a) (suc b) ≡ eqb a b
eqb_suc a b = by (eqb a b) refl
  where
    by : (t : Bool) → eqb a b ≡ t → eqb (suc a) (suc b) ≡ t
    by true e = eq-eqb (suc a) (suc b) (ap suc (eqb-true a b e))
    by false e = ne_eqb (suc a) (suc b) (λ z. eqb-false a b e (omega arith))

pub some_none : {A : Type 0} {x : A} → Some x ≡ None → ⊥
some_none e = let z : ◌≡◌ {A = ℕ} 0 1 = cc in omega arith

-- the values of the line's fields, if it is a line of n fields
abbrev pub row_of_line : (kind : Option ℕ) (j n : ℕ) → List ℕ → Option (List ℤ)
row_of_line kind j n s = there (has LF s) (eqb (length (line_fields s)) n) (values_of kind j (line_fields s))

-- a line has a field
some_field : (s : List ℕ) → (n : ℕ) × (length (line_fields s) ≡ suc n)
some_field s = (_, ap length (split_first tab (before LF s)))

row_step : (kind : Option ℕ) (j n : ℕ) (s : List ℕ) → ((m : ℕ) → n ≡ suc m → row_at kind (suc j) n (past s) ≡ row_of_line kind (suc j) n (past s)) → Ends s
    → row_at kind j (suc n) s ≡ row_of_line kind j (suc n) s
unfolding row_at value_at due values_of also
row_step kind j zero s ih (at_tab e) =
    let k = (some_field (past s)).1 in
    rw (e.ends, e.parts, ne_eqb (suc (length (line_fields (past s)))) 1 (λ z. omega arith)) (there_none (has LF s) (values_of kind j (front s ∷ line_fields (past s))))
row_step kind j zero s ih (at_lf e) = rw (e.ends, e.parts, e.lined)
row_step kind j zero s ih (nowhere e) = rw (e.ends, e.lined)
row_step kind j (suc n) s ih (at_tab e) =
    rw (e.ends, e.parts, ih n refl, e.lined, eqb_suc (length (line_fields (past s))) (suc n)) (also_there (has LF (past s)) (eqb (length (line_fields (past s))) (suc n)) (value_of (option_eq eqb (Some j) kind) (front s)) (values_of kind (suc j) (line_fields (past s))))
row_step kind j (suc n) s ih (at_lf e) = rw (e.ends, e.parts, ne_eqb 1 (suc (suc n)) (λ z. omega arith)) (there_none (has LF s) (values_of kind j (front s ∷ [])))
row_step kind j (suc n) s ih (nowhere e) = rw (e.ends, e.lined)

pub row_line : (kind : Option ℕ) (j n : ℕ) (s : List ℕ) → 0 < n → row_at kind j n s ≡ row_of_line kind j n s
row_line kind j zero s h = absurd (omega arith)
row_line kind j (suc n) s h = row_step kind j n s (λ m z. row_line kind (suc j) n (past s) (omega arith)) (ends s)

-- ---- what follows the row follows the line

pub also_some : {A : Type 0} (z : Option A) (o : Option (List A)) (l : List A) → also z o ≡ Some l → (m : List A) × (o ≡ Some m)
unfolding also
also_some None o l e = absurd (some_none (sym e))
also_some (Some x) None l e = absurd (some_none (sym e))
also_some (Some x) (Some m) l e = (m, refl)

pub also_first : {A : Type 0} (z : Option A) (o : Option (List A)) (l : List A) → also z o ≡ Some l → (x : A) × (z ≡ Some x)
unfolding also
also_first None o l e = absurd (some_none (sym e))
also_first (Some x) o l e = (x, refl)

value_end : (kind : Bool) (end : ℕ) (s : List ℕ) (o : Option (List ℤ)) (l : List ℤ) → also (value_at kind end s) o ≡ Some l → ender s ≡ end
unfolding value_at also
value_end kind end s o l e = by (eqb (ender s) end) refl
  where
    by : (b : Bool) → eqb (ender s) end ≡ b → ender s ≡ end
    by true k = eqb-true (ender s) end k
    by false k = absurd (some_none (sym (rw k at e)))

pub after_tab : (s : List ℕ) → Tab s → after LF (past s) ≡ after LF s
after_tab s e =
    let z : size s + 1 + suc (index_of LF (past s)) ≡ suc (index_of LF s) = let k = e.length_is in omega arith in
    drop-drop (suc (index_of LF (past s))) (size s + 1) s ∙ ap (λ (m : ℕ). drop m s) z

past_step : (kind : Option ℕ) (j n : ℕ) (s : List ℕ) (l : List ℤ) → ((m : List ℤ) (i : ℕ) → n ≡ suc i → row_at kind (suc j) n (past s) ≡ Some m → past_row n (past s) ≡ after LF (past s)) → Ends s
    → row_at kind j (suc n) s ≡ Some l → past_row (suc n) s ≡ after LF s
unfolding row_at past_row due
past_step kind j zero s l ih (at_tab e) r = absurd (let k = value_end _ _ s _ l r in let m = e.ends in omega arith)
past_step kind j zero s l ih (at_lf e) r = let z : size s + 1 ≡ suc (index_of LF s) = let k = e.length_is in omega arith in ap (λ (m : ℕ). drop m s) z
past_step kind j zero s l ih (nowhere e) r = absurd (let k = value_end _ _ s _ l r in let m = e.ends in omega arith)
past_step kind j (suc n) s l ih (at_tab e) r =
    let (m, k) = also_some _ _ l r in
    ih m n refl k ∙ after_tab s e
past_step kind j (suc n) s l ih (at_lf e) r = absurd (let k = value_end _ _ s _ l r in let m = e.ends in omega arith)
past_step kind j (suc n) s l ih (nowhere e) r = absurd (let k = value_end _ _ s _ l r in let m = e.ends in omega arith)

pub past_line : (kind : Option ℕ) (j n : ℕ) (s : List ℕ) (l : List ℤ) → 0 < n → row_at kind j n s ≡ Some l → past_row n s ≡ after LF s
past_line kind j zero s l h r = absurd (omega arith)
past_line kind j (suc n) s l h r = past_step kind j n s l (λ m i z k. past_line kind (suc j) n (past s) m (omega arith) k) (ends s) r

-- and an LF ends the line
pub row_lined : (kind : Option ℕ) (j n : ℕ) (s : List ℕ) (l : List ℤ) → 0 < n → row_at kind j n s ≡ Some l → has LF s ≡ true
row_lined kind j n s l h r = by (has LF s) (sym (row_line kind j n s h) ∙ r)
  where
    by : (b : Bool) → there b (eqb (length (line_fields s)) n) (values_of kind j (line_fields s)) ≡ Some l → b ≡ true
    by true e = refl
    by false e = absurd (some_none (sym e))
